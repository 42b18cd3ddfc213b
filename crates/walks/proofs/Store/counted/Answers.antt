-- `Store::counted` meets its contract. The loop's invariant: n is the sum of the counts of the lists below k.
use native.Mathlib.Omega.{arith}
use Rattle.lists.specs.Decide.{count_in}
use Rattle.spans.proofs.Counts.{sum-none, sum_more}
use Rattle.walks.proofs.Store.counted.Goals as goal

pub loop-k-init : goal.loop-k-init
loop-k-init g c =
    let s = c.args.self.now in (sum-none (count_in s.layout (g.E.Form.words_in s.lent.now)), omega arith)

pub overflow_add-n : goal.overflow_add-n
overflow_add-n g c = omega (arith, c.args.self.now.laid.in_range.lists)

pub loop-k-preserved : goal.loop-k-preserved
loop-k-preserved g c =
    let s = c.args.self.now in
    let f = count_in s.layout (g.E.Form.words_in s.lent.now) in
    (omega (arith, c.loop-k.invariant.0, sum_more f c.loop-k.k, c.from-n.ensures, c.count.ensures), omega arith)
