-- `walks::few_blank` meets its contract. The loop's invariant: the first i words are added up.
use mathlib.Core.Path.{◌∙◌}
use native.Mathlib.Omega.{arith}
use Rattle.spans.proofs.Sums.{adding-first, adding-next, adding-done}
use Rattle.walks.proofs.few_blank.Goals as goal

pub loop-i-init : goal.loop-i-init
loop-i-init g c = let a = c.args in adding-first (g.E.Form.words_in a.lent.now) a.a a.n

pub overflow_add-sum : goal.overflow_add-sum
overflow_add-sum g c = omega (arith, c.loop-i.invariant.small)

pub loop-i-preserved : goal.loop-i-preserved
loop-i-preserved g c =
    let a = c.args in
    adding-next (g.E.Form.words_in a.lent.now) a.a a.n c.loop-i.i c.loop-i.sum c.from-sum.result c.loop-i.invariant
    (omega arith) (c.from-sum.ensures ∙ rw c.from.ensures at c.word.ensures) (omega arith)

pub returns : goal.returns
returns g c =
    let a = c.args in
    adding-done (g.E.Form.words_in a.lent.now) a.a a.n c.loop-i.i c.loop-i.sum c.loop-i.invariant (omega arith)
