use Prim.Native.Nat.{◌*◌, ◌≤◌}
use mathlib.Core.Path.{◌≡◌}
use Rattle.lists.specs.Decide.{count_in}
use Rattle.spans.specs.Spans.{count_sum}
use Rattle.walks.proofs.Store.counted.Given as goal

abbrev pub invariant-loop-k : goal.invariant-loop-k
invariant-loop-k g l =
    (l.n ≡ count_sum (count_in l.self.layout (g.E.Form.words_in l.self.lent.now)) l.k) × (l.n ≤ l.k * 65535)
