use Prim.Native.Nat.{◌+◌}
use mathlib.Core.Path.{◌≡◌}
use lib.ListN.{length}
use Rattle.mending.proofs.Wiping.{row_left}
use Rattle.counts.proofs.row_wipes.Given as goal

abbrev pub invariant-loop-b : goal.invariant-loop-b
invariant-loop-b g l =
    let w = g.E.Form.words_in l.s.lent.now in
    l.count + length (row_left w l.b (l.a + l.n)) ≡ length (row_left w l.a (l.a + l.n))
