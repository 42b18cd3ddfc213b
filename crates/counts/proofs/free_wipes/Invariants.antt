use Prim.Native.Nat.{◌+◌}
use mathlib.Core.Path.{◌≡◌}
use lib.ListN.{length}
use Rattle.mending.specs.Mending.{wipes}
use Rattle.mending.proofs.Counting.{wipes_left}
use Rattle.counts.proofs.free_wipes.Given as goal

abbrev pub invariant-loop-c : goal.invariant-loop-c
invariant-loop-c g l =
    let w = g.E.Form.words_in l.s.lent.now in
    l.count + wipes_left l.s.layout w l.c ≡ length (wipes l.s.layout w)
