use Prim.Native.Nat.{◌-◌}
use Rattle.layout.specs.Words.{cell_count}
use Rattle.mending.specs.Mending.{wipes, wipes_from}
use Rattle.mending.proofs.Making.{Made}
use Rattle.wipes.proofs.wipe.Given as goal

abbrev pub invariant-loop-c : goal.invariant-loop-c
invariant-loop-c g l =
    let f = g.E.Form in
    Made f.after (wipes l.l (f.words_in l.fn.lent)) l.allowance l.fn.lent l.made (wipes_from l.l (f.words_in l.lent) l.c (cell_count l.l - l.c)) l.lent
