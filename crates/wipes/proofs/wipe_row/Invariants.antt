use Prim.Native.Nat.{◌+◌}
use lib.ListN.{replicate}
use Rattle.stores.specs.Stores.{in_row}
use Rattle.recovery.specs.Fits.{wrong}
use Rattle.mending.proofs.Making.{Made}
use Rattle.mending.proofs.Wiping.{row_left}
use Rattle.wipes.proofs.wipe_row.Given as goal

abbrev pub invariant-loop-b : goal.invariant-loop-b
invariant-loop-b g l =
    let f = g.E.Form in
    Made f.after (wrong (f.words_in l.fn.lent) (in_row l.a (replicate l.n 0))) l.allowance l.fn.lent l.made (row_left (f.words_in l.lent) l.b (l.a + l.n)) l.lent
