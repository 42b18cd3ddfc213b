use Rattle.mending.specs.Mending.{clears}
use Rattle.mending.proofs.Clearing.{clears_from}
use Rattle.mending.proofs.Making.{Made}
use Rattle.clears.proofs.clear.Given as goal

abbrev pub invariant-loop-i : goal.invariant-loop-i
invariant-loop-i g l =
    Made g.E.Form.after (clears l.l l.idents) l.allowance l.fn.lent l.n (clears_from l.l l.idents l.i) l.lent
