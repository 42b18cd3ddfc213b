use Prim.Native.Nat.{◌-◌}
use mathlib.Core.Path.{◌≡◌}
use Rattle.lists.specs.Decide.{view_of}
use Rattle.mending.specs.Mending.{erased_along}
use Rattle.clears.proofs.erase.Given as goal

abbrev pub invariant-loop : goal.invariant-loop
invariant-loop g l =
    let v = view_of l.s.layout (g.E.Form.words_in l.s.lent.now) in
    erased_along l.s.layout v l.back (l.n - l.counter) l.y l.idents ≡ erased_along l.s.layout v l.back l.n l.first l.fn.idents
