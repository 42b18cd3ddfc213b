use Prim.Native.Nat.{ℕ, ◌-◌, ◌*◌}
use mathlib.Core.Path.{◌≡◌}
use mathlib.Core.Bool.{Bool, false}
use lib.ListN.{get_or}
use Rattle.lists.specs.Decide.{view_of}
use Rattle.mending.specs.Mending.{erased_from}
use Rattle.clears.proofs.erase_all.Given as goal

abbrev pub invariant-loop-i : goal.invariant-loop-i
invariant-loop-i g l =
    let v = view_of l.s.layout (g.E.Form.words_in l.s.lent.now) in
    let ways : ℕ → Bool = λ j. get_or l.back j false in
    erased_from l.s.layout v ways (2 * l.i) (l.s.layout.lists - 2 * l.i) l.idents ≡ erased_from l.s.layout v ways 0 l.s.layout.lists l.fn.idents
