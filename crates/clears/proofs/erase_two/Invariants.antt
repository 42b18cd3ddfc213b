use Prim.Native.Nat.{ℕ}
use mathlib.Core.Path.{◌≡◌}
use mathlib.Core.List.{List}
use mathlib.Core.Bool.{Bool}
use Rattle.layout.specs.declared.Layout.{Layout}
use Rattle.lists.specs.Decide.{View, view_of}
use Rattle.fitting.specs.Fitting.{members_by}
use Rattle.mending.specs.Mending.{erased, erased_along}
use Rattle.clears.proofs.erase_two.Given as goal

-- what is left to be erased, first by one walk and then by the other
abbrev pub left : Layout → View → Bool → Bool → ℕ → ℕ → ℕ → List ℕ → List ℕ
left l v back other n y z idents = erased_along l v other n z (erased_along l v back n y idents)

abbrev pub invariant-loop-more : goal.invariant-loop-more
invariant-loop-more g l =
    let v = view_of l.s.layout (g.E.Form.words_in l.s.lent.now) in
    left l.s.layout v l.back l.other l.more l.y l.z l.idents
    ≡ erased (members_by l.s.layout v l.other l.j) (erased (members_by l.s.layout v l.back l.k) l.fn.idents)

abbrev pub decreases-loop-more : goal.decreases-loop-more
decreases-loop-more g l = l.more
