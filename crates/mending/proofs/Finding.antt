-- What is found of a store before the first store: that nobody is left over, and that no free node has a record.
use Prim.Native.Nat.{ℕ}
use mathlib.Core.Path.{◌≡◌, sym, ◌∙◌}
use mathlib.Core.List.{List}
use mathlib.Core.Bool.{true, false, ◌&&◌}
use lib.Dec.{eqb}
use lib.ListN.{length}
use borrow.Author.Tests.{eqb-true, not-false}
use Rattle.layout.specs.declared.Layout.{Layout}
use Rattle.layout.specs.Words.{first_node}
use Rattle.lists.specs.Decide.{view_of, used, unwiped}
use Rattle.mending.specs.declared.Found.{Found}
use Rattle.mending.specs.Mending.{FoundIn}

module _ (l : Layout) (w : List ℕ) (f : Found) (told : FoundIn l w f) where
  pub none_left : f.left ≡ false → (f.mends.carried && eqb f.mends.members (length (used (view_of l w) (first_node l) l.nodes))) ≡ true
  none_left e = not-false _ (sym told.left ∙ e)

  pub none-unwiped : f.unwiped ≡ false → length (unwiped (view_of l w) (first_node l) l.nodes) ≡ 0
  none-unwiped e = eqb-true _ _ (not-false _ (sym told.unwiped ∙ e))
