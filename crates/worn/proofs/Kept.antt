-- Recovery keeps the worn nodes that are in no sequence that is chosen.
use Prim.Native.Nat.{ℕ}
use mathlib.Core.Path.{◌≡◌, refl, ap, ◌∙◌, sym, subst}
use mathlib.Core.List.{List, [], ◌∷◌}
use lib.ListN.{length, get_or}
use Rattle.std.specs.Prelude.{Option, Some, None, Result, Ok, Err}
use Rattle.sequences.specs.Sequence.{◌∈◌}
use Rattle.stores.specs.Stores.{Plan, refuse, stores, applied, words_after}
use Rattle.layout.specs.declared.Layout.{Layout}
use Rattle.layout.specs.declared.Refusal.{Refusal}
use Rattle.layout.specs.Words.{Node, size_of, ident_at, worn_ident, layout_of, opened, after_open}
use Rattle.layout.proofs.Laws.{opened-open}
use Rattle.lists.specs.Lists.{SameCells}
use Rattle.edits.proofs.Worn.{spares-cell}
use Rattle.recovery.specs.Plan.{joined, recover_stores, fitting_of, refusal_from, unless_refused, recover_of, recover_plan, Accepted}
use Rattle.recovery.proofs.Whole.{unrefused-accepted}
use Rattle.courses.proofs.Final.{worn-spares}
use Rattle.worn.specs.Worn.{WornNode}

-- its stores, cut anywhere
pub cut-kept : (l : Layout) (y : List ℕ) → length y ≡ size_of l → (t : ℕ → List ℕ) → Accepted l y t → (c : ℕ) → Node l c
    → (c ∈ joined t l.lists → ⊥) → get_or y (ident_at l c) 0 ≡ worn_ident → (m : ℕ) → SameCells l y (applied (recover_stores l y t) m y) (c ∷ [])
cut-kept l y exact t a c n o z = spares-cell l y (recover_stores l y t) c (λ f g. worn-spares l y exact t a c f n o z g)

pub recovers : (w : List ℕ) (m i : ℕ) → WornNode w i → (i ∈ joined (fitting_of (layout_of w) w) (layout_of w).lists → ⊥)
    → SameCells (layout_of w) w (words_after (recover_plan w) m w) (i ∷ [])
unfolding recover_plan recover_of
recovers w m i n o = by (opened w) refl
  where
    P : Plan → Type 0
    P p = SameCells (layout_of w) w (words_after p m w) (i ∷ [])

    asked : (r : Option Refusal) → length w ≡ size_of (layout_of w) → refusal_from (layout_of w) w 0 (layout_of w).lists ≡ r
        → P (unless_refused r (stores (recover_stores (layout_of w) w (fitting_of (layout_of w) w))))
    asked (Some n) e z = λ d f j g. refl
    asked None e z =
        cut-kept (layout_of w) w e (fitting_of (layout_of w) w) (unrefused-accepted (layout_of w) w z) i n.node o n.worn m

    by : (x : Result Layout Refusal) → opened w ≡ x → P (after_open x refuse (λ l. recover_of l w))
    by (Err k) e = λ d f j g. refl
    by (Ok l) e =
        let q = opened-open w l e in
        subst (λ (a : Layout). P (recover_of a w)) (sym q.0)
        (asked (refusal_from (layout_of w) w 0 (layout_of w).lists) (q.3 ∙ ap size_of q.0) refl)
