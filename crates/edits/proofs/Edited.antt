-- A store in which one list is another: its lists are sound, if every other list's words stay, and the records of nodes in none are wiped, if
-- those that leave the list are.
use Prim.Native.Nat.{ℕ, ◌+◌, ◌<◌}
use mathlib.Core.Path.{◌≡◌, refl, ap, ◌∙◌, sym, subst}
use mathlib.Core.List.Memᴰ
use mathlib.Core.List.{List, ◌∷◌, ◌++◌}
use mathlib.Core.Logic.{◌⊎◌, inl, inr, ⊎_elim}
use native.Mathlib.Decide.{ℕ_discrete}
use native.Mathlib.Omega.{arith}
use lib.ListN.{get_or, take, drop, take-append-drop}
use borrow.Author.Tests.{eq-eqb, ne_eqb}
use Rattle.sequences.specs.Sequence.{◌∈◌}
use Rattle.sequences.proofs.Members.{member?}
use Rattle.layout.specs.declared.Layout.{Layout}
use Rattle.layout.specs.Words.{link_words, Node, cell_at, cell_words, ident_at, Unlisted, free}
use Rattle.layout.proofs.Apart.{links-words, tail-word}
use Rattle.lists.specs.Lists.{IsList, SoundLists, Blank, Wiped, SameCells}
use Rattle.lists.proofs.Same.{ident-word, list_same}
use Rattle.edits.specs.Edited.{splice_at, replaced}

pub replaced-own : (sequence : ℕ → List ℕ) (k : ℕ) (s : List ℕ) (j : ℕ) → j ≡ k → replaced sequence k s j ≡ s
unfolding replaced
replaced-own sequence k s j e = rw (eq-eqb j k e)

pub replaced-other : (sequence : ℕ → List ℕ) (k : ℕ) (s : List ℕ) (j : ℕ) → (j ≡ k → ⊥) → replaced sequence k s j ≡ sequence j
unfolding replaced
replaced-other sequence k s j n = rw (ne_eqb j k n)

-- a member stays one where others are put in
pub in-splice : (p : ℕ) (cs s : List ℕ) (x : ℕ) → x ∈ s → x ∈ splice_at p cs s
in-splice p cs s x m =
    ⊎_elim (λ q. Memᴰ.append_left (cs ++ drop p s) q) (λ q. Memᴰ.append_right (take p s) (Memᴰ.append_right cs q))
    (Memᴰ.append_cases (take p s) (subst (λ (t : List ℕ). x ∈ t) (sym (take-append-drop p s)) m))

-- a node that a list has not is none of its cells
pub out-cell : {l : Layout} {k : ℕ} {s : List ℕ} {x : ℕ} → k < l.lists → Node l x → (x ∈ s → ⊥) → (y : ℕ) → y ∈ (k ∷ s) → x ≡ y → ⊥
out-cell h n o y (Memᴰ.head e) q = omega (arith, n.low)
out-cell {s = s} h n o y (Memᴰ.tail m) q = o (subst (λ (c : ℕ). c ∈ s) (sym q) m)

-- list k is t now; a node that it has not and had not keeps its words
module _ (l : Layout) (w : List ℕ) (s : SoundLists l w) (k : ℕ) (hk : k < l.lists) (w' t : List ℕ)
    (kept : (x : ℕ) → Node l x → (x ∈ t → ⊥) → (x ∈ s.sequence k → ⊥) → (f : ℕ) → f < cell_words l x
    → get_or w' (cell_at l x + f) 0 ≡ get_or w (cell_at l x + f) 0) where
  kept-ident : (x : ℕ) → Node l x → (x ∈ t → ⊥) → (x ∈ s.sequence k → ⊥) → get_or w' (ident_at l x) 0 ≡ get_or w (ident_at l x) 0
  kept-ident x n m o =
      ap (λ (a : ℕ). get_or w' a 0) (ident-word l x) ∙ kept x n m o 0 (links-words l x 0 (omega arith)) ∙ ap (λ (a : ℕ). get_or w a 0) (sym (ident-word l x))

  -- a node in no list now is not in t, and was in no other list than k
  module _ (x : ℕ) (out : (j : ℕ) → j < l.lists → x ∈ replaced s.sequence k t j → ⊥) where
    out-now : x ∈ t → ⊥
    out-now m = out k hk (subst (λ (u : List ℕ). x ∈ u) (sym (replaced-own s.sequence k t k refl)) m)

    out-before : (x ∈ s.sequence k → ⊥) → (j : ℕ) → j < l.lists → x ∈ s.sequence j → ⊥
    out-before o j h m = by (ℕ_discrete j k)
      where
        by : Dec (j ≡ k) → ⊥
        by (yes e) = o (subst (λ (i : ℕ). x ∈ s.sequence i) e m)
        by (no d) = out j h (subst (λ (u : List ℕ). x ∈ u) (sym (replaced-other s.sequence k t j d)) m)

  -- the lists: the others' words stay; a node that list k had is in t or has identifier 0
  pub edited-lists
      : IsList l w' k t → ((j : ℕ) → j < l.lists → (j ≡ k → ⊥) → SameCells l w w' (j ∷ s.sequence j))
      → ((x : ℕ) → x ∈ s.sequence k → (x ∈ t) ⊎ (get_or w' (ident_at l x) 0 ≡ 0))
      → (x : SoundLists l w') × (x.sequence ≡ replaced s.sequence k t)
  edited-lists own others old =
      (record { sequence = replaced s.sequence k t; lists = listed; outside = unlisted }, refl)
    where
      listed : (j : ℕ) → j < l.lists → IsList l w' j (replaced s.sequence k t j)
      listed j h = by (ℕ_discrete j k)
        where
          by : Dec (j ≡ k) → IsList l w' j (replaced s.sequence k t j)
          by (yes e) =
              subst (IsList l w' j) (sym (replaced-own s.sequence k t j e)) (subst (λ (m : ℕ). IsList l w' m t) (sym e) own)
          by (no n) =
              subst (IsList l w' j) (sym (replaced-other s.sequence k t j n))
              (list_same l w j h (s.sequence j) (s.lists j h) w' (others j h n))

      unlisted : (x : ℕ) → Node l x → ((j : ℕ) → j < l.lists → x ∈ replaced s.sequence k t j → ⊥) → Unlisted (get_or w' (ident_at l x) 0)
      unlisted x n out = by (member? x (s.sequence k))
        where
          by : (x ∈ s.sequence k) ⊎ (x ∈ s.sequence k → ⊥) → Unlisted (get_or w' (ident_at l x) 0)
          by (inl m) = ⊎_elim (λ i. absurd (out-now x out i)) free (old x m)
          by (inr o) = subst Unlisted (sym (kept-ident x n (out-now x out) o)) (s.outside x n (out-before x out o))

  -- the records: a node that list k had is in t or has a blank one
  pub edited-wiped : Wiped l w s.sequence → ((x : ℕ) → x ∈ s.sequence k → (x ∈ t) ⊎ Blank l w' x) → Wiped l w' (replaced s.sequence k t)
  edited-wiped before old x n out z = by (member? x (s.sequence k))
    where
      by : (x ∈ s.sequence k) ⊎ (x ∈ s.sequence k → ⊥) → Blank l w' x
      by (inl m) = ⊎_elim (λ i. absurd (out-now x out i)) (λ b. b) (old x m)
      by (inr o) =
          λ f g.
          let word = tail-word l x f n.low g in
          ap (λ (a : ℕ). get_or w' a 0) word.0
          ∙ kept x n (out-now x out) o (link_words + f) word.1
          ∙ ap (λ (a : ℕ). get_or w a 0) (sym word.0)
          ∙ before x n (out-before x out o) (λ e. z (kept-ident x n (out-now x out) o ∙ e)) f g
