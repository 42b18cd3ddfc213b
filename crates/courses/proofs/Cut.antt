-- What a cut call leaves behind, whatever the call was: all that recovery needs to know of it; and that of a call that made no store.
use Prim.Native.Nat.{ℕ, ◌+◌, ◌<◌, ◌≤◌}
use mathlib.Core.Path.{◌≡◌, refl, subst}
use mathlib.Core.List.{List, ◌∷◌}
use mathlib.Core.Logic.{◌⊎◌, inl, inr}
use native.Mathlib.Decide.{ℕ_discrete, dec_lt}
use lib.ListN.{length, get_or}
use Rattle.sequences.specs.Sequence.{◌∈◌}
use Rattle.sequences.proofs.Members.{member?}
use Rattle.layout.specs.declared.Layout.{Layout}
use Rattle.layout.specs.Words.{Node, cell_at, cell_words, ident_at, ident_of, Unlisted}
use Rattle.lists.specs.Lists.{IsList, SoundLists, SameCells}
use Rattle.lists.proofs.Unique.{member-ident}
use Rattle.lists.proofs.Same.{lists-apart}
use Rattle.courses.specs.Course.{untouched}
use Rattle.courses.proofs.Own.{Own}
use Rattle.courses.proofs.Other.{settled}

-- the words y that a call naming list k left of the sound words w: its sequence is t, and its words are to be those of x
pub record Cut (l : Layout) (w : List ℕ) (s : SoundLists l w) (k : ℕ) (t x y : List ℕ) : Type 0 where
  pub size : length y ≡ length w
  pub head : (b : ℕ) → b < 8 → get_or y b 0 ≡ get_or w b 0
  pub others : (j : ℕ) → j < l.lists → (j ≡ k → ⊥) → SameCells l w y (j ∷ s.sequence j)
  pub rest : (c : ℕ) → Node l c → ((j : ℕ) → j < l.lists → (j ≡ k → ⊥) → c ∈ s.sequence j → ⊥)
      → Unlisted (get_or y (ident_at l c) 0) ⊎ (get_or y (ident_at l c) 0 ≡ ident_of k)
  pub own : k < l.lists → Own l y k t
  pub apart : k < l.lists → (c : ℕ) → c ∈ (k ∷ t) → (j : ℕ) → j < l.lists → (j ≡ k → ⊥) → c ∈ (j ∷ s.sequence j) → ⊥
  pub list : k < l.lists → IsList l x k t
  pub records : k < l.lists → (c f : ℕ) → c ∈ t → 3 ≤ f → f < cell_words l c → get_or y (cell_at l c + f) 0 ≡ get_or x (cell_at l c + f) 0

-- a node in no list but perhaps k is free, worn or has the identifier of k
pub rest-ident
    : (l : Layout) (w : List ℕ) (s : SoundLists l w) (k c : ℕ) → Node l c → ((j : ℕ) → j < l.lists → (j ≡ k → ⊥) → c ∈ s.sequence j → ⊥)
    → Unlisted (get_or w (ident_at l c) 0) ⊎ (get_or w (ident_at l c) 0 ≡ ident_of k)
rest-ident l w s k c nc o = by (dec_lt k l.lists) (member? c (s.sequence k))
  where
    by : Dec (k < l.lists) → (c ∈ s.sequence k) ⊎ (c ∈ s.sequence k → ⊥) → Unlisted (get_or w (ident_at l c) 0) ⊎ (get_or w (ident_at l c) 0 ≡ ident_of k)
    by (yes h) (inl m) = inr (member-ident l w k (s.sequence k) c (s.lists k h) m)
    by (no h) m = inl (s.outside c nc (λ j g. o j g (λ e. h (subst (λ (i : ℕ). i < l.lists) e g))))
    by (yes h) (inr n) = inl (s.outside c nc (λ j g q. other j g q (ℕ_discrete j k)))
      where
        other : (j : ℕ) → j < l.lists → c ∈ s.sequence j → Dec (j ≡ k) → ⊥
        other j g q (yes e) = n (subst (λ (i : ℕ). c ∈ s.sequence i) e q)
        other j g q (no z) = o j g z q

-- the cells of list k are in no other list
pub list-apart
    : (l : Layout) (w : List ℕ) (s : SoundLists l w) (k : ℕ) → k < l.lists → (c : ℕ) → c ∈ (k ∷ s.sequence k)
    → (j : ℕ) → j < l.lists → (j ≡ k → ⊥) → c ∈ (j ∷ s.sequence j) → ⊥
list-apart l w s k h c m j g n q =
    lists-apart l w j k (s.sequence j) (s.sequence k) g h n (s.lists j g) (s.lists k h) c c q m refl

-- a call that made no store
pub none-cut : (l : Layout) (w : List ℕ) (s : SoundLists l w) (k : ℕ) → Cut l w s k (s.sequence k) w w
none-cut l w s k =
    record {
      size = refl;
      head = λ b h. refl;
      others = λ j h n c f m g. refl;
      rest = rest-ident l w s k;
      own = λ h. settled l w w k h (s.sequence k) (s.lists k h) untouched (λ c f m g n. refl) (λ c t. t) (λ c t. t);
      apart = list-apart l w s k;
      list = s.lists k;
      records = λ h c f m a g. refl;
    }
