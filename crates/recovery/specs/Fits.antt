-- When a sequence fits a list, which sequences do, and which is chosen.
use Rattle.std.specs.Prelude.{ℕ, ◌≤◌, ◌≡◌, List, [], ◌∷◌, reverse, Bool, true, false, ◌&&◌, ◌⊎◌, eqb, leb, length, get_or}
use Rattle.sequences.specs.Sequence.{All, Different, trail}
use Rattle.stores.specs.Stores.{Write}
use Rattle.layout.specs.declared.Layout.{Layout}
use Rattle.layout.specs.Words.{Node, is_node}
use Rattle.lists.specs.Lists.{others_asked}
use Rattle.lists.specs.Decide.{view_of, count_in, sequence_of}

-- of what is asked, the words that differ
unfoldable pub wrong : List ℕ → List Write → List Write
wrong w [] = []
wrong w (p ∷ ps) = elim (eqb (get_or w p.at 0) p.value) [ true ↦ wrong w ps | false ↦ p ∷ wrong w ps ]

-- "A sequence of different node cells fits list k if" "at most one word other than the count differs" "from what the sequence asks of header k
-- .. and of its members (identifier, forward, back)."
pub record Fits (l : Layout) (w : List ℕ) (k : ℕ) (s : List ℕ) : Type 0 where
  pub nodes : All (Node l) s
  pub different : Different s
  pub few : length (wrong w (others_asked l k s)) ≤ 1

-- its length is the stored count
abbrev pub Counted : Layout → List ℕ → ℕ → List ℕ → Type 0
Counted l w k s = count_in l w k ≡ length s

-- Of the sequences that fit, s is the one that is chosen: the only one, whatever the count; or, "if several fit, the one whose length equals
-- the stored count".
pub data Chosen (l : Layout) (w : List ℕ) (k : ℕ) (s : List ℕ) : Type 0 where
  alone : ((r : List ℕ) → Fits l w k r → r ≡ s) → Chosen l w k s
  counted : Counted l w k s → ((r : List ℕ) → Fits l w k r → Counted l w k r → r ≡ s) → Chosen l w k s

-- two different sequences of a kind
abbrev pub Two : (List ℕ → Type 0) → Type 0
Two P = (s : List ℕ) × (r : List ℕ) × P s × P r × (s ≡ r → ⊥)

-- "several fit and the count is the length of none or of more than one"
abbrev pub Undecided : Layout → List ℕ → ℕ → Type 0
Undecided l w k =
    Two (Fits l w k)
    × (((s : List ℕ) → Fits l w k s → Counted l w k s → ⊥) ⊎ Two (λ s. Fits l w k s × Counted l w k s))

-- The decision: the only candidates are what the forward links and what the back links lead through.
-- the nodes that the back links of list k lead through, at most N, in the list's order
abbrev pub backward_of : Layout → List ℕ → ℕ → List ℕ
backward_of l w k = reverse (trail (view_of l w).back (is_node l) l.nodes ((view_of l w).back k))

unfoldable pub few_wrong : Layout → List ℕ → ℕ → List ℕ → Bool
few_wrong l w k s = leb (length (wrong w (others_asked l k s))) 1

unfoldable pub same : List ℕ → List ℕ → Bool
same [] [] = true
same [] (y ∷ t) = false
same (x ∷ s) [] = false
same (x ∷ s) (y ∷ t) = eqb x y && same s t

-- none fits, this one is chosen, or none of several
pub data Fit : Type 0 where
  none : Fit
  only : List ℕ → Fit
  several : Fit

-- of two that fit, the one whose length is the count
abbrev pub by_count : Bool → Bool → List ℕ → List ℕ → Fit
by_count true true s t = several
by_count true false s t = only s
by_count false true s t = only t
by_count false false s t = several

-- of two candidates: which fit, are they the same, and which of them has the count's length
abbrev pub fitting : Bool → Bool → Bool → Bool → Bool → List ℕ → List ℕ → Fit
fitting true true true m n s t = only s
fitting true true false m n s t = by_count m n s t
fitting true false b m n s t = only s
fitting false true b m n s t = only t
fitting false false b m n s t = none

unfoldable pub has_count : Layout → List ℕ → ℕ → List ℕ → Bool
has_count l w k s = eqb (count_in l w k) (length s)

unfoldable pub fit_of : Layout → List ℕ → ℕ → Fit
fit_of l w k =
    fitting (few_wrong l w k (sequence_of l w k)) (few_wrong l w k (backward_of l w k)) (same (sequence_of l w k) (backward_of l w k))
    (has_count l w k (sequence_of l w k)) (has_count l w k (backward_of l w k)) (sequence_of l w k) (backward_of l w k)

-- what the decision says, over all sequences
abbrev pub Says : Layout → List ℕ → ℕ → Fit → Type 0
Says l w k none = (s : List ℕ) → Fits l w k s → ⊥
Says l w k (only s) = Fits l w k s × Chosen l w k s
Says l w k several = Undecided l w k
