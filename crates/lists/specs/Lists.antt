-- The lists of a store, in the words of CS-85-18, section 2: distances 1 and -1, identifiers, counts.
use Rattle.std.specs.Prelude.{ℕ, ◌+◌, ◌<◌, ◌≡◌, List, [], ◌∷◌, ◌++◌, map, true, length, get_or, replicate}
use Rattle.sequences.specs.Sequence.{◌∈◌, All, Different, steps}
use Rattle.stores.specs.declared.Write.{Write}
use Rattle.stores.specs.Stores.{write, in_row}
use Rattle.layout.specs.declared.Layout.{Layout}
use Rattle.layout.specs.Words.{cell_at, cell_words, tail_words, Node, InRange, marked, layout_of, size_of, ident_at, forward_at, back_at, count_at, record_at, ident_of, worn_ident, Unlisted}

-- What a sequence s asks of list k, as the stores that would make it so. "header and members carry identifier 42,400 + k;
abbrev pub idents_asked : Layout → ℕ → List ℕ → List Write
idents_asked l k s = map (λ c. write (ident_at l c) (ident_of k)) (k ∷ s)

-- from the header, forward leads through the sequence and back to the header,
abbrev pub forwards_asked : Layout → ℕ → List ℕ → List Write
forwards_asked l k s = map (λ p. write (forward_at l p.source) p.target) (steps k s k)

-- and back leads the other way round;
abbrev pub backs_asked : Layout → ℕ → List ℕ → List Write
backs_asked l k s = map (λ p. write (back_at l p.target) p.source) (steps k s k)

-- the count is the sequence's length."
abbrev pub count_asked : Layout → ℕ → List ℕ → List Write
count_asked l k s = write (count_at l k) (length s) ∷ []

-- all words but the count, and all words
abbrev pub others_asked : Layout → ℕ → List ℕ → List Write
others_asked l k s = idents_asked l k s ++ (forwards_asked l k s ++ backs_asked l k s)

unfoldable pub asked : Layout → ℕ → List ℕ → List Write
asked l k s = others_asked l k s ++ count_asked l k s

-- the words hold what is asked
abbrev pub Agrees : List ℕ → List Write → Type 0
Agrees w = All (λ p. get_or w p.at 0 ≡ p.value)

-- "A list's words are all those of its header and of its members": all words of these cells are the same
abbrev pub SameCells : Layout → List ℕ → List ℕ → List ℕ → Type 0
SameCells l w w' cells = (c f : ℕ) → c ∈ cells → f < cell_words l c → get_or w' (cell_at l c + f) 0 ≡ get_or w (cell_at l c + f) 0

-- every node with identifier 65,535 has all its words in w' as in w
abbrev pub KeepsWorn : Layout → List ℕ → List ℕ → Type 0
KeepsWorn l w w' = (c : ℕ) → Node l c → get_or w (ident_at l c) 0 ≡ worn_ident → SameCells l w w' (c ∷ [])

-- "some sequence of different node cells exists such that .."
pub record IsList (l : Layout) (w : List ℕ) (k : ℕ) (s : List ℕ) : Type 0 where
  pub nodes : All (Node l) s
  pub different : Different s
  pub agrees : Agrees w (asked l k s)

-- "For each list k some sequence .. Every node in no list has identifier 0" or is worn.
pub record SoundLists (l : Layout) (w : List ℕ) : Type 0 where
  pub sequence : ℕ → List ℕ
  pub lists : (k : ℕ) → k < l.lists → IsList l w k (sequence k)
  pub outside : (i : ℕ) → Node l i → ((k : ℕ) → k < l.lists → i ∈ sequence k → ⊥) → Unlisted (get_or w (ident_at l i) 0)

-- "words 0 to 7 are as above", the length is exact, and the lists are sound. That was a sound store until records were wiped, and it is all
-- that recovery needs.
pub record Ordered (w : List ℕ) : Type 0 where
  pub marked : marked w ≡ true
  pub in_range : InRange (layout_of w)
  pub exact : length w ≡ size_of (layout_of w)
  pub lists : SoundLists (layout_of w) w

-- all record words of node c are 0; and what that asks of the words
abbrev pub Blank : Layout → List ℕ → ℕ → Type 0
Blank l w c = (f : ℕ) → f < tail_words l → get_or w (record_at l c + f) 0 ≡ 0

abbrev pub blank_asked : Layout → ℕ → List Write
blank_asked l c = in_row (record_at l c) (replicate (tail_words l) 0)

-- "zero record words in every node that is in no list and isn't worn": the lists have these sequences
abbrev pub Wiped : Layout → List ℕ → (ℕ → List ℕ) → Type 0
Wiped l w sequence =
    (i : ℕ) → Node l i → ((k : ℕ) → k < l.lists → i ∈ sequence k → ⊥) → (get_or w (ident_at l i) 0 ≡ worn_ident → ⊥) → Blank l w i

-- "A sound store now has zero record words in every node that is in no list and isn't worn"
pub record Sound (w : List ℕ) : Type 0 where
  pub ordered : Ordered w
  pub wiped : Wiped (layout_of w) w ordered.lists.sequence
