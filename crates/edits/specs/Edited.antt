-- Demand 2: what insert and delete leave, when done, is what plain sequences would.
use Rattle.std.specs.Prelude.{ℕ, zero, suc, ◌+◌, ◌<◌, ◌≡◌, List, [], ◌∷◌, ◌++◌, map, cond, eqb, length, get_or, take, drop}
use Rattle.sequences.specs.Sequence.{◌∈◌, All, Different}
use Rattle.layout.specs.declared.Layout.{Layout}
use Rattle.layout.specs.Words.{Node, record_at, ident_at, layout_of}
use Rattle.lists.specs.Lists.{Sound, Blank, SameCells}

-- plain sequences
abbrev pub insert_at {ℓ} : {A : Type ℓ} → ℕ → A → List A → List A
insert_at p c s = take p s ++ c ∷ drop p s

-- several members at consecutive positions, from p on
abbrev pub splice_at {ℓ} : {A : Type ℓ} → ℕ → List A → List A → List A
splice_at p cs s = take p s ++ (cs ++ drop p s)

abbrev pub delete_at {ℓ} : {A : Type ℓ} → ℕ → List A → List A
delete_at p s = take p s ++ drop (p + 1) s

-- sequences of which that of list k is another
unfoldable pub replaced : (ℕ → List ℕ) → ℕ → List ℕ → ℕ → List ℕ
replaced sequence k s j = cond (eqb j k) s (sequence j)

-- different nodes that are free
pub record FreeNodes (l : Layout) (w cells : List ℕ) : Type 0 where
  pub nodes : All (Node l) cells
  pub different : Different cells
  pub free : All (λ c. get_or w (ident_at l c) 0 ≡ 0) cells

-- the record in a cell
abbrev pub record_in : Layout → List ℕ → ℕ → List ℕ
record_in l w c = take l.width (drop (record_at l c) w)

-- the first r records, of n words each
unfoldable pub records_of : ℕ → ℕ → List ℕ → List (List ℕ)
records_of zero n words = []
records_of (suc r) n words = take n words ∷ records_of r n (drop n words)

-- words 0 to 7 as they were, the store sound with these sequences, every other list as it was word for word, and the records of
-- the cells that list k had and has as they were
pub record Edited (w : List ℕ) (before : Sound w) (k : ℕ) (s w' : List ℕ) : Type 0 where
  pub sound : Sound w'
  pub layout : layout_of w' ≡ layout_of w
  pub sequences : sound.ordered.lists.sequence ≡ replaced before.ordered.lists.sequence k s
  pub others : (j : ℕ) → j < (layout_of w).lists → (j ≡ k → ⊥) → SameCells (layout_of w) w w' (j ∷ before.ordered.lists.sequence j)
  pub records : (x : ℕ) → x ∈ before.ordered.lists.sequence k → x ∈ s → record_in (layout_of w) w' x ≡ record_in (layout_of w) w x

-- an insert of cell c at position p, done: the plain sequence with the cell, which was free, and the record as given
pub record Inserted (w : List ℕ) (before : Sound w) (k p c : ℕ) (words w' : List ℕ) : Type 0 where
  pub edited : Edited w before k (insert_at p c (before.ordered.lists.sequence k)) w'
  pub free : get_or w (ident_at (layout_of w) c) 0 ≡ 0
  pub given : record_in (layout_of w) w' c ≡ words

-- an insert of several cells from position p on, done: the plain sequence with these, which were free, and the records as given
pub record InsertedAll (w : List ℕ) (before : Sound w) (k p : ℕ) (cells words w' : List ℕ) : Type 0 where
  pub edited : Edited w before k (splice_at p cells (before.ordered.lists.sequence k)) w'
  pub free : FreeNodes (layout_of w) w cells
  pub given : map (record_in (layout_of w) w') cells ≡ records_of (length cells) (layout_of w).width words

-- a delete at position p, done: the plain sequence without the cell, which is free, and nothing is left of its record
pub record Deleted (w : List ℕ) (before : Sound w) (k p : ℕ) (w' : List ℕ) : Type 0 where
  pub edited : Edited w before k (delete_at p (before.ordered.lists.sequence k)) w'
  pub free : get_or w' (ident_at (layout_of w) (get_or (before.ordered.lists.sequence k) p 0)) 0 ≡ 0
  pub wiped : Blank (layout_of w) w' (get_or (before.ordered.lists.sequence k) p 0)
