-- The word stores of insert and delete, in order.
use Rattle.std.specs.Prelude.{ℕ, ◌+◌, ◌-◌, ◌≤◌, ◌<◌, ◌≡◌, List, [], ◌∷◌, ◌++◌, length, get_or, take, drop}
use Rattle.stores.specs.Stores.{Write, write, in_row}
use Rattle.layout.specs.declared.Layout.{Layout}
use Rattle.layout.specs.Words.{tail_words, InRange, Node, cell_count, ident_at, forward_at, back_at, count_at, record_at, ident_of, worn_ident, Unlisted, size_of}
use Rattle.lists.specs.Lists.{blank_asked}
use Rattle.lists.specs.Decide.{view_of}
use Rattle.requests.specs.declared.Site.{Site}
use Rattle.requests.specs.Requests.{around, free_cells}

-- "the word stores are, in order: the P record words; its forward = b; its back = a; its identifier; the count plus one; a's
-- forward; b's back. That is P + 6 stores."
unfoldable pub insert_links : Layout → ℕ → Site → List Write
insert_links l k t =
    write (forward_at l t.cell) t.after
    ∷ write (back_at l t.cell) t.before
    ∷ write (ident_at l t.cell) (ident_of k)
    ∷ write (count_at l k) (t.count + 1)
    ∷ write (forward_at l t.before) t.cell
    ∷ write (back_at l t.after) t.cell
    ∷ []

unfoldable pub insert_writes : Layout → ℕ → Site → List ℕ → List Write
insert_writes l k t words = in_row (record_at l t.cell) words ++ insert_links l k t

abbrev pub insert_stores : Layout → ℕ
insert_stores l = tail_words l + 6

-- "The central one is a's forward, number P + 5."
abbrev pub insert_central : Layout → ℕ
insert_central l = tail_words l + 5

-- The stores of several inserts into list k: each next record goes behind the one before, in front of the same cell b. The first goes
-- behind cell a, when the list has n members; the words are those of all records.
unfoldable pub chain : Layout → ℕ → ℕ → ℕ → ℕ → List ℕ → List ℕ → List Write
chain l k a b n [] words = []
chain l k a b n (c ∷ cs) words =
    insert_writes l k (record { before = a; cell = c; after = b; count = n }) (take l.width words)
    ++ chain l k c b (n + 1) cs (drop l.width words)

-- the same from position p of the sequence s on
abbrev pub chain_at : Layout → ℕ → ℕ → List ℕ → List ℕ → List ℕ → List Write
chain_at l k p s cells words = chain l k (get_or (k ∷ s) p 0) (get_or (s ++ k ∷ []) p 0) (length s) cells words

-- "Delete stores four words: b's back = a; a's forward = b, the central one; the count less one; the cell's identifier = 0." "Delete gains P
-- further stores of 0 over the record words, after the identifier, first word first."
unfoldable pub delete_links : Layout → ℕ → Site → List Write
delete_links l k t =
    write (back_at l t.after) t.before
    ∷ write (forward_at l t.before) t.after
    ∷ write (count_at l k) (t.count - 1)
    ∷ write (ident_at l t.cell) 0
    ∷ []

unfoldable pub delete_writes : Layout → ℕ → Site → List Write
delete_writes l k t = delete_links l k t ++ blank_asked l t.cell

abbrev pub delete_central : ℕ
delete_central = 2

-- Marking cell c worn: "marks a free node with one store".
abbrev pub mark_writes : Layout → ℕ → List Write
mark_writes l c = write (ident_at l c) worn_ident ∷ []

abbrev pub mark_stores : ℕ
mark_stores = 1

-- a site in a store of this layout
pub record Placed (l : Layout) (k : ℕ) (t : Site) : Type 0 where
  pub in_range : InRange l
  pub list : k < l.lists
  pub cell : Node l t.cell
  pub before : t.before < cell_count l
  pub after : t.after < cell_count l
  pub count : t.count ≤ l.nodes

-- the first r free cells met from cell c on
abbrev pub free_from : Layout → List ℕ → ℕ → ℕ → List ℕ
free_from l w c r = take r (free_cells (view_of l w).ident (around l c l.nodes))

-- the stores of r records from a site on, in its own cell and the next free ones
abbrev pub chain_from : Layout → List ℕ → ℕ → Site → ℕ → List ℕ → List Write
chain_from l w k t r words = chain l k t.before t.after t.count (free_from l w t.cell r) words

-- a site with room for r records: a gap between cells that are in use, and a cell that is free, with enough others
pub record Room (l : Layout) (w : List ℕ) (k : ℕ) (t : Site) (r : ℕ) : Type 0 where
  pub placed : Placed l k t
  pub exact : length w ≡ size_of l
  pub before : Unlisted (get_or w (ident_at l t.before) 0) → ⊥
  pub after : Unlisted (get_or w (ident_at l t.after) 0) → ⊥
  pub free : get_or w (ident_at l t.cell) 0 ≡ 0
  pub enough : r ≤ length (free_cells (view_of l w).ident (around l t.cell l.nodes))
  pub count : t.count + r ≤ l.nodes
