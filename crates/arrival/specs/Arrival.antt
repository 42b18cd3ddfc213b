-- "However read and delete find their cell now, from here on a step follows one link, from the nearer end, and is run with a budget. Show
-- that a budget of half the list's length, rounded up, always arrives. Read and delete give what they gave."
--
-- What they gave is said where it was (calls/specs/Calls.antt). Here stands where the walk arrives: at the cell whose record read
-- gives, at the one that delete takes out, and at the one behind which insert puts its records.
use Rattle.std.specs.Prelude.{ℕ, ◌+◌, ◌<◌, ◌≤◌, ◌≡◌, List, length, Some}
use Rattle.stores.specs.Stores.{Write, stores}
use Rattle.layout.specs.Words.{layout_of}
use Rattle.lists.specs.Lists.{Sound}
use Rattle.lists.specs.Decide.{View, view_of}
use Rattle.seeks.specs.Seeks.{nearer, run_with, half, Reached}
use Rattle.edits.specs.Edits.{insert_writes, chain, delete_writes}
use Rattle.edits.specs.Edited.{record_in}
use Rattle.calls.specs.Calls.{read_words, insert_plan, several_plan, delete_plan}

-- the links of the cells of a store
abbrev pub links_in : List ℕ → View
links_in w = view_of (layout_of w) w

-- the walk to cell q of the ring of list k, which has n members, arrives at cell c with a budget of half of n, rounded up
abbrev pub Arrives : List ℕ → ℕ → ℕ → ℕ → ℕ → Type 0
Arrives w k n q c = run_with (links_in w) (half n) (nearer k n q) ≡ Some c

-- list k of a sound store, whose members are s
pub record Walks (w : List ℕ) (k : ℕ) (s : List ℕ) : Type 0 where
  -- which budgets arrive, and where
  pub budgets : (q : ℕ) → q ≤ length s → Reached (links_in w) k s q
  -- read: the record of the cell at which the walk arrives
  pub reads : (p : ℕ) → p < length s → (c : ℕ) × Arrives w k (length s) (p + 1) c × (read_words w k p ≡ record_in (layout_of w) w c)
  -- delete: that cell is taken out from between the cells that its own links name
  pub deletes : (p : ℕ) → p < length s → (c : ℕ) × Arrives w k (length s) (p + 1) c
      × (delete_plan w k p ≡ stores (delete_writes (layout_of w) k
      (record { before = (links_in w).back c; cell = c; after = (links_in w).forward c; count = length s })))
  -- insert: the free cell i goes behind the cell at which the walk arrives, in front of the one that this names
  pub inserts : (p start : ℕ) (words : List ℕ) (ps : List Write) → insert_plan w k p start words ≡ stores ps
      → (a : ℕ) × Arrives w k (length s) p a × (i : ℕ)
      × (ps ≡ insert_writes (layout_of w) k (record { before = a; cell = i; after = (links_in w).forward a; count = length s }) words)
  -- and so do the free cells of several records
  pub severals : (p start : ℕ) (words : List ℕ) (ps : List Write) → several_plan w k p start words ≡ stores ps
      → (a : ℕ) × Arrives w k (length s) p a × (cells : List ℕ)
      × (ps ≡ chain (layout_of w) k a ((links_in w).forward a) (length s) cells words)

abbrev pub Arrival : Type 0
Arrival = (w : List ℕ) (s : Sound w) (k : ℕ) → k < (layout_of w).lists → Walks w k (s.ordered.lists.sequence k)
