-- Demand 2. "A store is called sound exactly when its words form the lists of CS-85-18, section 2. Insert and delete, when done, leave what
-- plain sequences would; each record reads back as given. Nothing interprets a record."
--
-- The plain sequences are lists of records: `records_in w s k` has those of list k of the sound store w, in order. All is said of the
-- calls: of what they answer, plan and leave.
use Rattle.std.specs.Prelude.{ℕ, ◌+◌, ◌*◌, ◌<◌, ◌≤◌, ◌≡◌, List, [], ◌∷◌, ◌++◌, map, ◌↔◌, ltb, length, get_or, take, Ok, Err}
use Rattle.calls.specs.Answers.{answer_of}
use Rattle.stores.specs.Stores.{Write, Plan, refuse, stores, run, words_after}
use Rattle.stores.specs.declared.Outcome.TheVariants.{Done}
use Rattle.layout.specs.declared.Layout.{Layout}
use Rattle.layout.specs.declared.Refusal.TheVariants.{NoList, Full}
use Rattle.layout.specs.Words.{tail_words, Node, ask, ident_at, layout_of}
use Rattle.lists.specs.Lists.{Sound, Blank, SameCells}
use Rattle.lists.specs.Decide.{view_of}
use Rattle.requests.specs.Requests.{next_cell, around, free_cells, FirstFree}
use Rattle.edits.specs.Edited.{insert_at, splice_at, delete_at, replaced, FreeNodes, record_in, records_of}
use Rattle.calls.specs.Calls.{format_answer, format_words, check_answer, length_answer, read_number, read_words, insert_plan, several_plan, delete_plan}
use Rattle.demands.specs.Records.{Uninterpreted}

-- the records of list k, in order
abbrev pub records_in : (w : List ℕ) → Sound w → ℕ → List (List ℕ)
records_in w s k = map (λ c. record_in (layout_of w) w c) (s.ordered.lists.sequence k)

-- "Insert and delete, when done, leave what plain sequences would": of a sound store w the words w', in which list k has the cells `cells`
-- and the records `records`
pub record Leaves (w : List ℕ) (s : Sound w) (k : ℕ) (cells : List ℕ) (records : List (List ℕ)) (w' : List ℕ) : Type 0 where
  pub sound : Sound w'
  pub layout : layout_of w' ≡ layout_of w
  pub sequences : sound.ordered.lists.sequence ≡ replaced s.ordered.lists.sequence k cells
  -- every other list is as it was, word for word
  pub others : (j : ℕ) → j < (layout_of w).lists → (j ≡ k → ⊥) → SameCells (layout_of w) w w' (j ∷ s.ordered.lists.sequence j)
  -- "each record reads back as given": read at every position gives what the plain sequence has there, and nothing behind its end
  pub reads : (p : ℕ) → read_words w' k p ≡ get_or records p []
  pub reads_others : (j p : ℕ) → j < (layout_of w).lists → (j ≡ k → ⊥) → read_words w' j p ≡ get_or (records_in w s j) p []

-- a node whose identifier is 0
pub record FreeNode (w : List ℕ) (i : ℕ) : Type 0 where
  pub node : Node (layout_of w) i
  pub free : get_or w (ident_at (layout_of w) i) 0 ≡ 0

-- an insert into a sound store
pub record Inserts (w : List ℕ) (s : Sound w) (k p c : ℕ) (words : List ℕ) (plan : Plan) : Type 0 where
  -- it is not refused where questions 5 and 7 to 10 are answered yes,
  pub accepted : k < (layout_of w).lists → p ≤ length (s.ordered.lists.sequence k) → Node (layout_of w) c → length words ≡ (layout_of w).width
      → (i : ℕ) → FreeNode w i → (ps : List Write) × (plan ≡ stores ps)
  -- and 10 is answered only if no node is free
  pub full : plan ≡ refuse Full → (i : ℕ) → FreeNode w i → ⊥
  -- done, it has made P + 6 stores, and the record stands at the position, in "the first free cell met counting up from the starting cell"
  pub done : (m n : ℕ) → answer_of plan m ≡ Ok (Done n)
      → (n ≡ tail_words (layout_of w) + 6)
      × ((i : ℕ) × FirstFree (view_of (layout_of w) w).ident (around (layout_of w) c (layout_of w).nodes) i
      × Leaves w s k (insert_at p i (s.ordered.lists.sequence k)) (insert_at p words (records_in w s k)) (words_after plan m w))

-- "inserting them one by one, each next starting cell being the one after the cell just used (cell L after the last)": ps are the stores of
-- the single inserts of these records into list k of the words w, from position p and starting cell c on; none is refused
pub data OneByOne (k : ℕ) : (p c : ℕ) (records : List (List ℕ)) (w : List ℕ) (ps : List Write) → Type 0 where
  none : (p c : ℕ) (w : List ℕ) → OneByOne k p c [] w []
  next : (p c : ℕ) (r : List ℕ) (records : List (List ℕ)) (w : List ℕ) (ps : List Write) → insert_plan w k p c r ≡ stores ps
      → (i : ℕ) → FirstFree (view_of (layout_of w) w).ident (around (layout_of w) c (layout_of w).nodes) i
      → (rest : List Write) → OneByOne k (p + 1) (next_cell (layout_of w) i) records (run ps w) rest
      → OneByOne k p c (r ∷ records) w (ps ++ rest)

-- an insert of several records into a sound store, P words each
pub record Severals (w : List ℕ) (s : Sound w) (k p c : ℕ) (words : List ℕ) (plan : Plan) : Type 0 where
  -- it is not refused where questions 5 and 7 to 10 are answered yes: "is the record length a positive multiple of P?", "are there enough
  -- free nodes for all?",
  pub accepted : k < (layout_of w).lists → p ≤ length (s.ordered.lists.sequence k) → Node (layout_of w) c → 0 < length words
      → (nodes : List ℕ) → FreeNodes (layout_of w) w nodes → length words ≡ length nodes * (layout_of w).width
      → (ps : List Write) × (plan ≡ stores ps)
  -- and 10 is answered only if free nodes are fewer than records
  pub full : plan ≡ refuse Full → (nodes : List ℕ) → FreeNodes (layout_of w) w nodes → length nodes * (layout_of w).width < length words
  -- done, it has made P + 6 stores for each record, and the records stand in order from the position on, in the first free cells met
  pub done : (m n : ℕ) → answer_of plan m ≡ Ok (Done n)
      → (r : ℕ) × (length words ≡ r * (layout_of w).width) × (n ≡ r * (tail_words (layout_of w) + 6))
      × (let cells : List ℕ = take r (free_cells (view_of (layout_of w) w).ident (around (layout_of w) c (layout_of w).nodes)) in
      Leaves w s k (splice_at p cells (s.ordered.lists.sequence k)) (splice_at p (records_of r (layout_of w).width words) (records_in w s k))
      (words_after plan m w))
  -- "equal to inserting them one by one": it makes their stores
  pub single : (ps : List Write) → plan ≡ stores ps → (r : ℕ) → length words ≡ r * (layout_of w).width
      → OneByOne k p c (records_of r (layout_of w).width words) w ps

-- a delete from a sound store
pub record Deletes (w : List ℕ) (s : Sound w) (k p : ℕ) (plan : Plan) : Type 0 where
  pub accepted : k < (layout_of w).lists → p < length (s.ordered.lists.sequence k) → (ps : List Write) × (plan ≡ stores ps)
  -- done, it has made 4 + P stores, the record is gone, and its cell counts as free. "a deleted record may not stay readable": in the free
  -- nodes, that cell among them, all record words are 0.
  pub done : (m n : ℕ) → answer_of plan m ≡ Ok (Done n)
      → (n ≡ 4 + tail_words (layout_of w))
      × Leaves w s k (delete_at p (s.ordered.lists.sequence k)) (delete_at p (records_in w s k)) (words_after plan m w)
      × FreeNode (words_after plan m w) (get_or (s.ordered.lists.sequence k) p 0)
      × ((i : ℕ) → FreeNode (words_after plan m w) i → Blank (layout_of w) (words_after plan m w) i)

pub record Demand2 : Type 0 where
  -- check answers sound exactly of the sound stores
  pub checks : (w : List ℕ) → (check_answer w ≡ Ok tt) ↔ Sound w
  -- a formatted store is sound, and its lists are empty
  pub formats : (l : Layout) (w : List ℕ) → format_answer l w ≡ Ok tt
      → (s : Sound (format_words l w)) × (layout_of (format_words l w) ≡ l) × ((k : ℕ) → s.ordered.lists.sequence k ≡ [])
  -- of a sound store length and read answer what the plain sequence has
  pub lengths : (w : List ℕ) (s : Sound w) (k : ℕ)
      → length_answer w k ≡ ask (ltb k (layout_of w).lists) (Err NoList) (Ok (length (s.ordered.lists.sequence k)))
  pub reads : (w : List ℕ) (s : Sound w) (k p : ℕ) → k < (layout_of w).lists
      → (read_number w k p ≡ ask (ltb p (length (s.ordered.lists.sequence k))) 7 0) × (read_words w k p ≡ get_or (records_in w s k) p [])
  pub inserts : (w : List ℕ) (s : Sound w) (k p c : ℕ) (words : List ℕ) → Inserts w s k p c words (insert_plan w k p c words)
  pub severals : (w : List ℕ) (s : Sound w) (k p c : ℕ) (words : List ℕ) → Severals w s k p c words (several_plan w k p c words)
  pub deletes : (w : List ℕ) (s : Sound w) (k p : ℕ) → Deletes w s k p (delete_plan w k p)
  -- "Nothing interprets a record."
  pub uninterpreted : Uninterpreted
