-- "Nothing in here should interpret a record." As a claim about values: what records hold makes no difference to any question, answer or store,
-- but that recovery wipes nodes in no list, each where its words are not 0; and what an insert is given makes none but to the words that it
-- puts into the record.
use Rattle.std.specs.Prelude.{ℕ, ◌+◌, ◌<◌, ◌≤◌, ◌≡◌, List, [], ◌++◌, length, get_or, take, drop}
use Rattle.sequences.specs.Sequence.{◌∈◌, All}
use Rattle.stores.specs.Stores.{Write, Plan, refuse, stores, in_row}
use Rattle.layout.specs.declared.Layout.{Layout}
use Rattle.layout.specs.declared.Refusal.{Refusal}
use Rattle.layout.specs.Words.{Node, ident_at, record_at, worn_ident, layout_of}
use Rattle.requests.specs.declared.Request.{Request}
use Rattle.requests.specs.Requests.{look_of}
use Rattle.recovery.specs.Fits.{wrong}
use Rattle.recovery.specs.Plan.{joined, blanks_asked, fitting_of, recover_plan}
use Rattle.calls.specs.Calls.{format_answer, check_answer, length_answer, read_number, read_start, insert_plan, several_plan, delete_plan, mark_plan}

-- word a of the words w belongs to the record of a node that is not free
pub record RecordWord (l : Layout) (w : List ℕ) (a : ℕ) : Type 0 where
  pub cell : ℕ
  pub word : ℕ
  pub node : Node l cell
  pub held : get_or w (ident_at l cell) 0 ≡ 0 → ⊥
  pub inside : word < l.width
  pub at : a ≡ record_at l cell + word

-- words of equal length that agree outside all such words: in a free node everywhere, since check asks there whether the record words are 0
pub record SameButRecords (w w' : List ℕ) : Type 0 where
  pub size : length w' ≡ length w
  pub agree : (a : ℕ) → (RecordWord (layout_of w) w a → ⊥) → get_or w' a 0 ≡ get_or w a 0

-- a node in no sequence that is chosen, and not worn
pub record Outside (w : List ℕ) (c : ℕ) : Type 0 where
  pub node : Node (layout_of w) c
  pub out : c ∈ joined (fitting_of (layout_of w) w) (layout_of w).lists → ⊥
  pub unworn : get_or w (ident_at (layout_of w) c) 0 ≡ worn_ident → ⊥

-- two recoveries: both refused with one number, or both make the same stores and then wipe the same nodes, all of them such nodes, each where
-- its own words are not 0
pub data SameRecovery (w w' : List ℕ) : Type 0 where
  neither : (n : Refusal) → recover_plan w ≡ refuse n → recover_plan w' ≡ refuse n → SameRecovery w w'
  both : (ps : List Write) (cells : List ℕ) → All (Outside w) cells
      → recover_plan w ≡ stores (ps ++ wrong w (blanks_asked (layout_of w) cells))
      → recover_plan w' ≡ stores (ps ++ wrong w' (blanks_asked (layout_of w) cells))
      → SameRecovery w w'

-- every call asks the same, answers the same and plans the same stores, but for what recovery wipes; read gives the part at the same place
pub record SameCalls (w w' : List ℕ) : Type 0 where
  pub questions : (q : Request) → look_of w' q ≡ look_of w q
  pub formats : (l : Layout) → format_answer l w' ≡ format_answer l w
  pub checks : check_answer w' ≡ check_answer w
  pub lengths : (k : ℕ) → length_answer w' k ≡ length_answer w k
  pub reads : (k p : ℕ) → read_number w' k p ≡ read_number w k p
  pub places : (k p : ℕ) → read_start w' k p ≡ read_start w k p
  pub inserts : (k p c : ℕ) (words : List ℕ) → insert_plan w' k p c words ≡ insert_plan w k p c words
  pub severals : (k p c : ℕ) (words : List ℕ) → several_plan w' k p c words ≡ several_plan w k p c words
  pub deletes : (k p : ℕ) → delete_plan w' k p ≡ delete_plan w k p
  pub marks : (c : ℕ) → mark_plan w' c ≡ mark_plan w c
  pub recovers : SameRecovery w w'

-- stores that differ in the values of the record stores alone: record after record, both store their words as the record of one node and
-- go on alike
pub data SameWrites (l : Layout) : (words words' : List ℕ) → (ps ps' : List Write) → Type 0 where
  none : (words words' : List ℕ) → length words ≡ 0 → SameWrites l words words' [] []
  next : (words words' : List ℕ) → l.width ≤ length words → (cell : ℕ) → Node l cell → (links rest rest' : List Write)
      → SameWrites l (drop l.width words) (drop l.width words') rest rest'
      → SameWrites l words words' ((in_row (record_at l cell) (take l.width words) ++ links) ++ rest)
      ((in_row (record_at l cell) (take l.width words') ++ links) ++ rest')

-- two inserts, of one record or of several, given words that differ: both refused with one number, or both make such stores
pub data SameStores (l : Layout) (words words' : List ℕ) (plan plan' : Plan) : Type 0 where
  refused : (n : Refusal) → plan ≡ refuse n → plan' ≡ refuse n → SameStores l words words' plan plan'
  stored : (ps ps' : List Write) → SameWrites l words words' ps ps' → plan ≡ stores ps → plan' ≡ stores ps'
      → SameStores l words words' plan plan'

pub record Uninterpreted : Type 0 where
  pub calls : (w w' : List ℕ) → SameButRecords w w' → SameCalls w w'
  pub given : (w : List ℕ) (k p c : ℕ) (words words' : List ℕ) → length words' ≡ length words
      → SameStores (layout_of w) words words' (insert_plan w k p c words) (insert_plan w k p c words')
  pub given_several : (w : List ℕ) (k p c : ℕ) (words words' : List ℕ) → length words' ≡ length words
      → SameStores (layout_of w) words words' (several_plan w k p c words) (several_plan w k p c words')
