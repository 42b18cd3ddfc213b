-- "Memory cells that a fitter has found weak should never be used again. Identifier 65,535 on a node in no list marks it worn. A sound store
-- may have such nodes, recovery lets them be, and the search for a free cell passes over them; every caller of that search must say so, and
-- free now means identifier 0, in number 10 too. A new exported call marks a free node with one store, answered done."
--
-- That the inserts keep worn nodes stands in their contracts too (axle_store/src/lib.rt, axle/src/lib.rt), and that a course of demand 3 does
-- (courses/specs/Demand3.antt). A member whose identifier is altered to 65,535 is a member: `member_worn` (distance/specs/Distance.antt).
use Rattle.std.specs.Prelude.{ℕ, ◌+◌, ◌*◌, ◌%◌, ◌<◌, ◌≤◌, ◌≡◌, List, [], ◌∷◌, ◌⊎◌, ◌↔◌, length, get_or, set, Ok, Err}
use Rattle.sequences.specs.Sequence.{◌∈◌}
use Rattle.calls.specs.Answers.{answer_of}
use Rattle.stores.specs.declared.Outcome.TheVariants.{Done}
use Rattle.stores.specs.Stores.{refuse, words_after}
use Rattle.encoding.specs.Bytes.{words_in, bytes_after}
use Rattle.layout.specs.declared.Refusal.TheVariants.{NoNode, Full, NotFree}
use Rattle.layout.specs.Words.{Node, first_node, is_node, ask, ident_at, worn_ident, is_free, is_worn, layout_of}
use Rattle.lists.specs.Lists.{Sound, SameCells, KeepsWorn}
use Rattle.lists.specs.Decide.{view_of, cells_with}
use Rattle.edits.specs.Edits.{mark_stores}
use Rattle.recovery.specs.Plan.{joined, fitting_of, recover_plan}
use Rattle.calls.specs.Calls.{insert_plan, several_plan, delete_plan, mark_plan}
use Rattle.demands.specs.Demand2.{FreeNode}
use Rattle.courses.specs.Course.{Edit, edit_plan}
use Rattle.byte_calls.specs.Plans.{byte_mark, byte_recover}
use Rattle.byte_calls.specs.Interface.{code_of}
use Rattle.byte_courses.specs.ByteCourse.{byte_edit}

-- a node with identifier 65,535
pub record WornNode (w : List ℕ) (i : ℕ) : Type 0 where
  pub node : Node (layout_of w) i
  pub worn : get_or w (ident_at (layout_of w) i) 0 ≡ worn_ident

-- all free nodes, and all worn ones
abbrev pub free_nodes : List ℕ → List ℕ
free_nodes w = cells_with is_free (view_of (layout_of w) w) (first_node (layout_of w)) (layout_of w).nodes

abbrev pub worn_nodes : List ℕ → List ℕ
worn_nodes w = cells_with is_worn (view_of (layout_of w) w) (first_node (layout_of w)) (layout_of w).nodes

-- Mark, of cell c of a sound store.
pub record Marks (w : List ℕ) (s : Sound w) (c : ℕ) : Type 0 where
  -- 8 and 13 in this order, or done with one store
  pub answer : answer_of (mark_plan w c) mark_stores
      ≡ ask (is_node (layout_of w) c) (Err NoNode) (ask (is_free (get_or w (ident_at (layout_of w) c) 0)) (Err NotFree) (Ok (Done 1)))
  -- of a free node: its identifier is stored, and nothing else,
  pub words : FreeNode w c → words_after (mark_plan w c) mark_stores w ≡ set w (ident_at (layout_of w) c) worn_ident
  -- all lists are as they were, and the node is worn.
  pub leaves : FreeNode w c → (s' : Sound (words_after (mark_plan w c) mark_stores w))
      × (layout_of (words_after (mark_plan w c) mark_stores w) ≡ layout_of w)
      × (s'.ordered.lists.sequence ≡ s.ordered.lists.sequence)
      × ((k : ℕ) → k < (layout_of w).lists → SameCells (layout_of w) w (words_after (mark_plan w c) mark_stores w) (k ∷ s.ordered.lists.sequence k))
      × WornNode (words_after (mark_plan w c) mark_stores w) c

-- The calls that change a store (format begins a new one), with any arguments and any allowance, one after another.
pub data Call : Type 0 where
  edit : Edit → ℕ → Call
  mark : ℕ → Call
  recover : ℕ → Call

abbrev pub words_by : Call → List ℕ → List ℕ
words_by (edit e m) w = words_after (edit_plan w e) m w
words_by (mark c) w = words_after (mark_plan w c) mark_stores w
words_by (recover m) w = words_after (recover_plan w) m w

unfoldable pub words_by_all : List Call → List ℕ → List ℕ
words_by_all [] w = w
words_by_all (c ∷ cs) w = words_by_all cs (words_by c w)

-- The same from C: the store and the record are bytes.
abbrev pub bytes_by : Call → List ℕ → List ℕ
bytes_by (edit e m) b = bytes_after (byte_edit b e) m b
bytes_by (mark c) b = bytes_after (byte_mark b c) mark_stores b
bytes_by (recover m) b = bytes_after (byte_recover b) m b

unfoldable pub bytes_by_all : List Call → List ℕ → List ℕ
bytes_by_all [] b = b
bytes_by_all (c ∷ cs) b = bytes_by_all cs (bytes_by c b)

pub record Worn : Type 0 where
  -- "A sound store may have such nodes": each of its nodes is in a list, or else it is free or worn;
  pub kinds : (w : List ℕ) (s : Sound w) (i : ℕ) → Node (layout_of w) i
      → (i ∈ joined s.ordered.lists.sequence (layout_of w).lists → ⊥) ↔ (FreeNode w i ⊎ WornNode w i)
  -- the free ones, the worn ones and the lists' members are all.
  pub sum : (w : List ℕ) (s : Sound w)
      → length (free_nodes w) + (length (worn_nodes w) + length (joined s.ordered.lists.sequence (layout_of w).lists)) ≡ (layout_of w).nodes
  -- "free now means identifier 0, in number 10 too": where the other questions are answered yes, insert answers 10 exactly if no node has
  -- identifier 0, and an insert of several records exactly if fewer have it than there are records.
  pub full : (w : List ℕ) (s : Sound w) (k p c : ℕ) (words : List ℕ) → k < (layout_of w).lists → p ≤ length (s.ordered.lists.sequence k)
      → Node (layout_of w) c → length words ≡ (layout_of w).width
      → (insert_plan w k p c words ≡ refuse Full) ↔ ((i : ℕ) → FreeNode w i → ⊥)
  pub several_full : (w : List ℕ) (s : Sound w) (k p c r : ℕ) (words : List ℕ) → k < (layout_of w).lists → p ≤ length (s.ordered.lists.sequence k)
      → Node (layout_of w) c → 0 < r → length words ≡ r * (layout_of w).width
      → (several_plan w k p c words ≡ refuse Full) ↔ (length (free_nodes w) < r)
  -- "the search for a free cell passes over them": whatever words it is given, and wherever it is cut, an insert keeps all words of every node
  -- with identifier 65,535; and so does a delete.
  pub inserts : (w : List ℕ) (k p c : ℕ) (words : List ℕ) (m : ℕ) → KeepsWorn (layout_of w) w (words_after (insert_plan w k p c words) m w)
  pub severals : (w : List ℕ) (k p c : ℕ) (words : List ℕ) (m : ℕ) → KeepsWorn (layout_of w) w (words_after (several_plan w k p c words) m w)
  pub deletes : (w : List ℕ) (k p m : ℕ) → KeepsWorn (layout_of w) w (words_after (delete_plan w k p) m w)
  -- "recovery lets them be": of whatever words it is given, every such node that is in none of the sequences that are chosen.
  pub recovers : (w : List ℕ) (m i : ℕ) → WornNode w i → (i ∈ joined (fitting_of (layout_of w) w) (layout_of w).lists → ⊥)
      → SameCells (layout_of w) w (words_after (recover_plan w) m w) (i ∷ [])
  -- "A new exported call marks a free node with one store, answered done."
  pub marks : (w : List ℕ) (s : Sound w) (c : ℕ) → Marks w s c
  -- The mark is for good: after any calls, whatever they are given, refused, cut or whole, the nodes that were worn in a sound store have all
  -- their words.
  pub later : (w : List ℕ) → Sound w → (calls : List Call) → KeepsWorn (layout_of w) w (words_by_all calls w)
  -- The same of the calls from C: b has the bytes of a sound store.
  pub marks_bytes : (b : List ℕ) → Sound (words_in b) → length b % 2 ≡ 0 → (c : ℕ) → FreeNode (words_in b) c
      → (code_of (answer_of (byte_mark b c) mark_stores) ≡ 65537)
      × (words_in (bytes_after (byte_mark b c) mark_stores b) ≡ set (words_in b) (ident_at (layout_of (words_in b)) c) worn_ident)
  pub later_bytes : (b : List ℕ) → Sound (words_in b) → length b % 2 ≡ 0 → (calls : List Call)
      → KeepsWorn (layout_of (words_in b)) (words_in b) (words_in (bytes_by_all calls b))
