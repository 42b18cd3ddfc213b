-- Demand 3, "a single claim about a whole list of calls, not one for each call".
use Rattle.std.specs.Prelude.{ℕ, ◌+◌, ◌<◌, ◌≤◌, ◌≡◌, List, [], ◌∷◌, ◌++◌, cond, get_or, Ok}
use Rattle.sequences.specs.Sequence.{◌∈◌, All}
use Rattle.calls.specs.Answers.{answer_of, answer_stores, Answer}
use Rattle.stores.specs.declared.Outcome.TheVariants.{Done}
use Rattle.stores.specs.Stores.{run}
use Rattle.layout.specs.Words.{head_words, link_words, tail_words, Node, cell_at, ident_at, record_at, worn_ident, is_worn, layout_of}
use Rattle.lists.specs.Lists.{Ordered, Sound, IsList, SameCells, KeepsWorn}
use Rattle.edits.specs.Edited.{replaced}
use Rattle.recovery.specs.Plan.{joined, recover_plan, Kind, differing}
use Rattle.courses.specs.Course.{Edit, named, all_stores, needed, due_words, Alteration, AllowedBut, found, words_through, answers_through, stores_through, NotRefused, total}

-- What is so of a course. It starts from the store w, which is sound but for the records of nodes in no list; its call names list k, and x has the
-- words that are due to that list; y is the found store. Recoveries with the allowances ms follow, and last one with the allowance `last`, which
-- leaves z and is answered r.
pub record Course (w : List ℕ) (s : Ordered w) (k : ℕ) (x y ms : List ℕ) (last : ℕ) (z : List ℕ) (r : Answer) : Type 0 where
  -- "None is refused, and the last is answered done": with the number of stores that it needs
  pub accepted : All NotRefused (answers_through ms y)
  pub done : r ≡ Ok (Done (needed (recover_plan (words_through ms y))))
  -- The final store is sound, and its lists have their old sequences, but the one named has `own`: by `list` that is its sequence in x, and
  -- a list has only one (`list-unique`, lists/proofs/Unique.antt).
  pub own : List ℕ
  pub list : k < (layout_of w).lists → IsList (layout_of w) x k own
  pub sound : Sound z
  pub sequences : sound.ordered.lists.sequence ≡ replaced s.lists.sequence k own
  -- "In the final store the list named by the call has its old words if .., else its new words. Every other list has its old words."
  pub named : k < (layout_of w).lists → SameCells (layout_of w) x z (k ∷ own)
  pub others : (j : ℕ) → j < (layout_of w).lists → (j ≡ k → ⊥) → SameCells (layout_of w) w z (j ∷ s.lists.sequence j)
  -- "Words 0 to 7 and all nodes in none of these lists are as found, with 0 where the rule above clears" and wipes: not on a worn node, which is
  -- as found, whole.
  pub head : (a : ℕ) → a < head_words → get_or z a 0 ≡ get_or y a 0
  pub outside : (c : ℕ) → Node (layout_of w) c → (c ∈ joined (replaced s.lists.sequence k own) (layout_of w).lists → ⊥)
      → (get_or z (ident_at (layout_of w) c) 0 ≡ cond (is_worn (get_or y (ident_at (layout_of w) c) 0)) worn_ident 0)
      × ((f : ℕ) → 1 ≤ f → f < link_words → get_or z (cell_at (layout_of w) c + f) 0 ≡ get_or y (cell_at (layout_of w) c + f) 0)
      × ((f : ℕ) → f < tail_words (layout_of w)
      → get_or z (record_at (layout_of w) c + f) 0 ≡ cond (is_worn (get_or y (ident_at (layout_of w) c) 0)) (get_or y (record_at (layout_of w) c + f) 0) 0)
  -- The nodes that are worn in w keep all their words.
  pub worn : KeepsWorn (layout_of w) w z
  -- every store goes to a faulty word of these lists, or to the identifier or to a record word of a cell in none, which is not worn
  pub stored : All (Kind (layout_of w) y (replaced s.lists.sequence k own)) (stores_through (ms ++ last ∷ []) y)
  -- "The runs' numbers of stores, the last run's too, add up to the count of places where the found and the final store hold different
  -- words."
  pub adds : total (answers_through ms y) + answer_stores r ≡ differing y z
  -- Together the runs make the stores of one whole recovery, so the final words do not depend on the cuts.
  pub made : stores_through (ms ++ last ∷ []) y ≡ all_stores (recover_plan y)
  pub same : z ≡ run (all_stores (recover_plan y)) y

-- what demand 3 says of recoveries of the words y that leave z, the last of them answered r
abbrev pub Demanded : (y ms : List ℕ) (last : ℕ) (z : List ℕ) (r : Answer) → Type 0
Demanded y ms last z r =
    -- "It starts from any sound store." "Older stores get so by recovery", so nothing is asked of the records of nodes in no list.
    (w : List ℕ) (s : Ordered w)
    -- "One insert or delete runs on it, with any arguments and any allowance; refused, it stores nothing.
    → (e : Edit) (m : ℕ)
    -- Then, in each list but the one it names, at most one word is altered, to any value: one of the header's four, or a member's
    -- identifier, forward or back." Or two are: "its count and one identifier".
    → (alts : ℕ → Alteration) → AllowedBut (named e) (layout_of w).lists s.lists.sequence alts
    -- "That is the found store.
    → y ≡ found w e m alts
    -- Recover calls follow, any number from none up, each with any allowance, whole runs among them, and last one with an allowance not
    -- below the number of stores it needs."
    → needed (recover_plan (words_through ms y)) ≤ last
    → Course w s (named e) (due_words w e m) y ms last z r

-- "The first works on the found store, each later one on the words the last left. Nobody else writes in between."
abbrev pub Demand3 : Type 0
Demand3 =
    (y ms : List ℕ) (last : ℕ)
    → Demanded y ms last (words_through (ms ++ last ∷ []) y) (answer_of (recover_plan (words_through ms y)) last)
