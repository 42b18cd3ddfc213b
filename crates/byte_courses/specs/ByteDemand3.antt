-- Demand 3 for the calls from C: read as words, the bytes go through the course of the calls on words.
use Rattle.std.specs.Prelude.{ℕ, ◌+◌, ◌%◌, ◌≤◌, ◌≡◌, List, [], ◌∷◌, ◌++◌, map, length, Ok}
use Rattle.sequences.specs.Sequence.{All}
use Rattle.calls.specs.Answers.{answer_of, Answer}
use Rattle.stores.specs.declared.Outcome.TheVariants.{Done}
use Rattle.stores.specs.Stores.{run}
use Rattle.encoding.specs.Bytes.{words_in, byte_writes}
use Rattle.layout.specs.Words.{layout_of}
use Rattle.lists.specs.Lists.{Ordered}
use Rattle.courses.specs.Course.{Edit, named, all_stores, needed, due_words, Alteration, AllowedBut, answers_through, NotRefused}
use Rattle.courses.specs.Demand3.{Course}
use Rattle.byte_calls.specs.Plans.{byte_recover}
use Rattle.byte_calls.specs.Interface.{code_of}
use Rattle.byte_courses.specs.ByteCourse.{in_words, Found, bytes_through, codes_through}

-- the number of an answer that is not a refusal
abbrev pub NotRefusal : ℕ → Type 0
NotRefusal n = (a : Answer) × NotRefused a × (n ≡ code_of a)

-- What is so of a course in bytes. It starts from the store b, which is sound but for the records of nodes in no list; its call names list k, and x
-- has the words that are due to that list; y is the found store. Recoveries with the allowances ms follow, and last one with the allowance `last`,
-- which leaves z and is answered r.
pub record ByteCourse (b : List ℕ) (s : Ordered (words_in b)) (k : ℕ) (x y ms : List ℕ) (last : ℕ) (z : List ℕ) (r : ℕ) : Type 0 where
  -- "None is refused, and the last is answered done": with the number of stores that it needs
  pub accepted : All NotRefusal (codes_through ms y)
  pub done : r ≡ 65536 + needed (byte_recover (bytes_through ms y))
  -- the words of the bytes, and the numbers of the answers, are those of the course in words
  pub words : Course (words_in b) s k x (words_in y) ms last (words_in z) (Ok (Done (needed (byte_recover (bytes_through ms y)))))
  pub numbers : codes_through ms y ≡ map code_of (answers_through ms (words_in y))
  -- the final bytes are those of one whole recovery, so they do not depend on the cuts
  pub same : z ≡ run (byte_writes (all_stores (byte_recover y))) y

abbrev pub ByteDemand3 : Type 0
ByteDemand3 =
    -- "It starts from any sound store." "Older stores get so by recovery", so nothing is asked of the records of nodes in no list.
    (b : List ℕ) → length b % 2 ≡ 0 → (s : Ordered (words_in b))
    -- "One insert or delete runs on it, with any arguments and any allowance; refused, it stores nothing.
    → (e : Edit) (m : ℕ)
    -- Then, in each list but the one it names, at most one word is altered, to any value: one of the header's four, or a member's
    -- identifier, forward or back." Or two are: "its count and one identifier". "That is the found store.
    → (alts : ℕ → Alteration) → AllowedBut (named (in_words e)) (layout_of (words_in b)).lists s.lists.sequence alts
    → (y : List ℕ) → Found b e m alts y
    -- Recover calls follow, any number from none up, each with any allowance, whole runs among them, and last one with an allowance not
    -- below the number of stores it needs."
    → (ms : List ℕ) (last : ℕ) → needed (byte_recover (bytes_through ms y)) ≤ last
    → ByteCourse b s (named (in_words e)) (due_words (words_in b) (in_words e) m) y ms last (bytes_through (ms ++ last ∷ []) y)
    (code_of (answer_of (byte_recover (bytes_through ms y)) last))
