-- The words in which demand 3 (Demand3.antt) speaks of a whole course of calls: one insert or delete, altered words, and recoveries. "Demand 3 covers
-- [an insert of several records] too."
use Rattle.std.specs.Prelude.{ℕ, zero, suc, ◌+◌, ◌*◌, ◌/◌, ◌<◌, min, ◌≡◌, List, [], ◌∷◌, ◌++◌, cond, ◌⊎◌, eqb, ltb, length, set, Ok, Err}
use Rattle.sequences.specs.Sequence.{◌∈◌}
use Rattle.calls.specs.Answers.{answer_of, answer_stores, Answer}
use Rattle.stores.specs.Stores.{Write, applied, Plan, refuse, stores, words_after, made_by}
use Rattle.layout.specs.declared.Layout.{Layout}
use Rattle.layout.specs.Words.{header_words, link_words, tail_words, cell_at, ident_at, count_at, layout_of}
use Rattle.edits.specs.Edits.{insert_central, delete_central}
use Rattle.recovery.specs.Plan.{recover_plan}
use Rattle.calls.specs.Calls.{insert_plan, several_plan, delete_plan}

-- insert with a list, a position, a starting cell and a record, or the words of several; delete with a list and a position
pub data Edit : Type 0 where
  insert : ℕ → ℕ → ℕ → List ℕ → Edit
  several : ℕ → ℕ → ℕ → List ℕ → Edit
  delete : ℕ → ℕ → Edit

-- the list it names
abbrev pub named : Edit → ℕ
named (insert k p c words) = k
named (several k p c words) = k
named (delete k p) = k

abbrev pub edit_plan : List ℕ → Edit → Plan
edit_plan w (insert k p c words) = insert_plan w k p c words
edit_plan w (several k p c words) = several_plan w k p c words
edit_plan w (delete k p) = delete_plan w k p

-- all stores of a plan, and how many they are
abbrev pub all_stores : Plan → List Write
all_stores (refuse n) = []
all_stores (stores ps) = ps

abbrev pub needed : Plan → ℕ
needed p = length (all_stores p)

-- how many of its stores are due, if a call is cut after m: none before the central one, from that one on all
abbrev pub due_of : ℕ → ℕ → ℕ → ℕ
due_of central all m = cond (ltb m central) 0 all

-- "wherever it is cut, its list has at the end the words left by inserting exactly the records whose central store was made": of r
-- records with n stores each, of which the last but one is central, those of the first (m + 1) / n are due
abbrev pub due_of_several : ℕ → ℕ → ℕ → ℕ
due_of_several n r m = n * min r ((m + 1) / n)

-- Insert has "P + 6 stores. The central one is .. number P + 5.", for each of several records too. "Delete stores four words", of which the
-- second is, and "gains P further stores".
abbrev pub due : Layout → Edit → ℕ → ℕ
due l (insert k p c words) = due_of (insert_central l) (tail_words l + 6)
due l (several k p c words) = due_of_several (tail_words l + 6) (length words / l.width)
due l (delete k p) = due_of delete_central (4 + tail_words l)

-- "Its old words are those in the sound store, its new words those with every store of the insert or delete made. In the final
-- store the list named by the call has its old words if the call was refused or its allowance is below the central store's number,
-- else its new words." Of several records, the words with the stores that are due.
abbrev pub due_words : List ℕ → Edit → ℕ → List ℕ
due_words w e m = applied (all_stores (edit_plan w e)) (due (layout_of w) e m) w

-- "in each list but the one it names, at most one word is altered, to any value": word f of cell c becomes v. Or two are, for "a list with its
-- count and one identifier altered comes back whole": the identifier of cell c becomes v, and the count n.
pub data Alteration : Type 0 where
  untouched : Alteration
  altered : ℕ → ℕ → ℕ → Alteration
  both : ℕ → ℕ → ℕ → Alteration

-- in list j
abbrev pub alter : Layout → ℕ → Alteration → List ℕ → List ℕ
alter l j untouched w = w
alter l j (altered c f v) w = set w (cell_at l c + f) v
alter l j (both c v n) w = set (set w (ident_at l c) v) (count_at l j) n

-- "one of the header's four, or a member's identifier, forward or back": of list j, whose sequence is s; with the count, the header's
-- identifier or a member's
abbrev pub Allowed : ℕ → List ℕ → Alteration → Type 0
Allowed j s untouched = Unit {0}
Allowed j s (altered c f v) = ((c ≡ j) × (f < header_words)) ⊎ ((c ∈ s) × (f < link_words))
Allowed j s (both c v n) = c ∈ (j ∷ s)

-- of each of the n lists but list k
abbrev pub AllowedBut : ℕ → ℕ → (ℕ → List ℕ) → (ℕ → Alteration) → Type 0
AllowedBut k n sequence alts = (j : ℕ) → j < n → (j ≡ k → ⊥) → Allowed j (sequence j) (alts j)

-- the alterations of the lists below n, but not of list k
unfoldable pub altered_below : Layout → ℕ → (ℕ → Alteration) → ℕ → List ℕ → List ℕ
altered_below l k alts zero w = w
altered_below l k alts (suc j) w = cond (eqb j k) (altered_below l k alts j w) (alter l j (alts j) (altered_below l k alts j w))

-- "That is the found store."
abbrev pub found : List ℕ → Edit → ℕ → (ℕ → Alteration) → List ℕ
found w e m alts = altered_below (layout_of w) (named e) alts (layout_of w).lists (words_after (edit_plan w e) m w)

-- "The first works on the found store, each later one on the words the last left": the words, the answers and the stores of
-- recoveries with these allowances
unfoldable pub words_through : List ℕ → List ℕ → List ℕ
words_through [] y = y
words_through (m ∷ ms) y = words_through ms (words_after (recover_plan y) m y)

unfoldable pub answers_through : List ℕ → List ℕ → List Answer
answers_through [] y = []
answers_through (m ∷ ms) y = answer_of (recover_plan y) m ∷ answers_through ms (words_after (recover_plan y) m y)

unfoldable pub stores_through : List ℕ → List ℕ → List Write
stores_through [] y = []
stores_through (m ∷ ms) y = made_by (recover_plan y) m ++ stores_through ms (words_after (recover_plan y) m y)

-- an answer is not a refusal, whatever its number
abbrev pub NotRefused : Answer → Type 0
NotRefused (Ok o) = Unit {0}
NotRefused (Err n) = ⊥

-- "The runs' numbers of stores"
unfoldable pub total : List Answer → ℕ
total [] = 0
total (a ∷ rest) = answer_stores a + total rest
