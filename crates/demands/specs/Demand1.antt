-- Demand 1. "The lent words may hold anything, at any length, beside any numbers. Every call returns and touches only words lent to it. A
-- refused call gives its number and hands the words back unchanged; a refused read gives an empty part."
--
-- That a call returns, reads and writes inside the lent words only, and answers and leaves what its definition says, is its contract
-- (axle_store/src/lib.rt), for all words and numbers: no call has a `requires`. What the definitions say of refusals stands here.
use Rattle.std.specs.Prelude.{ℕ, ◌+◌, ◌<◌, ◌≤◌, ◌≡◌, List, [], ◌∷◌, length, take, drop, Err}
use Rattle.sequences.specs.Sequence.{◌∈◌, All}
use Rattle.calls.specs.Answers.{answer_of}
use Rattle.stores.specs.Stores.{Write, Plan, words_after, made_by}
use Rattle.layout.specs.declared.Layout.{Layout}
use Rattle.layout.specs.declared.Refusal.{Refusal}
use Rattle.layout.specs.Words.{number_of, layout_of}
use Rattle.recovery.specs.Plan.{recover_plan}
use Rattle.calls.specs.Calls.{format_answer, format_words, check_answer, length_answer, read_number, read_words, read_start, insert_plan, several_plan, delete_plan, mark_plan}

-- a call that stores, on the words w, whose questions have these numbers
pub record Refuses (numbers : List ℕ) (plan : Plan) (w : List ℕ) : Type 0 where
  -- "A refused call gives its number": that of one of its questions, with every allowance the same,
  pub number : (m : ℕ) (n : Refusal) → answer_of plan m ≡ Err n → (number_of n ∈ numbers) × ((m' : ℕ) → answer_of plan m' ≡ Err n)
  -- "and hands the words back unchanged"
  pub unchanged : (m : ℕ) (n : Refusal) → answer_of plan m ≡ Err n → words_after plan m w ≡ w
  -- "touches only words lent to it": every store goes to one of them, and they stay as many
  pub inside : (m : ℕ) → All (λ (p : Write). p.at < length w) (made_by plan m)
  pub size : (m : ℕ) → length (words_after plan m w) ≡ length w

-- read, which answers with a part of the words w that begins at word a: P words of them, P at least 1, so "an empty part always means
-- refused"
pub record Reads (w : List ℕ) (n a : ℕ) (part : List ℕ) : Type 0 where
  pub number : n ∈ (0 ∷ 1 ∷ 2 ∷ 3 ∷ 4 ∷ 5 ∷ 6 ∷ 7 ∷ [])
  pub refused : (n ≡ 0 → ⊥) → part ≡ []
  pub given : n ≡ 0 → (part ≡ take (length part) (drop a w)) × (length part ≡ (layout_of w).width) × (1 ≤ length part) × (a + length part ≤ length w)

pub record Demand1 : Type 0 where
  pub formats : (l : Layout) (w : List ℕ) (n : Refusal) → format_answer l w ≡ Err n → (number_of n ∈ (3 ∷ 4 ∷ [])) × (format_words l w ≡ w)
  pub formats_all : (l : Layout) (w : List ℕ) → length (format_words l w) ≡ length w
  pub checks : (w : List ℕ) (n : Refusal) → check_answer w ≡ Err n → number_of n ∈ (1 ∷ 2 ∷ 3 ∷ 4 ∷ 6 ∷ [])
  pub lengths : (w : List ℕ) (k : ℕ) (n : Refusal) → length_answer w k ≡ Err n → number_of n ∈ (1 ∷ 2 ∷ 3 ∷ 4 ∷ 5 ∷ 6 ∷ [])
  pub reads : (w : List ℕ) (k p : ℕ) → Reads w (read_number w k p) (read_start w k p) (read_words w k p)
  pub inserts : (w : List ℕ) (k p c : ℕ) (words : List ℕ)
      → Refuses (1 ∷ 2 ∷ 3 ∷ 4 ∷ 5 ∷ 6 ∷ 7 ∷ 8 ∷ 9 ∷ 10 ∷ []) (insert_plan w k p c words) w
  pub severals : (w : List ℕ) (k p c : ℕ) (words : List ℕ)
      → Refuses (1 ∷ 2 ∷ 3 ∷ 4 ∷ 5 ∷ 6 ∷ 7 ∷ 8 ∷ 9 ∷ 10 ∷ []) (several_plan w k p c words) w
  pub deletes : (w : List ℕ) (k p : ℕ) → Refuses (1 ∷ 2 ∷ 3 ∷ 4 ∷ 5 ∷ 6 ∷ 7 ∷ []) (delete_plan w k p) w
  pub marks : (w : List ℕ) (c : ℕ) → Refuses (1 ∷ 2 ∷ 3 ∷ 4 ∷ 6 ∷ 8 ∷ 13 ∷ []) (mark_plan w c) w
  pub recovers : (w : List ℕ) → Refuses (1 ∷ 2 ∷ 3 ∷ 4 ∷ 11 ∷ 12 ∷ []) (recover_plan w) w
