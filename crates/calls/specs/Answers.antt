-- "For every answer that is an enum, a definition states this paper's number and values for each of the enum's cases, and the promises
-- use that definition."
use Rattle.std.specs.Prelude.{ℕ, ◌-◌, ◌≡◌, List, length, get_or, Result, Ok, Err}
use Rattle.layout.specs.declared.Layout.{Layout}
use Rattle.layout.specs.declared.Refusal.{Refusal}
use Rattle.layout.specs.Words.{formatted, worn_ident, number_of}
use Rattle.stores.specs.declared.Outcome.{Outcome}
use Rattle.stores.specs.Stores.{Plan, refuse, stores, outcome_of, made_in}
use Rattle.lists.specs.Decide.{view_of}
use Rattle.calls.specs.declared.Figures.{Figures}

-- the number of an answer's refusal, 0 for none
abbrev pub refusal_number : {A : Type 0} → Result A Refusal → ℕ
refusal_number (Ok x) = 0
refusal_number (Err n) = number_of n

-- format: done has number 0 and leaves the words of a formatted store; refused, they are as they were
abbrev pub formatted_number : Result (Unit {0}) Refusal → ℕ
formatted_number r = refusal_number r

abbrev pub formatted_words : Layout → List ℕ → Result (Unit {0}) Refusal → List ℕ
formatted_words l w (Ok u) = formatted l
formatted_words l w (Err n) = w

-- "Check answers sound with number 0, or its number."
abbrev pub checked_number : Result (Unit {0}) Refusal → ℕ
checked_number r = refusal_number r

-- length: number 0 and the length, or the number and no length
abbrev pub counted_number : Result ℕ Refusal → ℕ
counted_number r = refusal_number r

abbrev pub counted_length : Result ℕ Refusal → ℕ
counted_length (Ok n) = n
counted_length (Err n) = 0

-- format as a plan: done, or the plan's refusal
abbrev pub formatted_of : Plan → Result (Unit {0}) Refusal
formatted_of (refuse n) = Err n
formatted_of (stores ps) = Ok tt

-- The calls that make stores one by one, by their plans: how the stores ended, or the plan's refusal.
abbrev pub Answer : Type 0
Answer = Result Outcome Refusal

abbrev pub answer_of : Plan → ℕ → Answer
answer_of (refuse n) m = Err n
answer_of (stores ps) m = Ok (outcome_of ps m)

-- the number of an answer, 0 for none, and its number of stores, by its cases
abbrev pub answer_number : Answer → ℕ
answer_number r = refusal_number r

abbrev pub answer_stores : Answer → ℕ
answer_stores (Ok o) = made_in o
answer_stores (Err n) = 0

-- What is told of an insert of several records before its first store: "the first and the last cell in order of use" of these cells, and "the
-- number of word stores".
abbrev pub figures_of : List ℕ → ℕ → Figures
figures_of cells n = record { first = get_or cells 0 0; last = get_or cells (length cells - 1) 0; stores = n }

-- its number, 0 for none, and the figures, 0 if refused, by its cases
abbrev pub foretold_number : Result Figures Refusal → ℕ
foretold_number r = refusal_number r

abbrev pub foretold_first : Result Figures Refusal → ℕ
foretold_first (Ok f) = f.first
foretold_first (Err n) = 0

abbrev pub foretold_last : Result Figures Refusal → ℕ
foretold_last (Ok f) = f.last
foretold_last (Err n) = 0

abbrev pub foretold_stores : Result Figures Refusal → ℕ
foretold_stores (Ok f) = f.stores
foretold_stores (Err n) = 0

-- the cells told are no worn nodes of the words w
abbrev pub ForetoldUnworn : Layout → List ℕ → Result Figures Refusal → Type 0
ForetoldUnworn l w (Err n) = Unit {0}
ForetoldUnworn l w (Ok f) = ((view_of l w).ident f.first ≡ worn_ident → ⊥) × ((view_of l w).ident f.last ≡ worn_ident → ⊥)

-- "the number of stores it will make": all stores of a plan, told before the first of them; "where it would refuse, its number is given"
abbrev pub needed_of : Plan → Result ℕ Refusal
needed_of (refuse n) = Err n
needed_of (stores ps) = Ok (length ps)

-- the number of what is told, 0 for none, and its number of stores, 0 if refused, by its cases
abbrev pub needed_number : Result ℕ Refusal → ℕ
needed_number r = refusal_number r

abbrev pub needed_stores : Result ℕ Refusal → ℕ
needed_stores (Ok n) = n
needed_stores (Err n) = 0
