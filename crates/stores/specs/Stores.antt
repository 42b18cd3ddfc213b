-- A call is a refusal or a list of word stores; an allowance cuts it short.
use Rattle.std.specs.Prelude.{ℕ, ◌+◌, ◌<◌, ◌≡◌, List, [], ◌∷◌, cond, ltb, length, set, take}
use Rattle.sequences.specs.Sequence.{All}
use Rattle.layout.specs.declared.Refusal.{Refusal}
use Rattle.layout.specs.Words.{number_of}
use Rattle.stores.specs.declared.Write as D
use Rattle.stores.specs.declared.Outcome.{Outcome}
use Rattle.stores.specs.declared.Outcome.TheVariants.{Done, Stopped}

-- a word store, as the code has it
abbrev pub Write : Type 0
Write = D.Write

abbrev pub write : ℕ → ℕ → Write
write a v = record { at = a; value = v }

abbrev pub store : List ℕ → Write → List ℕ
store w p = set w p.at p.value

-- the words after all the stores, in order
unfoldable pub run : List Write → List ℕ → List ℕ
run [] w = w
run (p ∷ ps) w = run ps (store w p)

-- "make the first stores of their list up to it": the words after the first m stores
abbrev pub applied : List Write → ℕ → List ℕ → List ℕ
applied ps m w = run (take m ps) w

-- none of the stores goes to word a
abbrev pub Spares : ℕ → List Write → Type 0
Spares a = All (λ (p : Write). a ≡ p.at → ⊥)

-- what a call comes to, before any store is made
pub data Plan : Type 0 where
  refuse : Refusal → Plan
  stores : List Write → Plan

-- "A refusal is its number, no store made.": what a call leaves, where `after` makes stores in what is lent
abbrev pub left_by : {A : Type 0} → (List Write → A → A) → Plan → ℕ → A → A
left_by after (refuse n) m b = b
left_by after (stores ps) m b = after (take m ps) b

-- all stores of a plan
abbrev pub whole_by : {A : Type 0} → (List Write → A → A) → Plan → A → A
whole_by after (refuse n) b = b
whole_by after (stores ps) b = after ps b

abbrev pub words_after : Plan → ℕ → List ℕ → List ℕ
words_after p m w = left_by run p m w

-- the number of a plan's refusal, 0 for none, and its stores that an allowance lets through
abbrev pub plan_number : Plan → ℕ
plan_number (refuse n) = number_of n
plan_number (stores ps) = 0

abbrev pub made_by : Plan → ℕ → List Write
made_by (refuse n) m = []
made_by (stores ps) m = take m ps

-- the values vs, from address a on
unfoldable pub in_row : ℕ → List ℕ → List Write
in_row a [] = []
in_row a (v ∷ vs) = write a v ∷ in_row (a + 1) vs

-- all stores go to words below n
abbrev pub Inside : ℕ → List Write → Type 0
Inside n = All (λ (p : Write). p.at < n)

-- "The answer is done with the number of stores, or stopped with the number. Stopped is given if the allowance is below the
-- whole number needed, and only then."
abbrev pub outcome_at : ℕ → ℕ → Outcome
outcome_at whole m = cond (ltb m whole) (Stopped m) (Done whole)

abbrev pub outcome_of : List Write → ℕ → Outcome
outcome_of ps m = outcome_at (length ps) m

-- how many stores were made, by the outcome's cases
abbrev pub made_in : Outcome → ℕ
made_in (Done n) = n
made_in (Stopped n) = n

-- the outcome of stores that n were made before
abbrev pub onward : ℕ → Outcome → Outcome
onward n (Done k) = Done (n + k)
onward n (Stopped k) = Stopped (n + k)
