-- Stores that follow on others, whose answer under an allowance is given; a refusal is handed on.
use Rattle.std.specs.Prelude.{ℕ, List, Ok, Err}
use Rattle.stores.specs.Stores.{Write}
use Rattle.calls.specs.Answers.{Answer}
use Rattle.mending.specs.Mending.{outcome_on, made_on}

-- the answer to all
abbrev pub answer_on : Answer → List Write → ℕ → Answer
answer_on (Ok o) qs m = Ok (outcome_on o qs m)
answer_on (Err n) qs m = Err n

-- what is left of what was lent
abbrev pub lent_on : {A : Type 0} → (List Write → List A → List A) → Answer → List Write → ℕ → List A → List A
lent_on after (Ok o) qs m b = after (made_on o qs m) b
lent_on after (Err n) qs m b = b
