-- The number and the values of each answer, by its cases, are those that the questions give.
use Prim.Native.Nat.{ℕ}
use mathlib.Core.Path.{◌≡◌, refl, ap, ◌∙◌}
use mathlib.Core.List.{List}
use mathlib.Core.Bool.{Bool, true, false}
use lib.Dec.{eqb}
use lib.ListN.{length}
use Rattle.stores.specs.Stores.{Plan, refuse, stores, plan_number}
use Rattle.std.specs.Prelude.{Result, Ok, Err}
use Rattle.layout.specs.declared.Refusal.{Refusal}
use Rattle.layout.specs.declared.Refusal.TheVariants.{Range, Size}
use Rattle.requests.specs.declared.Look.{Look}
use Rattle.layout.specs.declared.Layout.{Layout}
use Rattle.layout.specs.Words.{ask, in_range, size_of, number_of}
use Rattle.requests.specs.declared.Request.TheVariants.{Check, Whole}
use Rattle.requests.specs.Requests.{look_of, with_look}
use Rattle.calls.specs.Answers.{formatted_number, checked_number, counted_number, counted_length, needed_of, needed_number}
use Rattle.calls.specs.Calls.{format_answer, format_number, look_number, check_answer, check_number, length_answer, length_number, length_value}

pub formatted-number : {r : Result (Unit {0}) Refusal} (l : Layout) (w : List ℕ) → r ≡ format_answer l w → formatted_number r ≡ format_number l w
unfolding format_answer format_number
formatted-number l w e = ap formatted_number e ∙ by (in_range l) (eqb (length w) (size_of l))
  where
    by : (a b : Bool) → formatted_number (ask a (Err Range) (ask b (Err Size) (Ok tt))) ≡ ask a (number_of Range) (ask b (number_of Size) 0)
    by false b = refl
    by true false = refl
    by true true = refl

pub checked-number : {r : Result (Unit {0}) Refusal} (w : List ℕ) → r ≡ check_answer w → checked_number r ≡ check_number w
unfolding check_answer check_number
checked-number w e = ap checked_number e ∙ by (look_of w Check)
  where
    by : (x : Result Look Refusal) → checked_number (with_look x Err (λ l t. Ok tt)) ≡ look_number x
    by (Err n) = refl
    by (Ok o) = refl

pub counted-number : {r : Result ℕ Refusal} (w : List ℕ) (k : ℕ) → r ≡ length_answer w k
    → (counted_number r ≡ length_number w k) × (counted_length r ≡ length_value w k)
unfolding length_answer length_number length_value
counted-number {r} w k e = by (look_of w (Whole k)) e
  where
    by : (x : Result Look Refusal) → r ≡ with_look x Err (λ l t. Ok t.count)
        → (counted_number r ≡ look_number x) × (counted_length r ≡ with_look x (λ n. 0) (λ l t. t.count))
    by (Err n) e = rw e (refl, refl)
    by (Ok o) e = rw e (refl, refl)

-- of what is told of a plan
pub needed-number : {r : Result ℕ Refusal} (p : Plan) → r ≡ needed_of p → needed_number r ≡ plan_number p
needed-number p e = ap needed_number e ∙ by p
  where
    by : (p : Plan) → needed_number (needed_of p) ≡ plan_number p
    by (refuse n) = refl
    by (stores ps) = refl
