-- The calls on what is lent, in either form: what each answers and plans is what crate calls says of the words, behind the question whether
-- the elements are whole words.
use Rattle.std.specs.Prelude.{ℕ, List, [], Bool, Result, Err}
use Rattle.layout.specs.declared.Refusal.{Refusal}
use Rattle.layout.specs.declared.Refusal.TheVariants.{Size}
use Rattle.layout.specs.Words.{ask}
use Rattle.stores.specs.Stores.{Plan, refuse}

-- "A store of odd byte length is answered 4 before all else"
abbrev pub planned : Bool → Plan → Plan
planned whole p = ask whole (refuse Size) p

abbrev pub answered : {A : Type 0} → Bool → Result A Refusal → Result A Refusal
answered whole r = ask whole (Err Size) r

-- "a record of odd byte length is answered 9 in its turn": it counts as a record of no words, and P is at least 1
abbrev pub record_in : Bool → List ℕ → List ℕ
record_in whole words = ask whole [] words
