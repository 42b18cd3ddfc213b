-- The calls from C are those on lent bytes (Plans.antt). "There an answer is one 32-bit number."
use Rattle.std.specs.Prelude.{ℕ, ◌+◌, List, Result, Ok, Err}
use Rattle.layout.specs.declared.Refusal.{Refusal}
use Rattle.layout.specs.Words.{number_of}
use Rattle.stores.specs.declared.Outcome.{Outcome}
use Rattle.stores.specs.declared.Outcome.TheVariants.{Done, Stopped}
use Rattle.stores.specs.Stores.{Plan}
use Rattle.calls.specs.declared.Figures.{Figures}
use Rattle.calls.specs.Answers.{formatted_number, formatted_of, checked_number}
use Rattle.byte_calls.specs.Plans.{byte_check, byte_length}

-- "a refusal's number, ..; 65,536 plus the length or the number of stores done; 131,072 plus the number where stopped"
abbrev pub code_of : Result Outcome Refusal → ℕ
code_of (Ok (Done n)) = 65536 + n
code_of (Ok (Stopped n)) = 131072 + n
code_of (Err n) = number_of n

abbrev pub counted_code : Result ℕ Refusal → ℕ
counted_code (Ok n) = 65536 + n
counted_code (Err n) = number_of n

-- "From C each figure is a call of its own, answered 65,536 plus it"; "where it would refuse, its number is given"
abbrev pub first_code : Result Figures Refusal → ℕ
first_code (Ok f) = 65536 + f.first
first_code (Err n) = number_of n

abbrev pub last_code : Result Figures Refusal → ℕ
last_code (Ok f) = 65536 + f.last
last_code (Err n) = number_of n

abbrev pub stores_code : Result Figures Refusal → ℕ
stores_code (Ok f) = 65536 + f.stores
stores_code (Err n) = number_of n

abbrev pub needed_code : Result ℕ Refusal → ℕ
needed_code (Ok n) = 65536 + n
needed_code (Err n) = number_of n

-- "with 0 for check's sound and for format done"
unfoldable pub check_code : List ℕ → ℕ
check_code bytes = checked_number (byte_check bytes)

unfoldable pub length_code : List ℕ → ℕ → ℕ
length_code bytes k = counted_code (byte_length bytes k)

abbrev pub whole_code : Plan → ℕ
whole_code p = formatted_number (formatted_of p)
