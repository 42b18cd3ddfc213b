-- A part of the words as one number.
use Rattle.std.specs.Prelude.{ℕ, ◌+◌, List, cond, eqb, length, get_or}

abbrev pub part_code : List ℕ → ℕ
part_code s = cond (eqb (length s) 0) 0 (65536 + get_or s 0 0)
