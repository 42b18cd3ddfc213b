-- Text as the codes of its characters: quoted text, decimal numbers, and a text that is written into a buffer.
use Rattle.std.specs.Prelude.{ℕ, zero, suc, ◌+◌, ◌*◌, ◌-◌, ◌/◌, ◌%◌, ◌<◌, ◌≡◌, List, [], ◌∷◌, ◌++◌, true, false, ltb, length, take, drop}
use Prim.Native.Char.{code}
use Prim.Native.String.{String, [] as none, ◌∷◌ as ◌then◌}
use Rattle.std.proofs.lemmas.List.Edits.{sets}
use Rattle.writing.specs.declared.Cursor.{Cursor}

-- the codes of a quoted text
abbrev pub codes : String → List ℕ
codes none = []
codes (c then s) = code c ∷ codes s

-- the code of a digit
abbrev pub digit : ℕ → ℕ
digit d = 48 + d

-- a number in decimal: the digits of n / 10, where n has more than one, and the last digit; `rounds` bounds the recursion only
unfoldable pub digits : ℕ → ℕ → List ℕ
digits zero n = []
digits (suc rounds) n = elim (ltb n 10) [ true ↦ digit n ∷ [] | false ↦ digits rounds (n / 10) ++ (digit (n % 10) ∷ []) ]

unfoldable pub decimal : ℕ → List ℕ
decimal n = digits (suc n) n

-- the number that a row of digits says, read from the left
unfoldable pub number_from : ℕ → List ℕ → ℕ
number_from v [] = v
number_from v (d ∷ ds) = number_from (10 * v + (d - digit 0)) ds

-- numbers, a space in front of each
unfoldable pub spaced : List ℕ → List ℕ
spaced [] = []
spaced (x ∷ xs) = codes " " ++ (decimal x ++ spaced xs)

-- a text written over the front of a buffer, as far as it fits
unfoldable pub overwritten : List ℕ → List ℕ → List ℕ
overwritten text old = take (length old) text ++ drop (length text) old

-- the same from place n on: the buffer o becomes o', and m is the place behind the text, also where it did not fit
pub record Wrote (o : List ℕ) (n : ℕ) (text : List ℕ) (o' : List ℕ) (m : ℕ) : Type 0 where
  pub bytes : o' ≡ sets o n text
  pub next : m ≡ n + length text

-- the same at the place of a cursor, in its buffer: c becomes c'
pub record Writes (c : Cursor) (text : List ℕ) (c' : Cursor) : Type 0 where
  pub wrote : Wrote c.out.now c.at text c'.out.now c'.at
  pub same_buffer : c'.out.ghost_name ≡ c.out.ghost_name

-- a text from place n on ends at a number of 32 bits, so no place wraps
pub record Room (n : ℕ) (text : List ℕ) : Type 0 where
  pub ends : n + length text < 4294967296
