-- A store in byte form: "a word is two bytes, low byte first".
use Rattle.std.specs.Prelude.{ℕ, ◌+◌, ◌*◌, ◌/◌, ◌%◌, List, [], ◌∷◌, Bool, eqb, length, take}
use Rattle.layout.specs.Words.{ask}
use Rattle.stores.specs.declared.Write.{Write}
use Rattle.stores.specs.Stores.{write, run, Plan, left_by}

-- the bytes of a word
abbrev pub word_size : ℕ
word_size = 2

-- the words of the bytes; an odd byte at the end is of none
unfoldable pub words_in : List ℕ → List ℕ
words_in [] = []
words_in (low ∷ []) = []
words_in (low ∷ high ∷ bytes) = (low + 256 * high) ∷ words_in bytes

-- are the bytes whole words?
abbrev pub whole : List ℕ → Bool
whole bytes = eqb (length bytes % word_size) 0

-- "A store of odd byte length is answered 4 before all else": else what the call says of the words
abbrev pub evenly {ℓ} : {A : Type ℓ} → List ℕ → A → (List ℕ → A) → A
evenly bytes refusal call = ask (whole bytes) refusal (call (words_in bytes))

-- "The stores are made in the lent bytes, in the same order, low byte before high"
unfoldable pub byte_writes : List Write → List Write
byte_writes [] = []
byte_writes (p ∷ ps) = write (2 * p.at) (p.value % 256) ∷ write (2 * p.at + 1) (p.value / 256) ∷ byte_writes ps

abbrev pub after : List Write → List ℕ → List ℕ
after ps b = run (byte_writes ps) b

-- the bytes after the first m word stores
abbrev pub applied_bytes : List Write → ℕ → List ℕ → List ℕ
applied_bytes ps m b = run (byte_writes (take m ps)) b

-- "A refusal is its number, no store made."
abbrev pub bytes_after : Plan → ℕ → List ℕ → List ℕ
bytes_after p m b = left_by after p m b
