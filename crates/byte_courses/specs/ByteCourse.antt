-- The words in which demand 3 (ByteDemand3.antt) speaks of a course of calls from C: the store and the record are bytes.
use Rattle.std.specs.Prelude.{ℕ, ◌%◌, ◌≡◌, List, [], ◌∷◌, length}
use Rattle.calls.specs.Answers.{answer_of}
use Rattle.stores.specs.Stores.{Plan}
use Rattle.encoding.specs.Bytes.{words_in, bytes_after}
use Rattle.layout.specs.Words.{layout_of}
use Rattle.courses.specs.Course.{Edit, insert, several, delete, named, Alteration, altered_below}
use Rattle.byte_calls.specs.Plans.{record_words, byte_insert, byte_several, byte_delete, byte_recover}
use Rattle.byte_calls.specs.Interface.{code_of}

-- an insert or delete whose record, or records, are in bytes, and what it is in words
abbrev pub byte_edit : List ℕ → Edit → Plan
byte_edit b (insert k p c rec) = byte_insert b k p c rec
byte_edit b (several k p c rec) = byte_several b k p c rec
byte_edit b (delete k p) = byte_delete b k p

abbrev pub in_words : Edit → Edit
in_words (insert k p c rec) = insert k p c (record_words rec)
in_words (several k p c rec) = several k p c (record_words rec)
in_words (delete k p) = delete k p

-- the found store: the bytes that the call left, "in each list but the one it names, at most one word .. altered, to any value",
-- or its count and one identifier
pub record Found (b : List ℕ) (e : Edit) (m : ℕ) (alts : ℕ → Alteration) (y : List ℕ) : Type 0 where
  pub even : length y % 2 ≡ 0
  pub words
      : words_in y
      ≡ altered_below (layout_of (words_in b)) (named (in_words e)) alts (layout_of (words_in b)).lists (words_in (bytes_after (byte_edit b e) m b))

-- recoveries one after another: the bytes that they leave, and the numbers that they answer
unfoldable pub bytes_through : List ℕ → List ℕ → List ℕ
bytes_through [] y = y
bytes_through (m ∷ ms) y = bytes_through ms (bytes_after (byte_recover y) m y)

unfoldable pub codes_through : List ℕ → List ℕ → List ℕ
codes_through [] y = []
codes_through (m ∷ ms) y = code_of (answer_of (byte_recover y) m) ∷ codes_through ms (bytes_after (byte_recover y) m y)
