-- The listing of a store.
use Rattle.std.specs.Prelude.{ℕ, zero, suc, ◌+◌, ◌*◌, ◌%◌, List, [], ◌∷◌, ◌++◌, eqb, leb, length}
use Rattle.layout.specs.declared.Layout.{Layout}
use Rattle.layout.specs.Words.{most_lists, most_nodes, ask, number_of}
use Rattle.lists.specs.Decide.{sequence_of, sound_of}
use Rattle.requests.specs.declared.Request.TheVariants.{Check}
use Rattle.requests.specs.Requests.{look_of, with_look}
use Rattle.edits.specs.Edited.{record_in}
use Rattle.encoding.specs.Bytes.{words_in}
use Rattle.writing.specs.Text.{codes, decimal, spaced}

-- "for each record its position, cell and words, decimal and parted by one space"
unfoldable pub record_line : ℕ → ℕ → List ℕ → List ℕ
record_line p c words = decimal p ++ (spaced (c ∷ words) ++ codes "\n")

-- the records in the cells of s, from position p on
unfoldable pub record_lines : Layout → List ℕ → ℕ → List ℕ → List ℕ
record_lines l w p [] = []
record_lines l w p (c ∷ s) = record_line p c (record_in l w c) ++ record_lines l w (suc p) s

-- "list k count c"
unfoldable pub list_line : ℕ → ℕ → List ℕ
list_line k n = codes "list " ++ (decimal k ++ (codes " count " ++ (decimal n ++ codes "\n")))

-- list k, whose sequence is s
unfoldable pub list_lines : Layout → List ℕ → ℕ → List ℕ → List ℕ
list_lines l w k s = list_line k (length s) ++ record_lines l w 0 s

-- "for each list": n lists from k on
unfoldable pub lists_from : Layout → List ℕ → (ℕ → List ℕ) → ℕ → ℕ → List ℕ
lists_from l w sequence k zero = []
lists_from l w sequence k (suc n) = list_lines l w k (sequence k) ++ lists_from l w sequence (suc k) n

-- "other refusals of check print `refused n`"
unfoldable pub refused_line : ℕ → List ℕ
refused_line n = codes "refused " ++ (decimal n ++ codes "\n")

-- "Else, for each list, .. last, `sound`"
unfoldable pub sound_lines : Layout → List ℕ → (ℕ → List ℕ) → List ℕ
sound_lines l w sequence = lists_from l w sequence 0 l.lists ++ codes "sound\n"

-- the listing of the words w: check's questions, and the lists of a sound store
unfoldable pub listing_of : List ℕ → List ℕ
listing_of w = with_look (look_of w Check) (λ n. refused_line (number_of n)) (λ l t. sound_lines l w (sequence_of l w))

-- "It reads a store in that byte form .. More than 64,080 bytes, or an odd number, gives `refused 4`"
abbrev pub most_bytes : ℕ
most_bytes = 64080

unfoldable pub byte_listing : List ℕ → List ℕ
byte_listing bytes =
    ask (leb (length bytes) most_bytes) (refused_line 4)
    (ask (eqb (length bytes % 2) 0) (refused_line 4)
    (listing_of (words_in bytes)))

-- the listing of the words of a store with layout l, as the code comes to it: question 6, and then the lists
unfoldable pub listed_of : Layout → List ℕ → List ℕ
listed_of l w = ask (sound_of l w) (refused_line 6) (sound_lines l w (sequence_of l w))

-- no listing is longer: 8 lines of at most 23 characters, 2,000 of at most 90, and one of 6
abbrev pub longest : ℕ
longest = most_lists * 23 + most_nodes * 90 + 6
