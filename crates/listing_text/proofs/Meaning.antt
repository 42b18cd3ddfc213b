-- What a listing says: it follows check, a sound store's lists are the sequences that the document speaks of, and no sound store is too
-- long for it.
use Prim.Native.Nat.{ℕ, zero, suc, ◌+◌, ◌%◌, ◌≤◌, ◌<◌}
use mathlib.Core.Path.{◌≡◌, refl, ap, ap₂, ◌∙◌, sym}
use mathlib.Core.List.{List, [], ◌∷◌, ◌++◌}
use native.Mathlib.Omega.{arith}
use lib.ListN.{length, get_or}
use Rattle.encoding.specs.Bytes.{words_in}
use Rattle.encoding.proofs.Laws.{length-words}
use Rattle.std.specs.Prelude.{Result, Ok, Err}
use Rattle.layout.specs.declared.Layout.{Layout}
use Rattle.layout.specs.declared.Refusal.{Refusal}
use Rattle.layout.specs.Words.{number_of, layout_of, check_words, node_at, cell_at, size_of, marked, is_node, in_range, opened_by}
use Rattle.layout.proofs.Laws.{size-most}
use Rattle.sequences.specs.Sequence.{trail, range, filter}
use Rattle.lists.specs.Lists.{Sound}
use Rattle.lists.specs.Decide.{sequence_of, blank_from, turn, holds, all_hold, members, ordered_in, sound_in}
use Rattle.lists.proofs.Unique.{list-sequence}
use Rattle.requests.specs.declared.Request.TheVariants.{Check}
use Rattle.requests.specs.declared.Look.{Look}
use Rattle.requests.specs.Requests.{site_in, look_of, with_look}
use Rattle.calls.specs.Calls.{check_answer}
use Rattle.calls.proofs.Calls.{sound-opened, sound-decided}
use Rattle.writing.specs.Text.{codes, digits, decimal, spaced}
use Rattle.listing_text.specs.Listing.{record_line, record_lines, list_line, list_lines, lists_from, refused_line, sound_lines, listing_of, most_bytes, byte_listing}
use Rattle.listing_text.proofs.Listed.{listed-sound, listing-open, bytes-even}

-- a refusal of check
pub listing-refused : (w : List ℕ) (n : Refusal) → check_answer w ≡ Err n → listing_of w ≡ refused_line (number_of n)
unfolding check_answer listing_of
listing-refused w n = by (look_of w Check)
  where
    by : (x : Result Look Refusal) → ◌≡◌ {A = Result (Unit {0}) Refusal} (with_look x Err (λ l t. Ok tt)) (Err n)
        → with_look x (λ m. refused_line (number_of m)) (λ l t. sound_lines l w (sequence_of l w)) ≡ refused_line (number_of n)
    by (Err m) e = let q : m ≡ n = cc in ap (λ m. refused_line (number_of m)) q
    by (Ok o) e = let z : ◌≡◌ {A = ℕ} 0 1 = cc in absurd (omega arith)

-- lists that have the same sequences are listed the same
lists-same : (l : Layout) (w : List ℕ) (s t : ℕ → List ℕ) (k n : ℕ) → k + n ≤ l.lists → ((j : ℕ) → j < l.lists → s j ≡ t j)
    → lists_from l w s k n ≡ lists_from l w t k n
unfolding lists_from
lists-same l w s t k zero h e = refl
lists-same l w s t k (suc n) h e =
    ap₂ (λ (x y : List ℕ). list_lines l w k x ++ y) (e k (omega arith)) (lists-same l w s t (suc k) n (omega arith) e)

-- a sound store
pub listing-sound : (w : List ℕ) (s : Sound w) → listing_of w ≡ sound_lines (layout_of w) w s.ordered.lists.sequence
unfolding sound_lines
listing-sound w s =
    let l = layout_of w in
    listing-open w (sound-opened w s) ∙ listed-sound l w (sound-decided w s)
    ∙ ap (λ (x : List ℕ). x ++ codes "sound\n")
    (lists-same l w (sequence_of l w) s.ordered.lists.sequence 0 l.lists (omega arith)
    (λ k h. list-sequence l w k h (s.ordered.lists.sequence k) (s.ordered.lists.lists k h)))

-- in byte form a sound store is not longer than the limit of the listing,
pub sound-bytes : (b : List ℕ) → length b % 2 ≡ 0 → Sound (words_in b) → length b ≤ most_bytes
sound-bytes b e s =
    omega (arith, length-words b, s.ordered.exact, size-most (layout_of (words_in b)) s.ordered.in_range)

-- so its listing is that of its words
pub byte-listing-sound : (b : List ℕ) → length b % 2 ≡ 0 → (s : Sound (words_in b))
    → byte_listing b ≡ sound_lines (layout_of (words_in b)) (words_in b) s.ordered.lists.sequence
byte-listing-sound b e s = bytes-even b (sound-bytes b e s) e ∙ listing-sound (words_in b) s

-- and no refusal: the first letter of such a listing is the l of `list`
sound-first : (l : Layout) (w : List ℕ) (s : ℕ → List ℕ) → 1 ≤ l.lists → get_or (sound_lines l w s) 0 0 ≡ 108
unfolding sound_lines lists_from list_lines list_line
sound-first l w s h = by l.lists h
  where
    by : (n : ℕ) → 1 ≤ n → get_or (lists_from l w s 0 n ++ codes "sound\n") 0 0 ≡ 108
    by zero h = absurd (omega arith)
    by (suc n) h = refl

pub byte-listing-granted : (b : List ℕ) → length b % 2 ≡ 0 → Sound (words_in b) → (n : ℕ) → byte_listing b ≡ refused_line n → ⊥
unfolding refused_line
byte-listing-granted b e s n r =
    let z : ◌≡◌ {A = ℕ} 108 114 =
    sym (sound-first (layout_of (words_in b)) (words_in b) s.ordered.lists.sequence s.ordered.in_range.some_lists)
    ∙ ap (λ (x : List ℕ). get_or x 0 0) (sym (byte-listing-sound b e s) ∙ r) in
    omega arith

-- "The listing of C3 is, whole: .."
pub listing-C3
    : listing_of (82 ∷ 66 ∷ 83 ∷ 1 ∷ 1 ∷ 3 ∷ 1 ∷ 0 ∷ 42400 ∷ 2 ∷ 3 ∷ 2 ∷ 0 ∷ 0 ∷ 0 ∷ 0 ∷ 42400 ∷ 3 ∷ 0 ∷ 700 ∷ 42400 ∷ 0 ∷ 2 ∷ 512 ∷ [])
    ≡ codes "list 0 count 2\n0 2 700\n1 3 512\nsound\n"
unfolding range filter trail is_node check_words node_at cell_at size_of marked in_range opened_by blank_from turn holds all_hold members ordered_in sound_in site_in look_of digits decimal spaced record_line record_lines list_line list_lines lists_from refused_line sound_lines listing_of
listing-C3 = refl
