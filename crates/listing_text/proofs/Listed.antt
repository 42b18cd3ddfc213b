-- Laws of a whole listing: its cases, and that it is never too long.
use Prim.Native.Nat.{ℕ, zero, suc, ◌+◌, ◌*◌, ◌%◌, ◌≤◌, ◌<◌}
use mathlib.Core.Path.{◌≡◌, refl}
use mathlib.Core.List.{List, [], ◌∷◌, ◌++◌}
use mathlib.Core.Bool.{Bool, true, false}
use native.Mathlib.Omega.{arith}
use native.Mathlib.Numerals.{add-one}
use lib.ListN.{length, get_or, drop, length-append, length-take}
use lib.Seq.{get_or-take, get_or-drop}
use borrow.Author.Tests.{le-leb, lt-leb, eq-eqb, ne_eqb}
use Rattle.sequences.proofs.Members.{all-nth}
use Rattle.sequences.proofs.Trail.{trail-length, trail-inside}
use Rattle.layout.specs.declared.Layout.{Layout}
use Rattle.std.specs.Prelude.{Result, Ok, Err}
use Rattle.layout.specs.declared.Refusal.{Refusal}
use Rattle.layout.specs.declared.Refusal.TheVariants as R
use Rattle.layout.specs.Words.{number_of, most_width, InRange, first_node, is_node, record_at, opened, in_use}
use Rattle.layout.proofs.Laws.{is-node}
use Rattle.lists.specs.Decide.{view_of, count_in, members, sequence_of, sound_of}
use Rattle.lists.proofs.Nodes.{cells-few}
use Rattle.lists.proofs.Stepwise.{members-more, sound-number}
use Rattle.requests.specs.Requests.{site_in, look_of}
use Rattle.requests.proofs.Laws.{opened-laid}
use Rattle.edits.specs.Edited.{record_in}
use Rattle.encoding.specs.Bytes.{words_in}
use Rattle.writing.specs.Text.{codes, decimal, overwritten, Wrote, Room, spaced}
use Rattle.listing_text.specs.Listing.{record_line, record_lines, list_line, list_lines, lists_from, refused_line, sound_lines, listed_of, listing_of, most_bytes, byte_listing, longest}
use Rattle.writing.proofs.Writing.{decimal-short, wrote-over}

-- the cases of a listing
module _ (l : Layout) (w : List ℕ) where
  pub listed-sound : sound_of l w ≡ true → listed_of l w ≡ lists_from l w (sequence_of l w) 0 l.lists ++ codes "sound\n"
  unfolding listed_of sound_lines
  listed-sound e = rw e

  pub listed-unsound : sound_of l w ≡ false → listed_of l w ≡ refused_line 6
  unfolding listed_of
  listed-unsound e = rw e

module _ (w : List ℕ) where
  pub listing-shut : {n : Refusal} → opened w ≡ Err n → listing_of w ≡ refused_line (number_of n)
  unfolding listing_of look_of
  listing-shut e = rw e

  pub listing-open : {l : Layout} → opened w ≡ Ok l → listing_of w ≡ listed_of l w
  unfolding listing_of look_of site_in listed_of
  listing-open {l} e = by (sound_of l w) refl
    where
      by : (b : Bool) → sound_of l w ≡ b → listing_of w ≡ listed_of l w
      by true s = rw (e, s)
      by false s = rw (e, s)

-- numbers of 16 bits, by their places in a row
abbrev pub Small : List ℕ → Type 0
Small row = (i : ℕ) → i < length row → get_or row i 0 < 65536

spaced-short : (row : List ℕ) → Small row → length (spaced row) ≤ 6 * length row
unfolding spaced
spaced-short [] h = omega arith
spaced-short (x ∷ row) h =
    omega (
      arith,
      length-append (decimal x) (spaced row),
      decimal-short x (h 0 (omega arith)),
      spaced-short row (λ i q. h (suc i) (omega arith)),
    )

-- a line of a record, of a list, and of a refusal
record-short : (p c : ℕ) (rec : List ℕ) → p < 65536 → c < 65536 → Small rec → length rec ≤ most_width → length (record_line p c rec) ≤ 90
unfolding record_line spaced
record-short p c rec hp hc hr hn =
    omega (
      arith,
      length-append (decimal p) (spaced (c ∷ rec) ++ codes "\n"),
      length-append (spaced (c ∷ rec)) (codes "\n"),
      length-append (decimal c) (spaced rec),
      decimal-short p hp,
      decimal-short c hc,
      spaced-short rec hr,
    )

line-short : (k n : ℕ) → k < 65536 → n < 65536 → length (list_line k n) ≤ 23
unfolding list_line
line-short k n hk hn =
    omega (
      arith,
      length-append (decimal k) (codes " count " ++ (decimal n ++ codes "\n")),
      length-append (decimal n) (codes "\n"),
      decimal-short k hk,
      decimal-short n hn,
    )

pub refused-short : (n : ℕ) → n < 65536 → length (refused_line n) ≤ longest
unfolding refused_line
refused-short n h = omega (arith, length-append (decimal n) (codes "\n"), decimal-short n h)

-- there is room for a listing, and a listing u, written as t from the front on, is the answer and the bytes
pub short-room : {t : List ℕ} → length t ≤ longest → Room 0 t
short-room h = record { ends = omega arith }

pub wrote-all : {o o' : List ℕ} {m : ℕ} {t u : List ℕ} → u ≡ t → length t ≤ longest → Wrote o 0 t o' m
    → (m ≡ length u) × ((o' ≡ overwritten u o) × (m ≤ longest))
wrote-all e h w = let r = wrote-over w in rw e (r.0, (r.1, omega (arith, r.0)))

-- the listing of words of 16 bits
module _ (l : Layout) (w : List ℕ) (r : InRange l) (small : (i : ℕ) → get_or w i 0 < 65536) where
  words_small : (c : ℕ) → Small (record_in l w c)
  words_small c i h =
      let n = length-take l.width (drop (record_at l c) w) in
      rw (get_or-take l.width (drop (record_at l c) w) i 0 (omega arith), get_or-drop (record_at l c) w i 0) (small (record_at l c + i))

  records-short : (p : ℕ) (s : List ℕ) → Small s → p + length s ≤ 65536 → length (record_lines l w p s) ≤ 90 * length s
  unfolding record_lines
  records-short p [] h q = omega arith
  records-short p (c ∷ s) h q =
      omega (
        arith,
        length-append (record_line p c (record_in l w c)) (record_lines l w (suc p) s),
        record-short p c (record_in l w c) (omega arith) (h 0 (omega arith)) (words_small c)
            (omega (arith, length-take l.width (drop (record_at l c) w), r.tail)),
        records-short (suc p) s (λ i g. h (suc i) (omega arith)) (omega arith),
      )

  -- the members of a list are nodes
  members-small : (k : ℕ) → Small (sequence_of l w k)
  members-small k i h =
      let v = view_of l w in
      omega (
        arith,
        (is-node l (get_or (sequence_of l w k) i 0)
            (all-nth (λ c. is_node l c ≡ true) (sequence_of l w k) i 0 (trail-inside v.forward (is_node l) l.nodes (v.forward k)) h)).high,
        r.lists,
        r.nodes,
      )

  list-short : (k : ℕ) → k < l.lists → length (list_lines l w k (sequence_of l w k)) ≤ 23 + 90 * length (sequence_of l w k)
  unfolding list_lines
  list-short k h =
      let s = sequence_of l w k in
      let v = view_of l w in
      let few : length s ≤ l.nodes = trail-length v.forward (is_node l) l.nodes (v.forward k) in
      omega (
        arith,
        length-append (list_line k (length s)) (record_lines l w 0 s),
        line-short k (length s) (omega (arith, r.lists)) (omega (arith, r.nodes)),
        records-short 0 s (members-small k) (omega (arith, r.nodes)),
      )

  lists-short : (n k : ℕ) → k + n ≤ l.lists
      → length (lists_from l w (sequence_of l w) k n) + 90 * length (members l (view_of l w) k) ≤ 23 * n + 90 * length (members l (view_of l w) (k + n))
  unfolding lists_from
  lists-short zero k h = let e : k + 0 ≡ k = omega arith in rw e (omega arith)
  lists-short (suc n) k h =
      let e : k + suc n ≡ suc k + n = omega arith in
      let m = rw add-one at (members-more l (view_of l w) k) in
      rw e
      (omega (
        arith,
        length-append (list_lines l w k (sequence_of l w k)) (lists_from l w (sequence_of l w) (suc k) n),
        list-short k (omega arith),
        m,
        lists-short n (suc k) (omega arith),
      ))

  -- as many members as nodes in use
  members-few : sound_of l w ≡ true → length (members l (view_of l w) l.lists) ≤ l.nodes
  members-few e =
      let v = view_of l w in
      omega (arith, (sound-number l v (count_in l w) e).1, cells-few in_use v (first_node l) l.nodes)

  pub listed-short : length (listed_of l w) ≤ longest
  listed-short = by (sound_of l w) refl
    where
      by : (b : Bool) → sound_of l w ≡ b → length (listed_of l w) ≤ longest
      by false e = rw (listed-unsound l w e) (refused-short 6 (omega arith))
      by true e =
          let z : 0 + l.lists ≡ l.lists = omega arith in
          rw (listed-sound l w e)
          (omega (
            arith,
            length-append (lists_from l w (sequence_of l w) 0 l.lists) (codes "sound\n"),
            rw z at (lists-short l.lists 0 (omega arith)),
            members-few e,
            r.lists,
            r.nodes,
          ))

-- a refusal's number is small
number-few : (n : Refusal) → number_of n < 65536
number-few R.Short = omega arith
number-few R.NoStore = omega arith
number-few R.Range = omega arith
number-few R.Size = omega arith
number-few R.NoList = omega arith
number-few R.Unsound = omega arith
number-few R.NoPosition = omega arith
number-few R.NoNode = omega arith
number-few R.RecordSize = omega arith
number-few R.Full = omega arith
number-few R.NoFit = omega arith
number-few R.TwoFit = omega arith
number-few R.NotFree = omega arith

-- the listing of any words of 16 bits
pub listing-short : (w : List ℕ) → ((i : ℕ) → get_or w i 0 < 65536) → length (listing_of w) ≤ longest
listing-short w small = by (opened w) refl
  where
    by : (o : Result Layout Refusal) → opened w ≡ o → length (listing_of w) ≤ longest
    by (Err n) e = rw (listing-shut w e) (refused-short (number_of n) (number-few n))
    by (Ok l) e = rw (listing-open w e) (listed-short l w (opened-laid w l e).in_range small)

-- the cases of a listing of bytes
module _ (bytes : List ℕ) where
  pub bytes-long : most_bytes < length bytes → byte_listing bytes ≡ refused_line 4
  unfolding byte_listing
  bytes-long h = rw (lt-leb (length bytes) most_bytes h)

  pub bytes-odd : length bytes ≤ most_bytes → (length bytes % 2 ≡ 0 → ⊥) → byte_listing bytes ≡ refused_line 4
  unfolding byte_listing
  bytes-odd h e = rw (le-leb (length bytes) most_bytes h, ne_eqb (length bytes % 2) 0 e)

  pub bytes-even : length bytes ≤ most_bytes → length bytes % 2 ≡ 0 → byte_listing bytes ≡ listing_of (words_in bytes)
  unfolding byte_listing
  bytes-even h e = rw (le-leb (length bytes) most_bytes h, eq-eqb (length bytes % 2) 0 e)
