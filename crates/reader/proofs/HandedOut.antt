-- What a fresh reader hands out: the records of the list, in order, once each, then empty parts; over a refused store or list,
-- empty parts only.
use Prim.Native.Nat.{ℕ, zero, suc, ◌+◌, ◌≤◌, ◌<◌}
use mathlib.Core.Path.{◌≡◌, refl, ap, ◌∙◌, sym, subst}
use mathlib.Core.List.{List, [], ◌∷◌, ◌++◌, map}
use mathlib.Core.Bool.{Bool, true, false}
use native.Mathlib.Omega.{arith}
use native.Mathlib.Numerals.{add-one}
use native.Mathlib.Nat.{zero-add, suc-add}
use lib.Dec.{ltb}
use lib.ListN.{length, get_or, take, drop, replicate, drop_of_length-le}
use lib.Seq.{drop-cons}
use borrow.Author.Tests.{lt-ltb, le-ltb}
use Rattle.layout.specs.declared.Layout.{Layout}
use Rattle.std.specs.Prelude.{Result, Ok, Err}
use Rattle.layout.specs.declared.Refusal.{Refusal}
use Rattle.layout.specs.declared.Refusal.TheVariants.{NoList, Unsound, NoPosition}
use Rattle.layout.specs.Words.{most_nodes, layout_of, opened}
use Rattle.lists.specs.Lists.{Sound}
use Rattle.lists.specs.Decide.{sound_of, sequence_of}
use Rattle.lists.proofs.Unique.{nodes-few, list-sequence}
use Rattle.requests.specs.declared.Request.TheVariants.{Whole, Member}
use Rattle.requests.specs.Requests.{site_in, site_of, member_at}
use Rattle.requests.proofs.Laws.{look-shut, look-refused, look_at}
use Rattle.edits.specs.Edited.{record_in}
use Rattle.calls.specs.Calls.{read_words, length_answer}
use Rattle.calls.proofs.Cases.{length_at, read-refused}
use Rattle.calls.proofs.Calls.{sound-opened, sound-decided, sound-read}
use Rattle.reader.specs.Reader.{next_at, hand_outs}

-- the position behind p
pub next-below : (p : ℕ) → p < 65535 → next_at p ≡ suc p
unfolding next_at
next-below p h = rw (lt-ltb p 65535 h) (add-one p)

next-not-less : (p : ℕ) → p ≤ next_at p
unfolding next_at
next-not-less p = by (ltb p 65535) refl
  where
    by : (b : Bool) → ltb p 65535 ≡ b → p ≤ next_at p
    by true e = rw e (omega arith)
    by false e = rw e (omega arith)

-- where no record is, and none behind, all hand-outs are empty
all-empty : (w : List ℕ) (k m : ℕ) → ((p : ℕ) → m ≤ p → read_words w k p ≡ []) → (n p : ℕ) → m ≤ p → hand_outs n w k p ≡ replicate n []
unfolding hand_outs
all-empty w k m none zero p h = refl
all-empty w k m none (suc n) p h =
    ap (λ (x : List ℕ). x ∷ hand_outs n w k (next_at p)) (none p h)
    ∙ ap (λ (x : List (List ℕ)). [] ∷ x) (all-empty w k m none n (next_at p) (omega (arith, next-not-less p)))

-- more hand-outs begin with fewer
pub handed-first : (w : List ℕ) (k n m p : ℕ) → n ≤ m → take n (hand_outs m w k p) ≡ hand_outs n w k p
unfolding hand_outs
handed-first w k zero m p h = refl
handed-first w k (suc n) zero p h = absurd (omega arith)
handed-first w k (suc n) (suc m) p h = ap (λ (x : List (List ℕ)). read_words w k p ∷ x) (handed-first w k n m (next_at p) (omega arith))

module _ (w : List ℕ) (s : Sound w) (k : ℕ) (h : k < (layout_of w).lists) where
  abbrev members : List ℕ
  members = s.ordered.lists.sequence k

  abbrev record_of : ℕ → List ℕ
  record_of = record_in (layout_of w) w

  few : length members ≤ most_nodes
  few =
      let i = s.ordered.lists.lists k h in
      omega (arith, nodes-few (layout_of w) members i.nodes i.different, s.ordered.in_range.nodes)

  -- behind the last record a read is refused
  beyond : (p : ℕ) → length members ≤ p → read_words w k p ≡ []
  unfolding site_in member_at
  beyond p g =
      let q : length (sequence_of (layout_of w) w k) ≤ p =
      subst (λ (x : List ℕ). length x ≤ p) (sym (list-sequence (layout_of w) w k h members (s.ordered.lists.lists k h))) g in
      let e : site_of (layout_of w) w (Member k p) ≡ Err NoPosition =
      rw (lt-ltb k (layout_of w).lists h, sound-decided w s, le-ltb p (length (sequence_of (layout_of w) w k)) q) in
      sym (read-refused w k p (sym (look-refused w (Member k p) (sound-opened w s) e))).0

  -- from position p on, with j records left
  handed-from : (j p : ℕ) → p + j ≡ length members → (n : ℕ) → hand_outs (j + n) w k p ≡ map record_of (drop p members) ++ replicate n []
  unfolding hand_outs
  handed-from zero p e n =
      ap (λ (x : ℕ). hand_outs x w k p) (zero-add n)
      ∙ all-empty w k (length members) beyond n p (omega arith)
      ∙ sym (ap (λ (t : List ℕ). map record_of t ++ replicate n []) (drop_of_length-le members {i = p} (omega arith)))
  handed-from (suc j) p e n =
      let g : p < length members = omega arith in
      ap (λ (x : ℕ). hand_outs x w k p) (suc-add j n)
      ∙ ap (λ (x : List ℕ). x ∷ hand_outs (j + n) w k (next_at p)) (sound-read w s k h p g)
      ∙ ap (λ (x : ℕ). record_of (get_or members p 0) ∷ hand_outs (j + n) w k x) (next-below p (omega (arith, few)))
      ∙ ap (λ (x : List (List ℕ)). record_of (get_or members p 0) ∷ x) (handed-from j (suc p) (omega arith) n)
      ∙ sym (ap (λ (t : List ℕ). map record_of t ++ replicate n []) (drop-cons members p 0 g))

  -- "It hands out each record once, in list order, then empty parts."
  pub handed_out : (n : ℕ) → hand_outs (length members + n) w k 0 ≡ map record_of members ++ replicate n []
  handed_out n = handed-from (length members) 0 (zero-add (length members)) n

-- "Made over a refused store or list it hands out empty parts only": a store or list that length refuses, by questions 1 to 6
module _ (w : List ℕ) (k : ℕ) (c : Refusal) (refused : length_answer w k ≡ Err c) where
  abbrev told : Result ℕ Refusal → ℕ
  told (Ok n) = 0
  told (Err n) = 1

  refused-read : (p : ℕ) → read_words w k p ≡ []
  unfolding site_in
  refused-read p = by (opened w) refl
    where
      no-site : (l : Layout) (n : Refusal) → opened w ≡ Ok l → site_of l w (Member k p) ≡ Err n → read_words w k p ≡ []
      no-site l n e q = sym (read-refused w k p (sym (look-refused w (Member k p) e q))).0

      within : (l : Layout) (b d : Bool) → opened w ≡ Ok l → ltb k l.lists ≡ b → sound_of l w ≡ d → read_words w k p ≡ []
      within l false d e x y = no-site l NoList e (rw x)
      within l true false e x y = no-site l Unsound e (rw (x, y))
      within l true true e x y =
          let q : site_of l w (Whole k) ≡ Ok (record { before = k; cell = k; after = k; count = length (sequence_of l w k) }) = rw (x, y) in
          let z : ◌≡◌ {A = ℕ} 0 1 = ap told (length_at w k (sym (look_at w (Whole k) e q)) ∙ refused) in
          absurd (omega arith)

      by : (o : Result Layout Refusal) → opened w ≡ o → read_words w k p ≡ []
      by (Err n) e = sym (read-refused w k p (sym (look-shut w (Member k p) e))).0
      by (Ok l) e = within l (ltb k l.lists) (sound_of l w) e refl refl

  pub refused-out : (n p : ℕ) → hand_outs n w k p ≡ replicate n []
  refused-out n p = all-empty w k 0 (λ q _. refused-read q) n p (omega arith)
