-- Soundness decided step by step: by one list more of those that hold.
use Prim.Native.Nat.{ℕ, zero, suc, ◌+◌, ◌<◌}
use mathlib.Core.Path.{◌≡◌, refl, sym}
use mathlib.Core.Bool.{true, and-true, and-eq-true_iff}
use native.Mathlib.Omega.{arith}
use native.Mathlib.Numerals.{add-one}
use lib.Dec.{eqb}
use lib.ListN.{length, length-append}
use borrow.Author.Tests.{eqb-true}
use Rattle.layout.specs.declared.Layout.{Layout}
use Rattle.layout.specs.Words.{first_node}
use Rattle.lists.specs.Decide.{View, sequence_in, holds, all_hold, members, used, unwiped, ordered_in, sound_in}
use Rattle.lists.proofs.Agree.{holds-true}
use Rattle.lists.proofs.Decided.{all-hold-at}

-- counts that agree in the lists give one answer
all-hold-same : (l : Layout) (v : View) (c d : ℕ → ℕ) (n : ℕ) → ((k : ℕ) → k < n → c k ≡ d k)
    → all_hold l v c n ≡ all_hold l v d n
unfolding all_hold
all-hold-same l v c d zero h = refl
all-hold-same l v c d (suc n) h = rw (h n (omega arith), all-hold-same l v c d n (λ k q. h k (omega arith)))

pub sound-same : (l : Layout) (v : View) (c d : ℕ → ℕ) → ((k : ℕ) → k < l.lists → c k ≡ d k) → sound_in l v c ≡ sound_in l v d
unfolding ordered_in sound_in
sound-same l v c d h = rw (all-hold-same l v c d l.lists h)

-- the number of members with one list more
pub members-more : (l : Layout) (v : View) (k : ℕ)
    → length (members l v (k + 1)) ≡ length (members l v k) + length (sequence_in l v k)
unfolding members
members-more l v k = rw add-one (length-append (members l v k) (sequence_in l v k))

module _ (l : Layout) (v : View) (count : ℕ → ℕ) where
  -- no list, and one list more
  pub all-hold-none : all_hold l v count 0 ≡ true
  unfolding all_hold
  all-hold-none = refl

  pub all-hold-more : (k : ℕ) → all_hold l v count k ≡ true → holds v k (count k) (sequence_in l v k) ≡ true
      → all_hold l v count (k + 1) ≡ true
  unfolding all_hold
  all-hold-more k e h = rw (add-one, e, h)

  -- all lists hold: the numbers of members and of used nodes decide, where no free node has a record
  pub sound-by : (k m n : ℕ) → k ≡ l.lists → all_hold l v count k ≡ true → m ≡ length (members l v k)
      → n ≡ length (used v (first_node l) l.nodes) → length (unwiped v (first_node l) l.nodes) ≡ 0 → eqb m n ≡ sound_in l v count
  unfolding ordered_in sound_in
  sound-by k m n q e x y z =
      let all : all_hold l v count l.lists ≡ true = rw q at e in
      rw (x, y, q, all, z) (sym (and-true (eqb (length (members l v l.lists)) (length (used v (first_node l) l.nodes)))))

  -- sound: each list holds, as many nodes are in use as the lists have members, and no free node has a record
  pub sound-hold : sound_in l v count ≡ true → (k : ℕ) → k < l.lists → holds v k (count k) (sequence_in l v k) ≡ true
  unfolding ordered_in sound_in
  sound-hold e k h = all-hold-at l v count l.lists k ((and-eq-true_iff _ _).0 ((and-eq-true_iff _ _).0 e).0).0 h

  pub sound-number : sound_in l v count ≡ true
      → (all_hold l v count l.lists ≡ true) × (length (members l v l.lists) ≡ length (used v (first_node l) l.nodes))
  unfolding ordered_in sound_in
  sound-number e =
      let a = (and-eq-true_iff _ _).0 ((and-eq-true_iff _ _).0 e).0 in
      (a.0, eqb-true _ _ a.1)

  pub sound-blank : sound_in l v count ≡ true → length (unwiped v (first_node l) l.nodes) ≡ 0
  unfolding ordered_in sound_in
  sound-blank e = eqb-true _ 0 ((and-eq-true_iff (ordered_in l v count) (eqb (length (unwiped v (first_node l) l.nodes)) 0)).0 e).1

  -- where the lists are sound, a count is the number of members
  pub sound-count : sound_in l v count ≡ true → (k : ℕ) → k < l.lists → count k ≡ length (sequence_in l v k)
  sound-count e k h = (holds-true v k (count k) (sequence_in l v k) (sound-hold e k h)).count
