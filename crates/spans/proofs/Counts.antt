-- Nodes counted one by one, by their identifiers and records, and the sum of the counts in place of the number of members.
use Prim.Native.Nat.{ℕ, zero, suc, ◌+◌, ◌≤◌, ◌<◌}
use mathlib.Core.Path.{◌≡◌, refl, ap, ap₂, ◌∙◌, sym}
use mathlib.Core.List.{List, [], ◌∷◌}
use mathlib.Core.Bool.{Bool, true, false, cond, not, ◌&&◌, ◌||◌, and-eq-true_iff, true≢false}
use native.Mathlib.Omega.{arith}
use native.Mathlib.Numerals.{add-one}
use lib.ListN.{length, length-append}
use borrow.Author.Tests.{eq-eqb}
use Rattle.sequences.specs.Sequence.{range, filter}
use Rattle.sequences.proofs.Range.{length-range, range-append}
use Rattle.sequences.proofs.Filter.{filter-append, filter-length}
use Rattle.layout.specs.declared.Layout.{Layout}
use Rattle.layout.specs.Words.{most_nodes, first_node, is_free, is_worn, in_use}
use Rattle.lists.specs.Decide.{View, sequence_in, holds, all_hold, members, used, unwiped, sound_in}
use Rattle.lists.proofs.Agree.{holds-true}
use Rattle.lists.proofs.Stepwise.{all-hold-more, sound-by, sound-hold, sound-number, sound-blank}
use Rattle.spans.specs.declared.Tally.{Tally}
use Rattle.spans.specs.Spans.{tally_of, no_tally, with_free, with_other, tallied, FewIn, Held, count_sum, Decides}

-- how many of the n cells from a on pass a test
abbrev passing : (ℕ → Bool) → ℕ → ℕ → ℕ
passing test a n = length (filter test (range a n))

passing-few : (test : ℕ → Bool) (a n : ℕ) → passing test a n ≤ n
passing-few test a n = omega (arith, filter-length test (range a n), length-range a n)

-- of one cell, of m and n cells, and of one more
passing-one : (test : ℕ → Bool) (a : ℕ) → passing test a 1 ≡ cond (test a) 1 0
unfolding range filter
passing-one test a = by (test a)
  where
    by : (b : Bool) → length (cond b (a ∷ []) []) ≡ cond b 1 0
    by true = refl
    by false = refl

passing-append : (test : ℕ → Bool) (a m n : ℕ) → passing test a (m + n) ≡ passing test a m + passing test (a + m) n
passing-append test a m n =
    ap (λ (s : List ℕ). length (filter test s)) (range-append a m n)
    ∙ ap length (filter-append test (range a m) (range (a + m) n))
    ∙ length-append (filter test (range a m)) (filter test (range (a + m) n))

passing-more : (test : ℕ → Bool) (a n : ℕ) → passing test a (n + 1) ≡ passing test a n + cond (test (a + n)) 1 0
passing-more test a n = passing-append test a n 1 ∙ ap (λ (m : ℕ). passing test a n + m) (passing-one test (a + n))

pub one-small : (b : Bool) → cond b 1 0 ≤ 1
one-small true = omega arith
one-small false = omega arith

-- the tests of a cell: is it in use, is it free with a record that is not blank?
abbrev used_in : View → ℕ → Bool
used_in v c = in_use (v.ident c)

abbrev unwiped_in : View → ℕ → Bool
unwiped_in v c = is_free (v.ident c) && not (v.blank c)

-- one cell more, which has the identifier x and whose record b says to be blank, in both numbers of a tally
abbrev numbers : ℕ → ℕ → Tally
numbers m n = record { used = m; unwiped = n }

more-tallied : (t : Tally) (x : ℕ) (b : Bool)
    → numbers (t.used + cond (in_use x) 1 0) (t.unwiped + cond (is_free x && not b) 1 0) ≡ tallied t x b
more-tallied t x b = by (is_free x) refl
  where
    none : (n : ℕ) (d : Bool) → d ≡ false → n + cond d 1 0 ≡ n
    none n true e = absurd (true≢false e)
    none n false e = omega arith

    by : (d : Bool) → is_free x ≡ d
        → numbers (t.used + cond (in_use x) 1 0) (t.unwiped + cond (d && not b) 1 0) ≡ elim d [ true ↦ with_free t b | false ↦ with_other t x ]
    by true e = ap (λ (m : ℕ). numbers m (t.unwiped + cond (not b) 1 0)) (none t.used (in_use x) (ap (λ (y : Bool). not (y || is_worn x)) e))
    by false e = ap (numbers (t.used + cond (in_use x) 1 0)) (none t.unwiped false refl)

-- what is tallied of a node, where d says whether it is free
pub tallied-as : (t : Tally) (x : ℕ) (b d : Bool) → is_free x ≡ d → elim d [ true ↦ with_free t b | false ↦ with_other t x ] ≡ tallied t x b
tallied-as t x b d e = sym (ap (λ (c : Bool). elim c [ true ↦ with_free t b | false ↦ with_other t x ]) e)

module _ (v : View) (a : ℕ) where
  -- no cell, one more, and no more than there are cells
  pub tally-none : no_tally ≡ tally_of v a 0
  unfolding range filter
  tally-none = refl

  pub tally-more : (n : ℕ) → tallied (tally_of v a n) (v.ident (a + n)) (v.blank (a + n)) ≡ tally_of v a (n + 1)
  tally-more n =
      sym (more-tallied (tally_of v a n) (v.ident (a + n)) (v.blank (a + n)))
      ∙ sym (ap₂ numbers (passing-more (used_in v) a n) (passing-more (unwiped_in v) a n))

  pub tally-few : (n : ℕ) → n ≤ most_nodes → FewIn (tally_of v a n)
  tally-few n h = record { used = omega (arith, passing-few (used_in v) a n); unwiped = omega (arith, passing-few (unwiped_in v) a n) }

-- the sum of no counts, and of one count more
pub sum-none : (count : ℕ → ℕ) → 0 ≡ count_sum count 0
unfolding count_sum
sum-none count = refl

pub sum_more : (count : ℕ → ℕ) (n : ℕ) → count_sum count (n + 1) ≡ count_sum count n + count n
unfolding count_sum
sum_more count n = rw add-one

module _ (l : Layout) (v : View) (count : ℕ → ℕ) where
  -- where the lists hold, the sum of their counts is the number of their members
  hold-sum : (n : ℕ) → all_hold l v count n ≡ true → length (members l v n) ≡ count_sum count n
  unfolding all_hold members count_sum
  hold-sum zero e = refl
  hold-sum (suc n) e =
      let a = (and-eq-true_iff (all_hold l v count n) (holds v n (count n) (sequence_in l v n))).0 e in
      omega (
        arith,
        length-append (members l v n) (sequence_in l v n),
        hold-sum n a.0,
        (holds-true v n (count n) (sequence_in l v n) a.1).count,
      )

  -- not sound: what a sound store would have is not so
  unsound : (sound_in l v count ≡ true → ⊥) → false ≡ sound_in l v count
  unsound n = by (sound_in l v count) refl
    where
      by : (b : Bool) → sound_in l v count ≡ b → false ≡ b
      by true e = absurd (n e)
      by false e = refl

  -- another sum than there are nodes in use
  pub sum-not : (length (used v (first_node l) l.nodes) ≡ count_sum count l.lists → ⊥) → false ≡ sound_in l v count
  sum-not q = unsound (λ e. let a = sound-number l v count e in q (sym a.1 ∙ hold-sum l.lists a.0))

  -- a free node that has a record
  pub unwiped-not : (length (unwiped v (first_node l) l.nodes) ≡ 0 → ⊥) → false ≡ sound_in l v count
  unwiped-not q = unsound (λ e. q (sound-blank l v count e))

  -- a list that does not hold, or one of two
  pub held-not : (k : ℕ) → k < l.lists → (Held l v count k → ⊥) → false ≡ sound_in l v count
  held-not k h n = unsound (λ e. n (sound-hold l v count e k h))

  pub pair-not : (k j : ℕ) → k < l.lists → j < l.lists → (Held l v count k × Held l v count j → ⊥) → false ≡ sound_in l v count
  pair-not k j h g n = unsound (λ e. n (sound-hold l v count e k h, sound-hold l v count e j g))

  -- the sum is right, no free node has a record, and all lists hold
  module _ (q : length (used v (first_node l) l.nodes) ≡ count_sum count l.lists) (z : length (unwiped v (first_node l) l.nodes) ≡ 0) where
    pub sum-sound : (k : ℕ) → k ≡ l.lists → all_hold l v count k ≡ true → true ≡ sound_in l v count
    sum-sound k e h =
        let m = length (members l v k) in
        let n = length (used v (first_node l) l.nodes) in
        let s : m ≡ n = hold-sum k h ∙ ap (count_sum count) e ∙ sym q in
        sym (eq-eqb m n s) ∙ sound-by l v count k m n e h refl refl z

    -- and but for the last all hold: this one decides
    pub last-sound : (k : ℕ) (r : Bool) → k + 1 ≡ l.lists → all_hold l v count k ≡ true → Decides r (Held l v count k) → r ≡ sound_in l v count
    last-sound k true e h d = sum-sound (k + 1) e (all-hold-more l v count k h (d.right refl))
    last-sound k false e h d = held-not k (omega arith) (λ p. absurd (true≢false (sym (d.complete p))))
