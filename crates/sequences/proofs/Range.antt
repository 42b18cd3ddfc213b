-- A range has the numbers between its ends, each once, as many as it says.
use Prim.Native.Nat.{ℕ, zero, suc, ◌+◌, ◌<◌, ◌≤◌}
use mathlib.Core.Path.{◌≡◌, refl, ap, ◌∙◌}
use mathlib.Core.List.Memᴰ
use mathlib.Core.List.{List, ◌∷◌, ◌++◌}
use native.Mathlib.Decide.{ℕ_discrete}
use native.Mathlib.Omega.{arith}
use lib.ListN.{length}
use Rattle.sequences.specs.Sequence.{◌∈◌, Different, range}

pub length-range : (a n : ℕ) → length (range a n) ≡ n
unfolding range
length-range a zero = refl
length-range a (suc n) = ap suc (length-range (suc a) n)

pub in-range : (a n x : ℕ) → a ≤ x → x < a + n → x ∈ range a n
unfolding range
in-range a zero x h k = absurd (omega arith)
in-range a (suc n) x h k = by (λ p q. in-range (suc a) n x p q) (ℕ_discrete x a)
  where
    by : (suc a ≤ x → x < suc a + n → x ∈ range (suc a) n) → Dec (x ≡ a) → x ∈ (a ∷ range (suc a) n)
    by below (yes e) = Memᴰ.head e
    by below (no q) = Memᴰ.tail (below (omega arith) (omega arith))

pub range-between : (a n x : ℕ) → x ∈ range a n → (a ≤ x) × (x < a + n)
unfolding range
range-between a zero x m = absurd (elim m [ ])
range-between a (suc n) x (Memᴰ.head e) = (omega arith, omega arith)
range-between a (suc n) x (Memᴰ.tail m) = let r = range-between (suc a) n x m in (omega (arith, r.0), omega (arith, r.1))

pub range-different : (a n : ℕ) → Different (range a n)
unfolding range
range-different a zero = tt
range-different a (suc n) = ((λ m. omega (arith, (range-between (suc a) n a m).0)), range-different (suc a) n)

-- two ranges, one behind the other, and the first number of one
pub range-append : (a m n : ℕ) → range a (m + n) ≡ range a m ++ range (a + m) n
unfolding range
range-append a zero n =
    let e : 0 + n ≡ n = omega arith in
    let f : a ≡ a + 0 = omega arith in
    ap (range a) e ∙ ap (λ (x : ℕ). range x n) f
range-append a (suc m) n =
    let e : suc m + n ≡ suc (m + n) = omega arith in
    let f : suc a + m ≡ a + suc m = omega arith in
    ap (range a) e ∙ ap (λ (t : List ℕ). a ∷ t) (range-append (suc a) m n ∙ ap (λ (x : ℕ). range (suc a) m ++ range x n) f)

pub range-first : (a n : ℕ) → range a (suc n) ≡ a ∷ range (suc a) n
unfolding range
range-first a n = refl
