-- Places where two stores hold different words, counted.
use Prim.Native.Nat.{ℕ, zero, suc, ◌<◌, ◌≤◌}
use mathlib.Core.Path.{◌≡◌, refl, ap₂, ◌∙◌, sym, subst}
use mathlib.Core.List.Memᴰ
use mathlib.Core.List.{List, [], ◌∷◌}
use native.Mathlib.Decide.{ℕ_discrete}
use native.Mathlib.Omega.{arith}
use lib.ListN.{length, get_or, set, length-set}
use lib.Seq.{get_or-set_other}
use borrow.Author.Tests.{eq-eqb, ne_eqb}
use Rattle.sequences.specs.Sequence.{◌∈◌, All, Different}
use Rattle.recovery.specs.Plan.{differing}

pub differing-self : (w : List ℕ) → differing w w ≡ 0
unfolding differing
differing-self [] = refl
differing-self (a ∷ w) = rw (eq-eqb a a refl, differing-self w)

-- one place where they differ, and those that are left once it is stored
pub differing-step : (w y : List ℕ) (b v : ℕ) → b < length w → length y ≡ length w → (get_or w b 0 ≡ v → ⊥) → get_or y b 0 ≡ v
    → differing w y ≡ suc (differing (set w b v) y)
unfolding differing
differing-step [] y b v h e n q = absurd (omega arith)
differing-step (c ∷ w) [] b v h e n q = absurd (omega arith)
differing-step (c ∷ w) (d ∷ y) zero v h e n q = rw (ne_eqb c d (λ z. n (z ∙ q)), eq-eqb v d (sym q)) (omega arith)
differing-step (c ∷ w) (d ∷ y) (suc b) v h e n q = rw (differing-step w y b v (omega arith) (omega arith) n q) (omega arith)

-- one word more makes one difference more at most
pub differing-set : (w y : List ℕ) (a v : ℕ) → differing (set w a v) y ≤ suc (differing w y)
unfolding differing
differing-set [] y a v = omega arith
differing-set (c ∷ w) [] zero v = omega arith
differing-set (c ∷ w) [] (suc a) v = omega arith
differing-set (c ∷ w) (d ∷ y) zero v = by (ℕ_discrete v d)
  where
    by : Dec (v ≡ d) → differing (v ∷ w) (d ∷ y) ≤ suc (differing (c ∷ w) (d ∷ y))
    by (yes e) = rw (eq-eqb v d e) (omega arith)
    by (no n) = rw (ne_eqb v d n) (omega arith)
differing-set (c ∷ w) (d ∷ y) (suc a) v = omega (arith, differing-set w y a v)

-- where none is counted, the words are the same
pub differ-none : (w y : List ℕ) → length y ≡ length w → differing w y ≡ 0 → y ≡ w
unfolding differing
differ-none [] [] e z = refl
differ-none [] (d ∷ y) e z = absurd (omega arith)
differ-none (c ∷ w) [] e z = absurd (omega arith)
differ-none (c ∷ w) (d ∷ y) e z = by (ℕ_discrete c d) (λ q. differ-none w y (omega arith) q) z
  where
    by : Dec (c ≡ d) → (differing w y ≡ 0 → y ≡ w) → differing (c ∷ w) (d ∷ y) ≡ 0 → (d ∷ y) ≡ c ∷ w
    by (yes q) below = rw (eq-eqb c d q) (λ z. ap₂ (λ (x : ℕ) (v : List ℕ). x ∷ v) (sym q) (below (omega (arith, z))))
    by (no n) below = rw (ne_eqb c d n) (λ z. absurd (omega arith))

-- where one is counted, there is one
pub differ-some : (w y : List ℕ) → length y ≡ length w → 1 ≤ differing w y → (a : ℕ) × (a < length w) × (get_or w a 0 ≡ get_or y a 0 → ⊥)
unfolding differing
differ-some [] y e h = absurd (omega arith)
differ-some (c ∷ w) [] e h = absurd (omega arith)
differ-some (c ∷ w) (d ∷ y) e h = by (ℕ_discrete c d) (λ q. differ-some w y (omega arith) q) h
  where
    by : Dec (c ≡ d) → (1 ≤ differing w y → (a : ℕ) × (a < length w) × (get_or w a 0 ≡ get_or y a 0 → ⊥))
        → 1 ≤ differing (c ∷ w) (d ∷ y) → (a : ℕ) × (a < length (c ∷ w)) × (get_or (c ∷ w) a 0 ≡ get_or (d ∷ y) a 0 → ⊥)
    by (yes q) below = rw (eq-eqb c d q) (λ h. let r = below (omega (arith, h)) in (suc r.0, omega (arith, r.1), r.2))
    by (no n) below = λ h. (0, omega arith, n)

-- and where they differ at different places, these are counted
pub differ-many : (places w y : List ℕ) → Different places → length y ≡ length w → All (λ a. (a < length w) × (get_or w a 0 ≡ get_or y a 0 → ⊥)) places
    → length places ≤ differing w y
differ-many [] w y d e h = omega arith
differ-many (a ∷ places) w y d e h =
    let x : List ℕ = set w a (get_or y a 0) in
    omega (
      arith,
      differ-many places x y d.1 (e ∙ sym (length-set w a (get_or y a 0))) (later places d.0 h.1),
      differing-step w y a (get_or y a 0) h.0.0 e h.0.1 refl,
    )
  where
    later : (bs : List ℕ) → (a ∈ bs → ⊥) → All (λ b. (b < length w) × (get_or w b 0 ≡ get_or y b 0 → ⊥)) bs
        → All (λ b. (b < length (set w a (get_or y a 0))) × (get_or (set w a (get_or y a 0)) b 0 ≡ get_or y b 0 → ⊥)) bs
    later [] n k = tt
    later (b ∷ bs) n k = (
      (
        subst (λ (m : ℕ). b < m) (sym (length-set w a (get_or y a 0))) k.0.0,
        λ q. k.0.1 (sym (get_or-set_other w a b (get_or y a 0) 0 (λ z. n (Memᴰ.head (sym z)))) ∙ q),
      ),
      later bs (λ m. n (Memᴰ.tail m)) k.1,
    )
