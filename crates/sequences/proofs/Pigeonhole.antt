-- Different members of a sequence are no more than its members.
use Prim.Native.Nat.{ℕ, suc, ◌<◌, ◌≤◌, zero-le}
use mathlib.Core.Path.{◌≡◌, refl, ap, ◌∙◌, sym, subst}
use mathlib.Core.List.Memᴰ
use mathlib.Core.List.{List, [], ◌∷◌}
use native.Mathlib.Decide.{ℕ_discrete}
use native.Mathlib.Omega.{arith}
use lib.ListN.{length}
use Rattle.sequences.specs.Sequence.{◌∈◌, Different}

-- t without its first x
without : ℕ → List ℕ → List ℕ
without x [] = []
without x (y ∷ t) = elim (ℕ_discrete x y) [ yes e ↦ t | no h ↦ y ∷ without x t ]

length_without : (x : ℕ) (t : List ℕ) → x ∈ t → length t ≡ suc (length (without x t))
unfolding without
length_without x (y ∷ t) m = by (λ q. length_without x t q) (ℕ_discrete x y) m
  where
    by : (x ∈ t → length t ≡ suc (length (without x t))) → (d : Dec (x ≡ y)) → x ∈ (y ∷ t) → suc (length t) ≡ suc (length {A = ℕ} (elim d as (λ _. List ℕ) [ yes e ↦ t | no h ↦ y ∷ without x t ]))
    by below (yes e) m = refl
    by below (no h) (Memᴰ.head e) = absurd (h e)
    by below (no h) (Memᴰ.tail m) = ap suc (below m)
length_without x [] m = elim m [ ]

in_without : (x z : ℕ) (t : List ℕ) → (z ≡ x → ⊥) → z ∈ t → z ∈ without x t
unfolding without
in_without x z (y ∷ t) h m = by (λ q. in_without x z t h q) (ℕ_discrete x y) m
  where
    by : (z ∈ t → z ∈ without x t) → (d : Dec (x ≡ y)) → z ∈ (y ∷ t) → z ∈ (elim d as (λ _. List ℕ) [ yes e ↦ t | no n ↦ y ∷ without x t ])
    by below (yes e) (Memᴰ.head q) = absurd (h (q ∙ sym e))
    by below (yes e) (Memᴰ.tail q) = q
    by below (no n) (Memᴰ.head q) = Memᴰ.head q
    by below (no n) (Memᴰ.tail q) = Memᴰ.tail (below q)
in_without x z [] h m = elim m [ ]

pub pigeonhole : (s t : List ℕ) → Different s → ((x : ℕ) → x ∈ s → x ∈ t) → length s ≤ length t
pigeonhole [] t d h = zero-le
pigeonhole (x ∷ s) t d h =
    let r : length s ≤ length (without x t) =
    pigeonhole s (without x t) d.1
    (λ z m. in_without x z t (λ e. d.0 (subst (λ (y : ℕ). y ∈ s) e m)) (h z (Memᴰ.tail m))) in
    omega (arith, length_without x t (h x (Memᴰ.head refl)))

-- one member of t that is not in s makes it more
pub pigeonhole-less : (s t : List ℕ) (y : ℕ) → Different s → ((x : ℕ) → x ∈ s → x ∈ t) → y ∈ t → (y ∈ s → ⊥) → length s < length t
pigeonhole-less s t y d h m n = pigeonhole (y ∷ s) t (n, d) (λ x q. cases x q)
  where
    cases : (x : ℕ) → x ∈ (y ∷ s) → x ∈ t
    cases x (Memᴰ.head e) = subst (λ (z : ℕ). z ∈ t) (sym e) m
    cases x (Memᴰ.tail q) = h x q
