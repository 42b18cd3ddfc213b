-- The steps of a path: where they start and end.
use Prim.Native.Nat.{ℕ}
use mathlib.Core.Path.{◌≡◌, refl, ap, sym, subst}
use mathlib.Core.List.Memᴰ
use mathlib.Core.List.{List, [], ◌∷◌, ◌++◌, map, Memᴰ}
use Rattle.sequences.specs.Sequence.{◌∈◌, Different, Step, steps}
use Rattle.sequences.proofs.Members.{one-image}

pub sources : (x : ℕ) (s : List ℕ) (z : ℕ) → map (λ (t : Step). t.source) (steps x s z) ≡ x ∷ s
unfolding steps
sources x [] z = refl
sources x (y ∷ s) z = ap (λ (r : List ℕ). x ∷ r) (sources y s z)

pub targets : (x : ℕ) (s : List ℕ) (z : ℕ) → map (λ (t : Step). t.target) (steps x s z) ≡ s ++ z ∷ []
unfolding steps
targets x [] z = refl
targets x (y ∷ s) z = ap (λ (r : List ℕ). y ∷ r) (targets y s z)

-- a step starts at a cell of the path, and ends at one
pub step-source : (x : ℕ) (s : List ℕ) (z : ℕ) {t : Step} → Memᴰ t (steps x s z) → t.source ∈ (x ∷ s)
step-source x s z {t} m = subst (λ (r : List ℕ). t.source ∈ r) (sources x s z) (Memᴰ.map (λ (u : Step). u.source) m)

pub step-target : (x : ℕ) (s : List ℕ) (z : ℕ) {t : Step} → Memᴰ t (steps x s z) → t.target ∈ (s ++ z ∷ [])
step-target x s z {t} m = subst (λ (r : List ℕ). t.target ∈ r) (targets x s z) (Memᴰ.map (λ (u : Step). u.target) m)

-- from a cell of the path a step starts, and at one a step ends
pub step_from : (x : ℕ) (s : List ℕ) (z c : ℕ) → c ∈ (x ∷ s) → (t : Step) × Memᴰ t (steps x s z) × (t.source ≡ c)
step_from x s z c m = Memᴰ.of_map (λ (t : Step). t.source) (steps x s z) (subst (λ (r : List ℕ). c ∈ r) (sym (sources x s z)) m)

pub step-to : (x : ℕ) (s : List ℕ) (z c : ℕ) → c ∈ (s ++ z ∷ []) → (t : Step) × Memᴰ t (steps x s z) × (t.target ≡ c)
step-to x s z c m = Memᴰ.of_map (λ (t : Step). t.target) (steps x s z) (subst (λ (r : List ℕ). c ∈ r) (sym (targets x s z)) m)

-- a cell is the target of one step
pub one-source : (x : ℕ) (s : List ℕ) (z : ℕ) → Different (s ++ z ∷ []) → {t u : Step} → Memᴰ t (steps x s z) → Memᴰ u (steps x s z)
    → t.target ≡ u.target → t.source ≡ u.source
one-source x s z d m m' q =
    ap (λ (t : Step). t.source)
    (one-image (λ (t : Step). t.target) (steps x s z) (subst Different (sym (targets x s z)) d) m m' q)
