-- Links that lead round a header through one sequence, and others through another: a link of the first is another in the second, and where
-- both sequences have the same cells, two are.
use Prim.Native.Nat.{ℕ, ◌+◌}
use mathlib.Core.Path.{◌≡◌, ap, ◌∙◌, sym}
use mathlib.Core.List.Memᴰ
use mathlib.Core.List.{List, [], ◌∷◌, ◌++◌}
use mathlib.Core.Bool.{Bool, true, false}
use mathlib.Core.Logic.{◌⊎◌, inl, inr, ⊎_elim}
use native.Mathlib.Decide.{ℕ_discrete}
use native.Mathlib.Omega.{arith}
use lib.ListN.{length}
use Rattle.sequences.specs.Sequence.{◌∈◌, All, Different, Step, steps, Forward}
use Rattle.sequences.proofs.Members.{all_in, every?, in-front, in-behind}
use Rattle.sequences.proofs.Steps.{step-source, step-target, step_from, step-to, one-source}
use Rattle.sequences.proofs.Splice.{forward-same}
use Rattle.sequences.proofs.Trail.{leads-trail}

-- a link is the same, or another
moved? : (f g : ℕ → ℕ) (c : ℕ) → (f c ≡ g c) ⊎ (f c ≡ g c → ⊥)
moved? f g c = elim (ℕ_discrete (f c) (g c)) [ yes e ↦ inl e | no n ↦ inr n ]

module _ (inside : ℕ → Bool) (f g : ℕ → ℕ) (k : ℕ) (s t : List ℕ) (ins : All (λ c. inside c ≡ true) s) (int : All (λ c. inside c ≡ true) t)
    (out : inside k ≡ false) (old : Forward f k s k) (new : Forward g k t k) (other : s ≡ t → ⊥) where
  pub some-moved : (c : ℕ) × (c ∈ (k ∷ s)) × (f c ≡ g c → ⊥)
  some-moved = ⊎_elim (λ h. absurd (other (same h))) (λ r. r) (every? (λ c. f c ≡ g c) (moved? f g) (k ∷ s))
    where
      same : ((c : ℕ) → c ∈ (k ∷ s) → f c ≡ g c) → s ≡ t
      same h =
          let n = length s + length t in
          sym (leads-trail g inside n k s k ins out (forward-same f g k s k (λ c m. sym (h c m)) old) (omega arith)) ∙ leads-trail g inside n k t k int out new (omega arith)

  -- Some c leads elsewhere. The cell that led there before, d, leads elsewhere too: otherwise both would lead to one cell.
  pub two-moved
      : Different (t ++ k ∷ []) → ((c : ℕ) → c ∈ s → c ∈ t) → ((c : ℕ) → c ∈ t → c ∈ s)
      → (c d : ℕ) × (c ∈ (k ∷ s)) × (d ∈ (k ∷ s)) × (c ≡ d → ⊥) × (f c ≡ g c → ⊥) × (f d ≡ g d → ⊥)
  two-moved different to from =
      let c = some-moved in
      let u = step_from k t k c.0 (ring s t to c.0 c.1) in
      let v = step-to k s k u.0.target (in-behind k s (ring t s from u.0.target (in-front k t (step-target k t k u.1)))) in
      let d = v.0.source in
      let dm = step-source k s k v.1 in
      let lead : g c.0 ≡ u.0.target = ap g (sym u.2) ∙ all_in (λ (p : Step). g p.source ≡ p.target) (steps k t k) new u.1 in
      let led : f d ≡ u.0.target = all_in (λ (p : Step). f p.source ≡ p.target) (steps k s k) old v.1 ∙ v.2 in (
        c.0,
        d,
        c.1,
        dm,
        (λ e. c.2 (ap f e ∙ led ∙ sym lead)),
        c.2,
        (λ e.
            let z = step_from k t k d (ring s t to d dm) in
            let ends : z.0.target ≡ u.0.target =
            sym (all_in (λ (p : Step). g p.source ≡ p.target) (steps k t k) new z.1) ∙ ap g z.2 ∙ sym e ∙ led in
            let same : d ≡ c.0 = sym z.2 ∙ one-source k t k different z.1 u.1 ends ∙ u.2 in
            c.2 (ap f (sym same) ∙ led ∙ sym lead)),
      )
    where
      ring : (a b : List ℕ) → ((c : ℕ) → c ∈ a → c ∈ b) → (c : ℕ) → c ∈ (k ∷ a) → c ∈ (k ∷ b)
      ring a b h c (Memᴰ.head e) = Memᴰ.head e
      ring a b h c (Memᴰ.tail m) = Memᴰ.tail (h c m)
