-- Links that agree with those of a sequence but at one cell, stay in it, and lead round another sequence as long: it is the same.
use Prim.Native.Nat.{ℕ}
use mathlib.Core.Path.{◌≡◌, refl, ap, ◌∙◌, sym, subst}
use mathlib.Core.List.{List, [], ◌∷◌, ◌++◌, Memᴰ}
use mathlib.Core.Bool.{Bool, true, false}
use mathlib.Core.Logic.{◌⊎◌, inl, inr}
use native.Mathlib.Decide.{ℕ_discrete}
use native.Mathlib.Omega.{arith}
use lib.ListN.{length}
use Rattle.sequences.specs.Sequence.{◌∈◌, All, Different, Step, steps, Forward}
use Rattle.sequences.proofs.Members.{all_in, in_all, member?, in-front, in-behind}
use Rattle.sequences.proofs.Steps.{step-source, step-target, step_from, step-to, one-source}
use Rattle.sequences.proofs.Pigeonhole.{pigeonhole-less}
use Rattle.sequences.proofs.Trail.{leads-trail}

-- links that stay in s: all cells that they lead through are in s
stays : (f : ℕ → ℕ) (j : ℕ) (s : List ℕ) (x : ℕ) (r : List ℕ) (z : ℕ) → Forward f x r z → x ∈ (j ∷ s)
    → ((c : ℕ) → c ∈ (j ∷ s) → f c ∈ r → f c ∈ s) → (c : ℕ) → c ∈ r → c ∈ s
unfolding steps
stays f j s x (y ∷ r) z p m h c (Memᴰ.head e) =
    subst (λ (d : ℕ). d ∈ s) (p.0 ∙ sym e) (h x m (Memᴰ.head p.0))
stays f j s x (y ∷ r) z p m h c (Memᴰ.tail q) =
    let here : y ∈ s = subst (λ (d : ℕ). d ∈ s) p.0 (h x m (Memᴰ.head p.0)) in
    stays f j s y r z p.1 (Memᴰ.tail here) (λ d n t. h d n (Memᴰ.tail t)) c q
stays f j s x [] z p m h c x6 = elim x6 [ ]

module _ (inside : ℕ → Bool) (g f : ℕ → ℕ) (j a : ℕ) (s r : List ℕ)
    (ins : All (λ c. inside c ≡ true) s) (inr' : All (λ c. inside c ≡ true) r) (out : inside j ≡ false)
    (ds : Different (j ∷ s)) (dr : Different r) (drj : Different (r ++ j ∷ [])) (old : Forward g j s j) (new : Forward f j r j)
    (agree : (c : ℕ) → c ∈ (j ∷ s) → (c ≡ a → ⊥) → f c ≡ g c)
    (stay : (c : ℕ) → c ∈ (j ∷ s) → f c ∈ r → f c ∈ s) (long : length r ≡ length s) where
  r-in : (c : ℕ) → c ∈ r → c ∈ s
  r-in = stays f j s j r j new (Memᴰ.head refl) stay

  s-in : (c : ℕ) → c ∈ s → c ∈ r
  s-in c m = by (member? c r)
    where
      by : (c ∈ r) ⊎ (c ∈ r → ⊥) → c ∈ r
      by (inl q) = q
      by (inr q) = absurd (omega (arith, pigeonhole-less r s c dr r-in m q))

  ring_in : (c : ℕ) → c ∈ (j ∷ s) → c ∈ (j ∷ r)
  ring_in c (Memᴰ.head e) = Memᴰ.head e
  ring_in c (Memᴰ.tail m) = Memᴰ.tail (s-in c m)

  ring_of : (c : ℕ) → c ∈ (j ∷ r) → c ∈ (j ∷ s)
  ring_of c (Memᴰ.head e) = Memᴰ.head e
  ring_of c (Memᴰ.tail m) = Memᴰ.tail (r-in c m)

  -- so every link of s is as it was
  kept : (t : Step) → Memᴰ t (steps j s j) → f t.source ≡ t.target
  kept t m = by (ℕ_discrete t.source a)
    where
      source : t.source ∈ (j ∷ s)
      source = step-source j s j m

      was : g t.source ≡ t.target
      was = all_in (λ (u : Step). g u.source ≡ u.target) (steps j s j) old m

      by : Dec (t.source ≡ a) → f t.source ≡ t.target
      by (no n) = agree t.source source n ∙ was
      by (yes e) =
          -- the step of r from here ends at a cell of s, where a step of s ended: the same one
          let u = step_from j r j t.source (ring_in t.source source) in
          let lead : f u.0.source ≡ u.0.target = all_in (λ (v : Step). f v.source ≡ v.target) (steps j r j) new u.1 in
          let there : u.0.target ∈ (s ++ j ∷ []) = in-behind j s (ring_of u.0.target (in-front j r (step-target j r j u.1))) in
          let b = step-to j s j u.0.target there in
          same u lead b (ℕ_discrete b.0.source a)
        where
          same : (u : (v : Step) × Memᴰ v (steps j r j) × (v.source ≡ t.source)) → f u.0.source ≡ u.0.target
              → (b : (v : Step) × Memᴰ v (steps j s j) × (v.target ≡ u.0.target)) → Dec (b.0.source ≡ a) → f t.source ≡ t.target
          same u lead b (yes q) =
              -- a step of s from the one cell: it is t
              ap f (sym u.2) ∙ lead ∙ sym b.2
              ∙ sym (all_in (λ (v : Step). g v.source ≡ v.target) (steps j s j) old b.1) ∙ ap g (q ∙ sym e) ∙ was
          same u lead b (no n) =
              let link : f b.0.source ≡ b.0.target =
              agree b.0.source (step-source j s j b.1) n
              ∙ all_in (λ (v : Step). g v.source ≡ v.target) (steps j s j) old b.1 in
              let w = step_from j r j b.0.source (ring_in b.0.source (step-source j s j b.1)) in
              let end : w.0.target ≡ u.0.target =
              sym (all_in (λ (v : Step). f v.source ≡ v.target) (steps j r j) new w.1) ∙ ap f w.2 ∙ link ∙ b.2 in
              absurd (n (sym w.2 ∙ one-source j r j drj w.1 u.1 end ∙ u.2 ∙ e))

  pub no_rival : r ≡ s
  no_rival =
      let whole : Forward f j s j = in_all (λ (t : Step). f t.source ≡ t.target) (steps j s j) kept in
      sym (leads-trail f inside (length s) j r j inr' out new (omega arith)) ∙ leads-trail f inside (length s) j s j ins out whole (omega arith)
