-- Links that lead through a sequence: the trail finds it, so there is only one, and its members are different.
use Prim.Native.Nat.{ℕ, zero, suc, ◌<◌, ◌≤◌}
use mathlib.Core.Path.{◌≡◌, refl, ap, ◌∙◌, sym, subst}
use mathlib.Core.List.Memᴰ
use mathlib.Core.List.{List, [], ◌∷◌}
use mathlib.Core.Bool.{Bool, true, false, true≢false}
use native.Mathlib.Omega.{arith}
use lib.ListN.{length, get_or}
use Rattle.sequences.specs.Sequence.{◌∈◌, All, Different, steps, Forward, trail}

module _ (link : ℕ → ℕ) (inside : ℕ → Bool) where
  -- one step of the trail
  pub trail-on : (n c : ℕ) → inside c ≡ true → trail link inside (suc n) c ≡ c ∷ trail link inside n (link c)
  unfolding trail
  trail-on n c e = rw (trail, e)

  pub trail-out : (n c : ℕ) → inside c ≡ false → trail link inside n c ≡ []
  unfolding trail
  trail-out zero c e = refl
  trail-out (suc n) c e = rw (trail, e)

  pub trail-none : (c : ℕ) → trail link inside 0 c ≡ []
  unfolding trail
  trail-none c = refl

  pub trail-length : (n c : ℕ) → length (trail link inside n c) ≤ n
  trail-length zero c = rw (trail-none c) (omega arith)
  trail-length (suc n) c = by (inside c) refl (trail-length n (link c))
    where
      by : (b : Bool) → inside c ≡ b → length (trail link inside n (link c)) ≤ n → length (trail link inside (suc n) c) ≤ suc n
      by true e h = rw (trail-on n c e) (omega arith)
      by false e h = rw (trail-out (suc n) c e) (omega arith)

  -- the members of a trail are inside
  pub trail-inside : (n c : ℕ) → All (λ x. inside x ≡ true) (trail link inside n c)
  trail-inside zero c = rw (trail-none c) tt
  trail-inside (suc n) c = by (inside c) refl (trail-inside n (link c))
    where
      by : (b : Bool) → inside c ≡ b → All (λ x. inside x ≡ true) (trail link inside n (link c))
          → All (λ x. inside x ≡ true) (trail link inside (suc n) c)
      by true e h = rw (trail-on n c e) (e, h)
      by false e h = rw (trail-out (suc n) c e) tt

  -- what links lead through, on to a cell outside, is the trail
  pub leads-trail
      : (n x : ℕ) (s : List ℕ) (z : ℕ) → All (λ y. inside y ≡ true) s → inside z ≡ false → Forward link x s z → length s ≤ n
      → trail link inside n (link x) ≡ s
  unfolding steps
  leads-trail n x [] z h o p k = ap (trail link inside n) p.0 ∙ trail-out n z o
  leads-trail zero x (y ∷ s) z h o p k = absurd (omega arith)
  leads-trail (suc n) x (y ∷ s) z h o p k =
      ap (trail link inside (suc n)) p.0 ∙ trail-on n y h.0 ∙ ap (λ (t : List ℕ). y ∷ t) (leads-trail n y s z h.1 o p.1 (omega arith))

  -- from a member on, links lead through the shorter rest
  pub leads-from
      : (x : ℕ) (s : List ℕ) (z y : ℕ) → All (λ y. inside y ≡ true) s → Forward link x s z → y ∈ s
      → (r : List ℕ) × All (λ y. inside y ≡ true) r × Forward link y r z × (length r < length s)
  unfolding steps
  leads-from x (c ∷ s) z y h p (Memᴰ.head e) =
      (s, h.1, subst (λ (a : ℕ). Forward link a s z) (sym e) p.1, omega arith)
  leads-from x (c ∷ s) z y h p (Memᴰ.tail m) =
      let r = leads-from c s z y h.1 p.1 m in (r.0, r.1, r.2, omega (arith, r.3))
  leads-from x [] z y h p x5 = elim x5 [ ]

  -- so a cell is met once
  pub leads-different
      : (x : ℕ) (s : List ℕ) (z : ℕ) → All (λ y. inside y ≡ true) s → inside z ≡ false → Forward link x s z → Different s
  unfolding steps
  leads-different x [] z h o p = tt
  leads-different x (y ∷ s) z h o p = (again, leads-different y s z h.1 o p.1)
    where
      again : y ∈ s → ⊥
      again m =
          let r = leads-from y s z y h.1 p.1 m in
          let e : s ≡ r.0 =
          sym (leads-trail (length s) y s z h.1 o p.1 (omega arith))
          ∙ leads-trail (length s) y r.0 z r.1 o r.2 (omega (arith, r.3)) in
          omega (arith, r.3, ap length e)

  -- each cell of a trail is the link of the one before it
  pub trail-link : (n x i : ℕ) → i < length (trail link inside n (link x))
      → get_or (trail link inside n (link x)) i 0 ≡ link (get_or (x ∷ trail link inside n (link x)) i 0)
  trail-link zero x i = rw (trail-none (link x)) (λ h. absurd (omega arith))
  trail-link (suc n) x i = by (inside (link x)) refl i (λ j q. trail-link n (link x) j q)
    where
      by : (b : Bool) → inside (link x) ≡ b → (i : ℕ)
          → ((j : ℕ) → j < length (trail link inside n (link (link x)))
          → get_or (trail link inside n (link (link x))) j 0 ≡ link (get_or (link x ∷ trail link inside n (link (link x))) j 0))
          → i < length (trail link inside (suc n) (link x))
          → get_or (trail link inside (suc n) (link x)) i 0 ≡ link (get_or (x ∷ trail link inside (suc n) (link x)) i 0)
      by true e zero below = rw (trail-on n (link x) e) (λ h. refl)
      by true e (suc i) below = rw (trail-on n (link x) e) (λ h. below i (omega arith))
      by false e i below = rw (trail-out (suc n) (link x) e) (λ h. absurd (omega arith))

  -- two paths from one cell, through cells inside on to cells outside, end at the same cell
  pub leads-end
      : (x : ℕ) (s : List ℕ) (y : ℕ) (t : List ℕ) (z : ℕ) → All (λ c. inside c ≡ true) s → inside y ≡ false → Forward link x s y
      → All (λ c. inside c ≡ true) t → inside z ≡ false → Forward link x t z → y ≡ z
  unfolding steps
  leads-end x [] y [] z h o p h' o' p' = sym p.0 ∙ p'.0
  leads-end x [] y (c ∷ t) z h o p h' o' p' = absurd (true≢false (sym h'.0 ∙ ap inside (sym p'.0 ∙ p.0) ∙ o))
  leads-end x (c ∷ s) y [] z h o p h' o' p' = absurd (true≢false (sym h.0 ∙ ap inside (sym p.0 ∙ p'.0) ∙ o'))
  leads-end x (c ∷ s) y (d ∷ t) z h o p h' o' p' =
      leads-end c s y t z h.1 o p.1 h'.1 o' (subst (λ (a : ℕ). Forward link a t z) (sym p'.0 ∙ p.0) p'.1)
