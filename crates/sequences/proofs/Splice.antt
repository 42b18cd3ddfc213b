-- A cell spliced into a sequence, or cut out of it: two links change, and the links lead through the new sequence.
use Prim.Native.Nat.{ℕ, zero, suc, ◌≤◌}
use mathlib.Core.Path.{◌≡◌, refl, ◌∙◌, sym, subst}
use mathlib.Core.List.Memᴰ
use mathlib.Core.List.{List, [], ◌∷◌, ◌++◌}
use native.Mathlib.Omega.{arith}
use lib.ListN.{length, get_or, take, drop}
use Rattle.sequences.specs.Sequence.{◌∈◌, Different, steps, Forward, Backward, last_of, first_of}

-- links that agree on the cells of a path lead along it too
pub forward-same : (f f' : ℕ → ℕ) (x : ℕ) (s : List ℕ) (z : ℕ) → ((y : ℕ) → y ∈ (x ∷ s) → f' y ≡ f y) → Forward f x s z → Forward f' x s z
unfolding steps
forward-same f f' x [] z h p = (h x (Memᴰ.head refl) ∙ p.0, tt)
forward-same f f' x (y ∷ s) z h p = (h x (Memᴰ.head refl) ∙ p.0, forward-same f f' y s z (λ c m. h c (Memᴰ.tail m)) p.1)

pub backward-same : (g g' : ℕ → ℕ) (x : ℕ) (s : List ℕ) (z : ℕ) → ((y : ℕ) → y ∈ (s ++ z ∷ []) → g' y ≡ g y) → Backward g x s z → Backward g' x s z
unfolding steps
backward-same g g' x [] z h p = (h z (Memᴰ.head refl) ∙ p.0, tt)
backward-same g g' x (y ∷ s) z h p = (h y (Memᴰ.head refl) ∙ p.0, backward-same g g' y s z (λ c m. h c (Memᴰ.tail m)) p.1)

-- the last cell is one of them
pub last-in : (x : ℕ) (s : List ℕ) → last_of x s ∈ (x ∷ s)
last-in x [] = Memᴰ.head refl
last-in x (y ∷ s) = Memᴰ.tail (last-in y s)

pub first-in : (s : List ℕ) (z : ℕ) → first_of s z ∈ (s ++ z ∷ [])
first-in [] z = Memᴰ.head refl
first-in (y ∷ s) z = Memᴰ.head refl

-- positions: the cell in front of position p, and the cell at it
pub last-at : (x : ℕ) (s : List ℕ) (p : ℕ) → p ≤ length s → get_or (x ∷ s) p 0 ≡ last_of x (take p s)
last-at x s zero h = refl
last-at x [] (suc p) h = absurd (omega arith)
last-at x (y ∷ s) (suc p) h = last-at y s p (omega arith)

pub first-at : (s : List ℕ) (z p : ℕ) → p ≤ length s → get_or (s ++ z ∷ []) p 0 ≡ first_of (drop p s) z
first-at [] z zero h = refl
first-at (y ∷ s) z zero h = refl
first-at [] z (suc p) h = absurd (omega arith)
first-at (y ∷ s) z (suc p) h = first-at s z p (omega arith)

-- c between r and t
module _ (c : ℕ) (t : List ℕ) (z : ℕ) where
  pub splice-forward
      : (f f' : ℕ → ℕ) (x : ℕ) (r : List ℕ) → Different (x ∷ r ++ t)
      → ((y : ℕ) → y ∈ (x ∷ r ++ t) → (y ≡ last_of x r → ⊥) → f' y ≡ f y)
      → f' (last_of x r) ≡ c → f' c ≡ first_of t z → Forward f x (r ++ t) z → Forward f' x (r ++ c ∷ t) z
  unfolding steps
  splice-forward f f' x [] d h a b p = (a, rest t b h d p)
    where
      rest : (t : List ℕ) → f' c ≡ first_of t z → ((y : ℕ) → y ∈ (x ∷ t) → (y ≡ x → ⊥) → f' y ≡ f y)
          → Different (x ∷ t) → Forward f x t z → Forward f' c t z
      rest [] b h d p = (b, tt)
      rest (y ∷ t) b h d p =
          (b, forward-same f f' y t z (λ q m. h q (Memᴰ.tail m) (λ e. d.0 (subst (λ (n : ℕ). n ∈ (y ∷ t)) e m))) p.1)
  splice-forward f f' x (y ∷ r) d h a b p = (
    h x (Memᴰ.head refl) (λ e. d.0 (subst (λ (n : ℕ). n ∈ (y ∷ r ++ t)) (sym e) (Memᴰ.append_left t (last-in y r)))) ∙ p.0,
    splice-forward f f' y r d.1 (λ q m. h q (Memᴰ.tail m)) a b p.1,
  )

  pub splice-backward
      : (g g' : ℕ → ℕ) (x : ℕ) (r : List ℕ) → Different (r ++ (t ++ z ∷ []))
      → ((y : ℕ) → y ∈ (r ++ (t ++ z ∷ [])) → (y ≡ first_of t z → ⊥) → g' y ≡ g y)
      → g' (first_of t z) ≡ c → g' c ≡ last_of x r → Backward g x (r ++ t) z → Backward g' x (r ++ c ∷ t) z
  unfolding steps
  splice-backward g g' x [] d h b a p = (a, rest t b h d p)
    where
      rest : (t : List ℕ) → g' (first_of t z) ≡ c → ((y : ℕ) → y ∈ (t ++ z ∷ []) → (y ≡ first_of t z → ⊥) → g' y ≡ g y)
          → Different (t ++ z ∷ []) → Backward g x t z → Backward g' c t z
      rest [] b h d p = (b, tt)
      rest (y ∷ t) b h d p =
          (b, backward-same g g' y t z (λ q m. h q (Memᴰ.tail m) (λ e. d.0 (subst (λ (n : ℕ). n ∈ (t ++ z ∷ [])) e m))) p.1)
  splice-backward g g' x (y ∷ r) d h b a p = (
    h y (Memᴰ.head refl) (λ e. d.0 (subst (λ (n : ℕ). n ∈ (r ++ (t ++ z ∷ []))) (sym e) (Memᴰ.append_right r (first-in t z)))) ∙ p.0,
    splice-backward g g' y r d.1 (λ q m. h q (Memᴰ.tail m)) b a p.1,
  )

  pub cut-forward
      : (f f' : ℕ → ℕ) (x : ℕ) (r : List ℕ) → Different (x ∷ r ++ t)
      → ((y : ℕ) → y ∈ (x ∷ r ++ t) → (y ≡ last_of x r → ⊥) → f' y ≡ f y)
      → f' (last_of x r) ≡ first_of t z → Forward f x (r ++ c ∷ t) z → Forward f' x (r ++ t) z
  unfolding steps
  cut-forward f f' x [] d h b p = rest t b h d p.1
    where
      rest : (t : List ℕ) → f' x ≡ first_of t z → ((y : ℕ) → y ∈ (x ∷ t) → (y ≡ x → ⊥) → f' y ≡ f y)
          → Different (x ∷ t) → Forward f c t z → Forward f' x t z
      rest [] b h d p = (b, tt)
      rest (y ∷ t) b h d p =
          (b, forward-same f f' y t z (λ q m. h q (Memᴰ.tail m) (λ e. d.0 (subst (λ (n : ℕ). n ∈ (y ∷ t)) e m))) p.1)
  cut-forward f f' x (y ∷ r) d h b p = (
    h x (Memᴰ.head refl) (λ e. d.0 (subst (λ (n : ℕ). n ∈ (y ∷ r ++ t)) (sym e) (Memᴰ.append_left t (last-in y r)))) ∙ p.0,
    cut-forward f f' y r d.1 (λ q m. h q (Memᴰ.tail m)) b p.1,
  )

  pub cut-backward
      : (g g' : ℕ → ℕ) (x : ℕ) (r : List ℕ) → Different (r ++ (t ++ z ∷ []))
      → ((y : ℕ) → y ∈ (r ++ (t ++ z ∷ [])) → (y ≡ first_of t z → ⊥) → g' y ≡ g y)
      → g' (first_of t z) ≡ last_of x r → Backward g x (r ++ c ∷ t) z → Backward g' x (r ++ t) z
  unfolding steps
  cut-backward g g' x [] d h a p = rest t a h d p.1
    where
      rest : (t : List ℕ) → g' (first_of t z) ≡ x → ((y : ℕ) → y ∈ (t ++ z ∷ []) → (y ≡ first_of t z → ⊥) → g' y ≡ g y)
          → Different (t ++ z ∷ []) → Backward g c t z → Backward g' x t z
      rest [] a h d p = (a, tt)
      rest (y ∷ t) a h d p =
          (a, backward-same g g' y t z (λ q m. h q (Memᴰ.tail m) (λ e. d.0 (subst (λ (n : ℕ). n ∈ (t ++ z ∷ [])) e m))) p.1)
  cut-backward g g' x (y ∷ r) d h a p = (
    h y (Memᴰ.head refl) (λ e. d.0 (subst (λ (n : ℕ). n ∈ (r ++ (t ++ z ∷ []))) (sym e) (Memᴰ.append_right r (first-in t z)))) ∙ p.0,
    cut-backward g g' y r d.1 (λ q m. h q (Memᴰ.tail m)) a p.1,
  )

-- the link of the cell in front of a position is the cell at it
pub forward-at : (f : ℕ → ℕ) (x : ℕ) (s : List ℕ) (z p : ℕ) → Forward f x s z → p ≤ length s → f (get_or (x ∷ s) p 0) ≡ get_or (s ++ z ∷ []) p 0
unfolding steps
forward-at f x [] z zero h k = h.0
forward-at f x [] z (suc p) h k = absurd (omega arith)
forward-at f x (y ∷ s) z zero h k = h.0
forward-at f x (y ∷ s) z (suc p) h k = forward-at f y s z p h.1 (omega arith)
