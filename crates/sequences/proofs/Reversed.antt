-- Back links through a sequence are links through the reversed one.
use Prim.Native.Nat.{ℕ, ◌≤◌}
use mathlib.Core.Path.{◌≡◌, ap, ◌∙◌, sym, subst}
use mathlib.Core.List.Memᴰ
use mathlib.Core.List.{List, [], ◌∷◌, ◌++◌, reverse, reverse-cons, reverse-reverse}
use mathlib.Core.Bool.{Bool, true, false}
use mathlib.Core.Logic.{⊎_elim}
use native.Mathlib.Omega.{arith}
use lib.ListN.{length, length-reverse}
use Rattle.sequences.specs.Sequence.{◌∈◌, All, Different, steps, Forward, Backward, trail}
use Rattle.sequences.proofs.Members.{all_in, in_all, different-append}
use Rattle.sequences.proofs.Trail.{leads-trail, leads-different}

-- one step more at the end
forward-snoc : (f : ℕ → ℕ) (x : ℕ) (s : List ℕ) (y z : ℕ) → Forward f x s y → f y ≡ z → Forward f x (s ++ y ∷ []) z
unfolding steps
forward-snoc f x [] y z h e = (h.0, (e, tt))
forward-snoc f x (c ∷ s) y z h e = (h.0, forward-snoc f c s y z h.1 e)

pub backward-forward : (g : ℕ → ℕ) (x : ℕ) (s : List ℕ) (z : ℕ) → Backward g x s z → Forward g z (reverse s) x
unfolding steps
backward-forward g x [] z h = (h.0, tt)
backward-forward g x (y ∷ s) z h =
    subst (λ (t : List ℕ). Forward g z t x) (sym (reverse-cons y s)) (forward-snoc g z (reverse s) y x (backward-forward g y s z h.1) h.0)

-- members, reversed
pub in-reverse : (s : List ℕ) {x : ℕ} → x ∈ reverse s → x ∈ s
in-reverse [] m = m
in-reverse (y ∷ s) {x} m =
    ⊎_elim (λ q. Memᴰ.tail (in-reverse s q)) (λ q. Memᴰ.head (Memᴰ.eq_of_singleton q))
    (Memᴰ.append_cases (reverse s) (subst (λ (t : List ℕ). x ∈ t) (reverse-cons y s) m))

pub reverse-in : (s : List ℕ) {x : ℕ} → x ∈ s → x ∈ reverse s
reverse-in s {x} m = in-reverse (reverse s) (subst (λ (t : List ℕ). x ∈ t) (sym (reverse-reverse s)) m)

-- the cells of a ring are those of the reversed one
pub ring-reverse : (k : ℕ) (s : List ℕ) {x : ℕ} → x ∈ (k ∷ reverse s) → x ∈ (k ∷ s)
ring-reverse k s (Memᴰ.head e) = Memᴰ.head e
ring-reverse k s (Memᴰ.tail m) = Memᴰ.tail (in-reverse s m)

pub all-reverse : (P : ℕ → Type 0) (s : List ℕ) → All P s → All P (reverse s)
all-reverse P s h = in_all P (reverse s) (λ x m. all_in P s h (in-reverse s m))

pub different-reverse : (s : List ℕ) → Different s → Different (reverse s)
different-reverse [] d = tt
different-reverse (y ∷ s) d =
    subst Different (sym (reverse-cons y s))
    (different-append (reverse s) (y ∷ []) (different-reverse s d.1) ((λ m. elim m [ ]), tt)
    (λ x m m'. d.0 (subst (λ (c : ℕ). c ∈ s) (Memᴰ.eq_of_singleton m') (in-reverse s m))))

-- what back links lead through is their trail, reversed, and its members are different
module _ (link : ℕ → ℕ) (inside : ℕ → Bool) where
  pub backs-trail
      : (n x : ℕ) (s : List ℕ) (z : ℕ) → All (λ y. inside y ≡ true) s → inside x ≡ false → Backward link x s z → length s ≤ n
      → reverse (trail link inside n (link z)) ≡ s
  backs-trail n x s z h o p k =
      ap reverse (leads-trail link inside n z (reverse s) x (all-reverse (λ y. inside y ≡ true) s h) o (backward-forward link x s z p)
      (omega (arith, length-reverse s)))
      ∙ reverse-reverse s

  pub backs-different
      : (x : ℕ) (s : List ℕ) (z : ℕ) → All (λ y. inside y ≡ true) s → inside x ≡ false → Backward link x s z → Different s
  backs-different x s z h o p =
      subst Different (reverse-reverse s)
      (different-reverse (reverse s)
      (leads-different link inside z (reverse s) x (all-reverse (λ y. inside y ≡ true) s h) o (backward-forward link x s z p)))
