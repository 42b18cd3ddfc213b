-- Links followed one after another: along a sequence from its first member on, or from its last member back.
use Prim.Native.Nat.{ℕ, zero, suc, ◌+◌, ◌≤◌, ◌<◌}
use mathlib.Core.Path.{◌≡◌, refl, ap, ◌∙◌, sym}
use mathlib.Core.List.{List, [], ◌∷◌, ◌++◌}
use native.Mathlib.Omega.{arith}
use lib.ListN.{length, get_or, get_or-append}
use lib.Seq.{get_or-append-add}
use Rattle.sequences.specs.Sequence.{steps, Forward, Backward, follow}

-- no link to follow, and one more: the rest from the cell that the first leads to
pub follow-none : (f : ℕ → ℕ) (n c : ℕ) → n ≡ 0 → follow f n c ≡ c
unfolding follow
follow-none f n c e = rw e

pub follow-next : (f : ℕ → ℕ) (n c : ℕ) → follow f (suc n) c ≡ follow f n (f c)
unfolding follow
follow-next f n c = refl

-- the last link
follow-last : (f : ℕ → ℕ) (n c : ℕ) → follow f (suc n) c ≡ f (follow f n c)
unfolding follow
follow-last f zero c = refl
follow-last f (suc n) c = follow-last f n (f c)

-- forward: member i is i links from the first
pub follow-forward : (f : ℕ → ℕ) (x : ℕ) (s : List ℕ) (z i : ℕ) → Forward f x s z → i < length s → follow f i (f x) ≡ get_or s i 0
unfolding follow steps
follow-forward f x [] z i p h = absurd (omega arith)
follow-forward f x (y ∷ s) z zero p h = p.0
follow-forward f x (y ∷ s) z (suc i) p h =
    ap (λ (c : ℕ). follow f i (f c)) p.0 ∙ follow-forward f y s z i p.1 (omega arith)

-- the cell at a position leads back to the one in front of it
pub backward-at : (g : ℕ → ℕ) (x : ℕ) (s : List ℕ) (z p : ℕ) → Backward g x s z → p ≤ length s → g (get_or (s ++ z ∷ []) p 0) ≡ get_or (x ∷ s) p 0
unfolding steps
backward-at g x [] z zero b h = b.0
backward-at g x (y ∷ s) z zero b h = b.0
backward-at g x [] z (suc p) b h = absurd (omega arith)
backward-at g x (y ∷ s) z (suc p) b h = backward-at g y s z p b.1 (omega arith)

-- back: member j is so many links from the last as members follow it
pub follow-backward : (g : ℕ → ℕ) (x : ℕ) (s : List ℕ) (z i j : ℕ) → Backward g x s z → i + suc j ≡ length s → follow g i (g z) ≡ get_or s j 0
unfolding follow
follow-backward g x s z zero j b e =
    let last : get_or (s ++ z ∷ []) (suc j) 0 ≡ z =
    ap (λ (n : ℕ). get_or (s ++ z ∷ []) n 0) (omega arith) ∙ get_or-append-add s (z ∷ []) 0 0 in
    ap g (sym last) ∙ backward-at g x s z (suc j) b (omega arith)
follow-backward g x s z (suc i) j b e =
    follow-last g i (g z)
    ∙ ap g (follow-backward g x s z i (suc j) b (omega arith) ∙ sym (get_or-append s (z ∷ []) 0 (suc j) (omega arith)))
    ∙ backward-at g x s z (suc j) b (omega arith)
