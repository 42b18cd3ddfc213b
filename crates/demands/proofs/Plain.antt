-- Laws of plain sequences: a map goes through insert_at, splice_at, delete_at and positions.
use Prim.Native.Nat.{ℕ, zero, suc, ◌+◌, ◌<◌, ◌≤◌}
use mathlib.Core.Path.{◌≡◌, refl, ap, ap₂, ◌∙◌}
use mathlib.Core.List.Memᴰ
use mathlib.Core.List.{List, [], ◌∷◌, ◌++◌, map, map-append}
use native.Mathlib.Omega.{arith}
use lib.ListN.{length, get_or, take, drop, length-map, get_or-eq_default}
use Rattle.sequences.specs.Sequence.{◌∈◌}
use Rattle.edits.specs.Edited.{insert_at, splice_at, delete_at}

module _ {ℓ ℓ'} {A : Type ℓ} {B : Type ℓ'} (f : A → B) where
  map-take : (n : ℕ) (s : List A) → map f (take n s) ≡ take n (map f s)
  map-take zero s = refl
  map-take (suc n) [] = refl
  map-take (suc n) (x ∷ s) = ap (λ (t : List B). f x ∷ t) (map-take n s)

  map-drop : (n : ℕ) (s : List A) → map f (drop n s) ≡ drop n (map f s)
  map-drop zero s = refl
  map-drop (suc n) [] = refl
  map-drop (suc n) (x ∷ s) = map-drop n s

  pub map-insert : (p : ℕ) (x : A) (s : List A) → map f (insert_at p x s) ≡ insert_at p (f x) (map f s)
  map-insert p x s =
      map-append f (take p s) (x ∷ drop p s) ∙ ap₂ (λ (a b : List B). a ++ f x ∷ b) (map-take p s) (map-drop p s)

  pub map-splice : (p : ℕ) (xs s : List A) → map f (splice_at p xs s) ≡ splice_at p (map f xs) (map f s)
  map-splice p xs s =
      map-append f (take p s) (xs ++ drop p s)
      ∙ ap₂ (λ (a b : List B). a ++ b) (map-take p s) (map-append f xs (drop p s) ∙ ap (λ (b : List B). map f xs ++ b) (map-drop p s))

  pub map-delete : (p : ℕ) (s : List A) → map f (delete_at p s) ≡ delete_at p (map f s)
  map-delete p s =
      map-append f (take p s) (drop (p + 1) s) ∙ ap₂ (λ (a b : List B). a ++ b) (map-take p s) (map-drop (p + 1) s)

  -- before the end and behind it
  pub map_at : (s : List A) (p : ℕ) (d : A) (e : B) → p < length s → get_or (map f s) p e ≡ f (get_or s p d)
  map_at [] p d e h = absurd (omega arith)
  map_at (x ∷ s) zero d e h = refl
  map_at (x ∷ s) (suc p) d e h = map_at s p d e (omega arith)

  pub map-behind : (s : List A) (p : ℕ) (e : B) → length s ≤ p → get_or (map f s) p e ≡ e
  map-behind s p e h = get_or-eq_default (map f s) e (omega (arith, length-map s f))

-- maps that agree on the members
pub map_same {ℓ} : {B : Type ℓ} (f g : ℕ → B) (s : List ℕ) → ((x : ℕ) → x ∈ s → f x ≡ g x) → map f s ≡ map g s
map_same f g [] h = refl
map_same {B = B} f g (x ∷ s) h =
    ap₂ (λ (a : B) (t : List B). a ∷ t) (h x (Memᴰ.head refl)) (map_same f g s (λ y m. h y (Memᴰ.tail m)))
