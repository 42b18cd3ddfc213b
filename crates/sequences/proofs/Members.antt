-- Laws of membership, of `All` and of `Different`.
use Prim.Native.Nat.{ℕ, zero, suc, ◌<◌}
use mathlib.Core.Path.{◌≡◌, refl, ap, ◌∙◌, sym, subst}
use mathlib.Core.List.Memᴰ
use mathlib.Core.List.{List, [], ◌∷◌, ◌++◌, map, Memᴰ}
use mathlib.Core.Logic.{◌⊎◌, inl, inr, ⊎_elim}
use native.Mathlib.Decide.{ℕ_discrete}
use native.Mathlib.Omega.{arith}
use lib.ListN.{length, get_or, take, drop}
use Rattle.sequences.specs.Sequence.{◌∈◌, All, Different}

-- a property of every member holds of a member
pub all-at {ℓ} : {A : Type ℓ} (P : A → Type 0) (s : List A) {x : A} → All P s → Memᴰ x s → (y : A) × (x ≡ y) × P y
all-at P (y ∷ s) h (Memᴰ.head e) = (y, e, h.0)
all-at P (y ∷ s) h (Memᴰ.tail m) = all-at P s h.1 m
all-at {A = A} P [] h x4 = elim x4 [ ]

pub all_in {ℓ} : {A : Type ℓ} (P : A → Type 0) (s : List A) {x : A} → All P s → Memᴰ x s → P x
all_in P s h m = let r = all-at P s h m in subst P (sym r.1) r.2

pub in_all {ℓ} : {A : Type ℓ} (P : A → Type 0) (s : List A) → ((x : A) → Memᴰ x s → P x) → All P s
in_all P [] h = tt
in_all P (x ∷ s) h = (h x (Memᴰ.head refl), in_all P s (λ y m. h y (Memᴰ.tail m)))

pub all_append {ℓ} : {A : Type ℓ} (P : A → Type 0) (s t : List A) → All P s → All P t → All P (s ++ t)
all_append P [] t h k = k
all_append P (x ∷ s) t h k = (h.0, all_append P s t h.1 k)

pub append-all {ℓ} : {A : Type ℓ} (P : A → Type 0) (s t : List A) → All P (s ++ t) → All P s × All P t
append-all P [] t h = (tt, h)
append-all P (x ∷ s) t h = let r = append-all P s t h.1 in ((h.0, r.0), r.1)

pub all_take {ℓ} : {A : Type ℓ} (P : A → Type 0) (s : List A) (n : ℕ) → All P s → All P (take n s)
all_take P s zero h = tt
all_take P [] (suc n) h = tt
all_take P (x ∷ s) (suc n) h = (h.0, all_take P s n h.1)

pub all_drop {ℓ} : {A : Type ℓ} (P : A → Type 0) (s : List A) (n : ℕ) → All P s → All P (drop n s)
all_drop P s zero h = h
all_drop P [] (suc n) h = tt
all_drop P (x ∷ s) (suc n) h = all_drop P s n h.1

-- membership is decided
pub member? : (x : ℕ) (s : List ℕ) → (x ∈ s) ⊎ (x ∈ s → ⊥)
member? x [] = inr (λ m. elim m [ ])
member? x (y ∷ s) = by (ℕ_discrete x y) (member? x s)
  where
    cases : (x ∈ s → ⊥) → (x ≡ y → ⊥) → x ∈ (y ∷ s) → ⊥
    cases h k (Memᴰ.head e) = k e
    cases h k (Memᴰ.tail m) = h m

    by : Dec (x ≡ y) → (x ∈ s) ⊎ (x ∈ s → ⊥) → (x ∈ (y ∷ s)) ⊎ (x ∈ (y ∷ s) → ⊥)
    by (yes e) r = inl (Memᴰ.head e)
    by (no k) (inl m) = inl (Memᴰ.tail m)
    by (no k) (inr h) = inr (cases h k)

-- what is decided of each member is decided of all: every one has the property, or one has it not
pub every? : (P : ℕ → Type 0) → ((x : ℕ) → P x ⊎ (P x → ⊥)) → (s : List ℕ) → ((x : ℕ) → x ∈ s → P x) ⊎ ((x : ℕ) × (x ∈ s) × (P x → ⊥))
every? P d [] = inl (λ x m. absurd (elim m [ ]))
every? P d (y ∷ s) = by (d y) (every? P d s)
  where
    both : P y → ((x : ℕ) → x ∈ s → P x) → (x : ℕ) → x ∈ (y ∷ s) → P x
    both p h x (Memᴰ.head e) = subst P (sym e) p
    both p h x (Memᴰ.tail m) = h x m

    by : P y ⊎ (P y → ⊥) → ((x : ℕ) → x ∈ s → P x) ⊎ ((x : ℕ) × (x ∈ s) × (P x → ⊥))
        → ((x : ℕ) → x ∈ (y ∷ s) → P x) ⊎ ((x : ℕ) × (x ∈ (y ∷ s)) × (P x → ⊥))
    by (inr n) r = inr (y, Memᴰ.head refl, n)
    by (inl p) (inr r) = inr (r.0, Memᴰ.tail r.1, r.2)
    by (inl p) (inl h) = inl (both p h)

-- the member at a position
pub at_in : (s : List ℕ) (i : ℕ) → i < length s → get_or s i 0 ∈ s
at_in [] i h = absurd (omega arith)
at_in (x ∷ s) zero h = Memᴰ.head refl
at_in (x ∷ s) (suc i) h = Memᴰ.tail (at_in s i (omega arith))

pub all-nth {ℓ} : {A : Type ℓ} (P : A → Type 0) (s : List A) (i : ℕ) (d : A) → All P s → i < length s → P (get_or s i d)
all-nth P [] i d h k = absurd (omega arith)
all-nth P (x ∷ s) zero d h k = h.0
all-nth P (x ∷ s) (suc i) d h k = all-nth P s i d h.1 (omega arith)

-- two sequences of different members that share none, one behind the other
pub different-append : (s t : List ℕ) → Different s → Different t → ((x : ℕ) → x ∈ s → x ∈ t → ⊥) → Different (s ++ t)
different-append [] t ds dt h = dt
different-append (x ∷ s) t ds dt h = (
  λ m. ⊎_elim ds.0 (h x (Memᴰ.head refl)) (Memᴰ.append_cases s m),
  different-append s t ds.1 dt (λ y m. h y (Memᴰ.tail m)),
)

-- where the images are different, an image is of one member
pub one-image {ℓ} : {A : Type ℓ} (f : A → ℕ) (s : List A) → Different (map f s) → {x y : A} → Memᴰ x s → Memᴰ y s → f x ≡ f y → x ≡ y
one-image f (z ∷ s) d (Memᴰ.head e) (Memᴰ.head e') q = e ∙ sym e'
one-image f (z ∷ s) d (Memᴰ.head e) (Memᴰ.tail m) q = absurd (d.0 (Memᴰ.cast (ap f (sym e) ∙ q) (Memᴰ.map f m)))
one-image f (z ∷ s) d (Memᴰ.tail m) (Memᴰ.head e) q = absurd (d.0 (Memᴰ.cast (ap f (sym e) ∙ sym q) (Memᴰ.map f m)))
one-image f (z ∷ s) d (Memᴰ.tail m) (Memᴰ.tail m') q = one-image f s d.1 m m' q
one-image {A = A} f [] d {y = y} x6 _ q = elim x6 [ ]

-- a cell in front of a sequence or behind it
pub in-front : (k : ℕ) (s : List ℕ) {x : ℕ} → x ∈ (s ++ k ∷ []) → x ∈ (k ∷ s)
in-front k s m = ⊎_elim Memᴰ.tail (λ q. Memᴰ.head (Memᴰ.eq_of_singleton q)) (Memᴰ.append_cases s m)

pub in-behind : (k : ℕ) (s : List ℕ) {x : ℕ} → x ∈ (k ∷ s) → x ∈ (s ++ k ∷ [])
in-behind k s (Memᴰ.head e) = Memᴰ.append_right s (Memᴰ.head e)
in-behind k s (Memᴰ.tail m) = Memᴰ.append_left (k ∷ []) m

-- different members at different positions
pub different-at : (s : List ℕ) (i j : ℕ) → Different s → i < j → j < length s → get_or s i 0 ≡ get_or s j 0 → ⊥
different-at [] i j d h k e = omega arith
different-at (x ∷ s) i zero d h k e = omega arith
different-at (x ∷ s) zero (suc j) d h k e = d.0 (subst (λ (y : ℕ). y ∈ s) (sym e) (at_in s j (omega arith)))
different-at (x ∷ s) (suc i) (suc j) d h k e = different-at s i j d.1 (omega arith) (omega arith) e

-- without one member
pub in-with : (r : List ℕ) (c : ℕ) (t : List ℕ) {x : ℕ} → x ∈ (r ++ t) → x ∈ (r ++ c ∷ t)
in-with r c t m = ⊎_elim (λ q. Memᴰ.append_left (c ∷ t) q) (λ q. Memᴰ.append_right r (Memᴰ.tail q)) (Memᴰ.append_cases r m)

pub different-without : (r : List ℕ) (c : ℕ) (t : List ℕ) → Different (r ++ c ∷ t) → Different (r ++ t)
different-without [] c t d = d.1
different-without (x ∷ r) c t d = ((λ m. d.0 (in-with r c t m)), different-without r c t d.1)

-- the member left out is not among the others
pub out-without : (r : List ℕ) (c : ℕ) (t : List ℕ) → Different (r ++ c ∷ t) → c ∈ (r ++ t) → ⊥
out-without [] c t d m = d.0 m
out-without (x ∷ r) c t d (Memᴰ.head e) = d.0 (subst (λ (y : ℕ). y ∈ (r ++ c ∷ t)) e (Memᴰ.append_right r (Memᴰ.head refl)))
out-without (x ∷ r) c t d (Memᴰ.tail m) = out-without r c t d.1 m
