-- The members of all sequences, and the nodes in none.
use Prim.Native.Nat.{ℕ, zero, suc, ◌+◌, ◌<◌, ◌≤◌}
use mathlib.Core.Path.{◌≡◌, refl, ap, ap₂, ◌∙◌, sym, subst}
use mathlib.Core.List.Memᴰ
use mathlib.Core.List.{List, [], ◌∷◌, ◌++◌, append-nil, append_assoc, Memᴰ}
use mathlib.Core.Bool.{Bool, true, false, not, ◌&&◌, ◌||◌, and-false, and-eq-true_iff, or-true, true≢false}
use mathlib.Core.Logic.{⊎_elim}
use native.Mathlib.Omega.{arith}
use native.Mathlib.Nat.{eq-or-lt_of_le, le_of_suc-le-suc}
use lib.Dec.{eqb}
use lib.ListN.{length}
use borrow.Author.Tests.{eq-eqb, ne_eqb, eqb-true}
use Rattle.sequences.specs.Sequence.{◌∈◌, Different, range, filter}
use Rattle.sequences.proofs.Members.{in_all}
use Rattle.sequences.proofs.Range.{length-range, in-range, range-between, range-different, range-first}
use Rattle.sequences.proofs.Filter.{filter-yes, filter-no, filter-in, in-filter, filter-different, filter-length, filter_same}
use Rattle.layout.specs.declared.Layout.{Layout}
use Rattle.layout.specs.Words.{first_node, worn_ident, is_worn}
use Rattle.recovery.specs.Plan.{joined, is_in, out_of}

-- a member of joined sequences is in one of them
pub one-joined {ℓ} : {A : Type ℓ} (s : ℕ → List A) (n k : ℕ) (x : A) → k < n → Memᴰ x (s k) → Memᴰ x (joined s n)
unfolding joined
one-joined s zero k x h m = absurd (omega arith)
one-joined s (suc n) k x h m =
    ⊎_elim (λ q. Memᴰ.append_right (joined s n) (subst (λ (j : ℕ). Memᴰ x (s j)) q m)) (λ q. Memᴰ.append_left (s n) (one-joined s n k x q m))
    (eq-or-lt_of_le (le_of_suc-le-suc h))

pub joined-one {ℓ} : {A : Type ℓ} (s : ℕ → List A) (n : ℕ) (x : A) → Memᴰ x (joined s n) → (k : ℕ) × (k < n) × Memᴰ x (s k)
unfolding joined
joined-one s zero x m = absurd (elim m [ ])
joined-one s (suc n) x m =
    ⊎_elim (λ q. let r = joined-one s n x q in (r.0, omega (arith, r.1), r.2)) (λ q. (n, omega arith, q))
    (Memᴰ.append_cases (joined s n) m)

-- sequences that are the same below n, joined
pub joined_same {ℓ} : {A : Type ℓ} (s t : ℕ → List A) (n : ℕ) → ((k : ℕ) → k < n → s k ≡ t k) → joined s n ≡ joined t n
unfolding joined
joined_same s t zero h = refl
joined_same s t (suc n) h = ap₂ ◌++◌ (joined_same s t n (λ k q. h k (omega arith))) (h n (omega arith))

-- those below k, that of k, and the rest
pub joined-split {ℓ} : {A : Type ℓ} (s : ℕ → List A) (n k : ℕ) → k < n → (rest : List A) × (joined s n ≡ joined s k ++ (s k ++ rest))
unfolding joined
joined-split s zero k h = absurd (omega arith)
joined-split s (suc n) k h =
    ⊎_elim (λ q. ([], ap (λ (j : ℕ). joined s j ++ s j) (sym q) ∙ ap (λ (t : List _). joined s k ++ t) (sym (append-nil (s k)))))
    (λ q.
    let r = joined-split s n k q in (
      r.0 ++ s n,
      ap (λ (t : List _). t ++ s n) r.1 ∙ append_assoc (joined s k) (s k ++ r.0) (s n) ∙ ap (λ (t : List _). joined s k ++ t) (append_assoc (s k) r.0 (s n)),
    ))
    (eq-or-lt_of_le (le_of_suc-le-suc h))

-- a node in none of the sequences is no cell of a list
pub ring_out : (l : Layout) (s : ℕ → List ℕ) (k c : ℕ) → k < l.lists → first_node l ≤ c → (c ∈ joined s l.lists → ⊥) → c ∈ (k ∷ s k) → ⊥
ring_out l s k c h low out (Memᴰ.head e) = omega arith
ring_out l s k c h low out (Memᴰ.tail m) = out (one-joined s l.lists k c h m)

-- membership as it is tested
in-is_in : (x : ℕ) (s : List ℕ) → x ∈ s → is_in x s ≡ true
unfolding is_in
in-is_in x (y ∷ s) (Memᴰ.head e) = rw (eq-eqb x y e)
in-is_in x (y ∷ s) (Memᴰ.tail m) = rw (in-is_in x s m) (or-true (eqb x y))
in-is_in x [] x'' = elim x'' [ ]

is_in-in : (x : ℕ) (s : List ℕ) → is_in x s ≡ true → x ∈ s
unfolding is_in
is_in-in x [] e = absurd (true≢false (sym e))
is_in-in x (y ∷ s) e = by (λ q. is_in-in x s q) (eqb x y) refl e
  where
    by : (is_in x s ≡ true → x ∈ s) → (b : Bool) → eqb x y ≡ b → (b || is_in x s) ≡ true → x ∈ (y ∷ s)
    by below true q z = Memᴰ.head (eqb-true x y q)
    by below false q z = Memᴰ.tail (below z)

not-is_in : (x : ℕ) (s : List ℕ) → (x ∈ s → ⊥) → is_in x s ≡ false
not-is_in x s n = by (is_in x s) refl
  where
    by : (b : Bool) → is_in x s ≡ b → b ≡ false
    by true e = absurd (n (is_in-in x s e))
    by false e = refl

-- the cells that are no members and not worn, one by one
module _ (ident : ℕ → ℕ) (ms : List ℕ) where
  abbrev is_out : ℕ → Bool
  is_out c = not (is_in c ms) && not (is_worn (ident c))

  unworn : (x : ℕ) → (ident x ≡ worn_ident → ⊥) → not (is_worn (ident x)) ≡ true
  unworn x n = ap not (ne_eqb (ident x) worn_ident n)

  pub out-member : (a n : ℕ) → a ∈ ms → out_of ident ms a (suc n) ≡ out_of ident ms (suc a) n
  out-member a n m =
      ap (filter is_out) (range-first a n)
      ∙ filter-no is_out a (range (suc a) n) (ap (λ (b : Bool). not b && not (is_worn (ident a))) (in-is_in a ms m))

  pub out-worn : (a n : ℕ) → ident a ≡ worn_ident → out_of ident ms a (suc n) ≡ out_of ident ms (suc a) n
  out-worn a n z =
      ap (filter is_out) (range-first a n)
      ∙ filter-no is_out a (range (suc a) n)
      (ap (λ (b : Bool). not (is_in a ms) && not b) (eq-eqb (ident a) worn_ident z) ∙ and-false (not (is_in a ms)))

  pub out-other : (a n : ℕ) → (a ∈ ms → ⊥) → (ident a ≡ worn_ident → ⊥) → out_of ident ms a (suc n) ≡ a ∷ out_of ident ms (suc a) n
  out-other a n o z =
      ap (filter is_out) (range-first a n)
      ∙ filter-yes is_out a (range (suc a) n) ((and-eq-true_iff _ _).1 (ap not (not-is_in a ms o), unworn a z))

  pub out-is : (a n x : ℕ) → x ∈ out_of ident ms a n → (a ≤ x) × (x < a + n) × (x ∈ ms → ⊥) × (ident x ≡ worn_ident → ⊥)
  out-is a n x m =
      let r = filter-in is_out (range a n) x m in
      let b = range-between a n x r.0 in
      let t = (and-eq-true_iff (not (is_in x ms)) (not (is_worn (ident x)))).0 r.1 in
      (b.0, b.1, (λ q. true≢false (sym t.0 ∙ ap not (in-is_in x ms q))), λ z. true≢false (sym t.1 ∙ ap not (eq-eqb (ident x) worn_ident z)))

  pub is-out : (a n x : ℕ) → a ≤ x → x < a + n → (x ∈ ms → ⊥) → (ident x ≡ worn_ident → ⊥) → x ∈ out_of ident ms a n
  is-out a n x p q o z =
      in-filter is_out (range a n) x (in-range a n x p q) ((and-eq-true_iff _ _).1 (ap not (not-is_in x ms o), unworn x z))

  pub out-different : (a n : ℕ) → Different (out_of ident ms a n)
  out-different a n = filter-different is_out (range a n) (range-different a n)

  pub out-few : (a n : ℕ) → length (out_of ident ms a n) ≤ n
  out-few a n = omega (arith, filter-length is_out (range a n), length-range a n)

-- with the same of them worn
pub out-same : (ident ident' : ℕ → ℕ) (ms : List ℕ) (a n : ℕ)
    → ((x : ℕ) → a ≤ x → x < a + n → (x ∈ ms → ⊥) → is_worn (ident' x) ≡ is_worn (ident x)) → out_of ident' ms a n ≡ out_of ident ms a n
out-same ident ident' ms a n h =
    filter_same (is_out ident ms) (is_out ident' ms) (range a n)
    (in_all _ (range a n) (λ x m. let b = range-between a n x m in by x (is_in x ms) refl (h x b.0 b.1)))
  where
    by : (x : ℕ) (b : Bool) → is_in x ms ≡ b → ((x ∈ ms → ⊥) → is_worn (ident' x) ≡ is_worn (ident x))
        → (not b && not (is_worn (ident' x))) ≡ (not b && not (is_worn (ident x)))
    by x true e k = refl
    by x false e k = ap not (k (λ m. true≢false (sym (in-is_in x ms m) ∙ e)))

-- told by another test
pub out-told : (ident : ℕ → ℕ) (ms : List ℕ) (test : ℕ → Bool) (a n : ℕ) → ((x : ℕ) → a ≤ x → x < a + n → x ∈ ms → test x ≡ false)
    → ((x : ℕ) → a ≤ x → x < a + n → (x ∈ ms → ⊥) → test x ≡ not (is_worn (ident x))) → filter test (range a n) ≡ out_of ident ms a n
out-told ident ms test a n h g =
    filter_same (is_out ident ms) test (range a n)
    (in_all _ (range a n) (λ x m. let b = range-between a n x m in by x (is_in x ms) refl (h x b.0 b.1) (g x b.0 b.1)))
  where
    by : (x : ℕ) (b : Bool) → is_in x ms ≡ b → (x ∈ ms → test x ≡ false) → ((x ∈ ms → ⊥) → test x ≡ not (is_worn (ident x)))
        → test x ≡ (not b && not (is_worn (ident x)))
    by x true e p q = p (is_in-in x ms e)
    by x false e p q = q (λ m. true≢false (sym (in-is_in x ms m) ∙ e))
