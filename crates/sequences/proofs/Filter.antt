-- The members of a sequence that pass a test.
use Prim.Native.Nat.{ℕ, suc, ◌≤◌}
use mathlib.Core.Path.{◌≡◌, refl, ap, ◌∙◌, sym}
use mathlib.Core.List.Memᴰ
use mathlib.Core.List.{List, [], ◌∷◌, ◌++◌}
use mathlib.Core.Bool.{Bool, true, false, cond, true≢false}
use native.Mathlib.Omega.{arith}
use lib.ListN.{length}
use Rattle.sequences.specs.Sequence.{◌∈◌, All, Different, filter}

-- none of no members; a first member that passes, or not
pub filter-nil : (test : ℕ → Bool) → filter test [] ≡ []
unfolding filter
filter-nil test = refl

pub filter-yes : (test : ℕ → Bool) (x : ℕ) (s : List ℕ) → test x ≡ true → filter test (x ∷ s) ≡ x ∷ filter test s
unfolding filter
filter-yes test x s e = rw e

pub filter-no : (test : ℕ → Bool) (x : ℕ) (s : List ℕ) → test x ≡ false → filter test (x ∷ s) ≡ filter test s
unfolding filter
filter-no test x s e = rw e

module _ (test : ℕ → Bool) where
  -- who passes is a member that passes the test, and the other way round
  pub filter-in : (s : List ℕ) (x : ℕ) → x ∈ filter test s → (x ∈ s) × (test x ≡ true)
  unfolding filter
  filter-in [] x m = absurd (elim m [ ])
  filter-in (y ∷ s) x m = by (test y) refl (λ q. filter-in s x q) m
    where
      by : (b : Bool) → test y ≡ b → (x ∈ filter test s → (x ∈ s) × (test x ≡ true)) → x ∈ cond b (y ∷ filter test s) (filter test s)
          → (x ∈ (y ∷ s)) × (test x ≡ true)
      by true q below (Memᴰ.head e) = (Memᴰ.head e, ap test e ∙ q)
      by true q below (Memᴰ.tail m) = let r = below m in (Memᴰ.tail r.0, r.1)
      by false q below m = let r = below m in (Memᴰ.tail r.0, r.1)

  pub in-filter : (s : List ℕ) (x : ℕ) → x ∈ s → test x ≡ true → x ∈ filter test s
  unfolding filter
  in-filter [] x m e = absurd (elim m [ ])
  in-filter (y ∷ s) x m e = by (test y) refl (λ q. in-filter s x q e) m
    where
      by : (b : Bool) → test y ≡ b → (x ∈ s → x ∈ filter test s) → x ∈ (y ∷ s) → x ∈ cond b (y ∷ filter test s) (filter test s)
      by true q below (Memᴰ.head d) = Memᴰ.head d
      by true q below (Memᴰ.tail m) = Memᴰ.tail (below m)
      by false q below (Memᴰ.head d) = absurd (true≢false (sym e ∙ ap test d ∙ q))
      by false q below (Memᴰ.tail m) = below m

  pub filter-different : (s : List ℕ) → Different s → Different (filter test s)
  unfolding filter
  filter-different [] d = tt
  filter-different (x ∷ s) d = by (test x) (filter-different s d.1)
    where
      by : (b : Bool) → Different (filter test s) → Different (cond b (x ∷ filter test s) (filter test s))
      by true h = ((λ m. d.0 (filter-in s x m).0), h)
      by false h = h

  pub filter-append : (s t : List ℕ) → filter test (s ++ t) ≡ filter test s ++ filter test t
  unfolding filter
  filter-append [] t = refl
  filter-append (x ∷ s) t = by (test x) (filter-append s t)
    where
      by : (b : Bool) → filter test (s ++ t) ≡ filter test s ++ filter test t
          → cond b (x ∷ filter test (s ++ t)) (filter test (s ++ t)) ≡ cond b (x ∷ filter test s) (filter test s) ++ filter test t
      by true e = ap (λ (r : List ℕ). x ∷ r) e
      by false e = e

  -- no member passes
  pub filter_none : (s : List ℕ) → All (λ x. test x ≡ false) s → filter test s ≡ []
  filter_none [] h = filter-nil test
  filter_none (x ∷ s) h = filter-no test x s h.0 ∙ filter_none s h.1

  -- how many pass
  pub filter-length : (s : List ℕ) → length (filter test s) ≤ length s
  unfolding filter
  filter-length [] = omega arith
  filter-length (x ∷ s) = by (test x) (filter-length s)
    where
      by : (b : Bool) → length (filter test s) ≤ length s → length (cond b (x ∷ filter test s) (filter test s)) ≤ suc (length s)
      by true h = omega arith
      by false h = omega arith

-- tests that agree on the members
pub filter_same : (test other : ℕ → Bool) (s : List ℕ) → All (λ x. other x ≡ test x) s → filter other s ≡ filter test s
unfolding filter
filter_same test other [] h = refl
filter_same test other (x ∷ s) h = rw (h.0, filter_same test other s h.1)
