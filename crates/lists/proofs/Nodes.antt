-- Every node is free, worn or in use, by its identifier.
use Prim.Native.Nat.{ℕ, zero, suc, ◌+◌, ◌<◌, ◌≤◌}
use mathlib.Core.Path.{◌≡◌, refl, ap, ◌∙◌, sym}
use mathlib.Core.List.{List, ◌∷◌}
use mathlib.Core.Bool.{Bool, true, false, not, cond, ◌||◌, or-true, true≢false}
use native.Mathlib.Omega.{arith}
use lib.ListN.{length, get_or}
use borrow.Author.Tests.{eq-eqb, eqb-true}
use Rattle.sequences.specs.Sequence.{◌∈◌, range, filter}
use Rattle.sequences.proofs.Range.{length-range, in-range, range-between}
use Rattle.sequences.proofs.Filter.{filter-in, in-filter, filter-length}
use Rattle.layout.specs.declared.Layout.{Layout}
use Rattle.layout.specs.Words.{most_lists, InRange, ident_at, ident_of, worn_ident, Unlisted, free, worn, is_free, is_worn, in_use}
use Rattle.lists.specs.Lists.{IsList}
use Rattle.lists.specs.Decide.{View, cells_with, used}
use Rattle.lists.proofs.Unique.{member-ident}

-- what the identifier of a node says
pub in-use : (x : ℕ) → in_use x ≡ true → Unlisted x → ⊥
in-use x e (free z) = true≢false (sym e ∙ rw (eq-eqb x 0 z))
in-use x e (worn z) = true≢false (sym e ∙ ap (λ (b : Bool). not (is_free x || b)) (eq-eqb x worn_ident z) ∙ ap not (or-true (is_free x)))

pub unused : (x : ℕ) → in_use x ≡ false → Unlisted x
unused x e = by (is_free x) (is_worn x) refl refl e
  where
    by : (b d : Bool) → is_free x ≡ b → is_worn x ≡ d → not (b || d) ≡ false → Unlisted x
    by true d p q z = free (eqb-true x 0 p)
    by false true p q z = worn (eqb-true x worn_ident q)
    by false false p q z = absurd (true≢false z)

pub use-in : (x : ℕ) → (Unlisted x → ⊥) → in_use x ≡ true
use-in x n = by (in_use x) refl
  where
    by : (b : Bool) → in_use x ≡ b → b ≡ true
    by true e = refl
    by false e = absurd (n (unused x e))

-- a list's identifier is that of a node in use
pub ident-used : {k x : ℕ} → k < most_lists → x ≡ ident_of k → Unlisted x → ⊥
ident-used h e (free z) = omega (arith, e, z)
ident-used h e (worn z) = omega (arith, e, z)

pub list-used : {l : Layout} {k x : ℕ} → InRange l → k < l.lists → x ≡ ident_of k → Unlisted x → ⊥
list-used r h = ident-used (omega (arith, h, r.lists))

-- so a free or worn node is no member
pub unlisted-out : (l : Layout) (w : List ℕ) (k : ℕ) (s : List ℕ) → InRange l → k < l.lists → IsList l w k s
    → (c : ℕ) → Unlisted (get_or w (ident_at l c) 0) → c ∈ s → ⊥
unlisted-out l w k s r h i c u m = list-used r h (member-ident l w k s c i m) u

-- nodes counted by a test are as many at most as there are cells
pub cells-few : (test : ℕ → Bool) (v : View) (a n : ℕ) → length (cells_with test v a n) ≤ n
cells-few test v a n = omega (arith, filter-length (λ c. test (v.ident c)) (range a n), length-range a n)

-- how many pass, with cell a, which passes if b says so
abbrev with : Bool → ℕ → List ℕ → ℕ
with b a rest = length (cond b (a ∷ rest) rest)

-- the free, the worn and those in use are all
pub cells-sum : (v : View) (a n : ℕ) → length (cells_with is_free v a n) + (length (cells_with is_worn v a n) + length (used v a n)) ≡ n
unfolding range filter
cells-sum v a zero = refl
cells-sum v a (suc n) = by (is_free (v.ident a)) (is_worn (v.ident a)) refl refl (cells-sum v (suc a) n)
  where
    by : (b d : Bool) → is_free (v.ident a) ≡ b → is_worn (v.ident a) ≡ d
        → length (cells_with is_free v (suc a) n) + (length (cells_with is_worn v (suc a) n) + length (used v (suc a) n)) ≡ n
        → with b a (cells_with is_free v (suc a) n) + (with d a (cells_with is_worn v (suc a) n) + with (not (b || d)) a (used v (suc a) n)) ≡ suc n
    by true true p q e = absurd (omega (arith, eqb-true (v.ident a) 0 p, eqb-true (v.ident a) worn_ident q))
    by true false p q e = omega arith
    by false true p q e = omega arith
    by false false p q e = omega arith

-- the nodes in use: those between the ends whose identifier says so, each once
pub used-is : (v : View) (a n x : ℕ) → x ∈ used v a n → (a ≤ x) × (x < a + n) × (Unlisted (v.ident x) → ⊥)
used-is v a n x m =
    let r = filter-in (λ c. in_use (v.ident c)) (range a n) x m in
    let b = range-between a n x r.0 in
    (b.0, b.1, in-use (v.ident x) r.1)

pub is-used : (v : View) (a n x : ℕ) → a ≤ x → x < a + n → (Unlisted (v.ident x) → ⊥) → x ∈ used v a n
is-used v a n x h k z = in-filter (λ c. in_use (v.ident c)) (range a n) x (in-range a n x h k) (use-in (v.ident x) z)
