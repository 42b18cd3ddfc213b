-- A walk arrives where its links lead, if the budget is enough for them.
use Rattle.std.specs.Prelude.{Some, None}
use Prim.Native.Nat.{ℕ, zero, suc, ◌+◌, ◌-◌, ◌<◌, ◌≤◌}
use mathlib.Core.Path.{◌≡◌, refl, ap, ◌∙◌, sym, subst}
use mathlib.Core.Bool.{Bool, true, false}
use native.Mathlib.Omega.{arith}
use borrow.Author.Tests.{eq-eqb, ne_eqb, le-leb, lt-leb}
use Rattle.sequences.specs.Sequence.{follow}
use Rattle.sequences.proofs.Follow.{follow-none, follow-next}
use Rattle.layout.specs.declared.Layout.{Layout}
use Rattle.layout.specs.Words.{Node}
use Rattle.lists.specs.Decide.{View}
use Rattle.layout.specs.declared.Cell.{Cell}
use Rattle.spans.specs.Spans.{cell_in}
use Rattle.seeks.specs.declared.Seek.{Seek}
use Rattle.seeks.specs.Seeks.{nearer, stepped, run_with, link_of, Inside}

-- what a walk comes to is one cell, or spent
pub at_same : {x y : ℕ} → Some x ≡ Some y → x ≡ y
at_same e = cc e

pub at-spent : {x : ℕ} → Some x ≡ None → ⊥
at-spent e = let z : ◌≡◌ {A = ℕ} 0 1 = cc in absurd (omega arith)

-- the two ways round a ring
pub nearer-ahead : (k n q : ℕ) → q ≤ n - q → nearer k n q ≡ record { at = k; left = q; ahead = true }
unfolding nearer
nearer-ahead k n q h = rw (le-leb _ _ h)

pub nearer-behind : (k n q : ℕ) → n - q < q → nearer k n q ≡ record { at = k; left = n + 1 - q; ahead = false }
unfolding nearer
nearer-behind k n q h = rw (lt-leb _ _ h)

-- the two links of a cell
module _ (c : Cell) (t : Seek) {x : ℕ} where
  pub stepped-ahead : t.ahead ≡ true → x ≡ c.forward → record { at = x; left = t.left - 1; ahead = t.ahead } ≡ stepped c t
  stepped-ahead e q = ap (λ (y : ℕ). record { at = y; left = t.left - 1; ahead = t.ahead }) (q ∙ rw e)

  pub stepped-back : t.ahead ≡ false → x ≡ c.back → record { at = x; left = t.left - 1; ahead = t.ahead } ≡ stepped c t
  stepped-back e q = ap (λ (y : ℕ). record { at = y; left = t.left - 1; ahead = t.ahead }) (q ∙ rw e)

module _ (v : View) (t : Seek) where
  -- no link is left; one is, and no budget; or both are
  pub run-arrived : (b : ℕ) → t.left ≡ 0 → run_with v b t ≡ Some t.at
  unfolding run_with
  run-arrived zero e = rw (eq-eqb t.left 0 e)
  run-arrived (suc b) e = rw (eq-eqb t.left 0 e)

  pub run-spent : (b : ℕ) → 0 < t.left → b ≡ 0 → run_with v b t ≡ None
  unfolding run_with
  run-spent b h e = rw (e, ne_eqb t.left 0 (λ q. omega arith))

  pub run_step : (b : ℕ) → 0 < t.left → 0 < b → run_with v b t ≡ run_with v (b - 1) (stepped (cell_in v t.at) t)
  unfolding run_with
  run_step b h g =
      let m : b ≡ suc (b - 1) = omega arith in
      ap (λ (x : ℕ). run_with v x t) m ∙ rw (ne_eqb t.left 0 (λ q. omega arith))

  -- where it stands, and from the next cell on
  pub inside-here : (l : Layout) → Inside l v t → 0 < t.left → Node l t.at
  inside-here l h g = subst (Node l) (follow-none (link_of v t.ahead) 0 t.at refl) (h 0 g)

  pub inside-step : (l : Layout) → Inside l v t → Inside l v (stepped (cell_in v t.at) t)
  inside-step l h i g =
      subst (Node l) (follow-next (link_of v t.ahead) i t.at) (h (suc i) (omega (arith, g)))

-- a walk of n links from cell c: a budget of n or more arrives where they lead, a smaller one is spent
module _ (v : View) (ahead : Bool) where
  abbrev walk : ℕ → ℕ → Seek
  walk c n = record { at = c; left = n; ahead = ahead }

  pub walk-arrives : (b n c : ℕ) → n ≤ b → run_with v b (walk c n) ≡ Some (follow (link_of v ahead) n c)
  walk-arrives b zero c h = run-arrived v (walk c zero) b refl ∙ ap Some (sym (follow-none (link_of v ahead) 0 c refl))
  walk-arrives b (suc n) c h =
      run_step v (walk c (suc n)) b (omega arith) (omega arith)
      ∙ ap (λ (x : ℕ). run_with v (b - 1) (walk (link_of v ahead c) x)) (omega arith)
      ∙ walk-arrives (b - 1) n (link_of v ahead c) (omega arith)
      ∙ ap Some (sym (follow-next (link_of v ahead) n c))

  pub walk-spent : (b n c : ℕ) → b < n → run_with v b (walk c n) ≡ None
  walk-spent zero n c h = run-spent v (walk c n) 0 h refl
  walk-spent (suc b) n c h =
      run_step v (walk c n) (suc b) (omega arith) (omega arith)
      ∙ ap (λ (x : ℕ). run_with v x (walk (link_of v ahead c) (n - 1))) (omega arith)
      ∙ walk-spent b (n - 1) (link_of v ahead c) (omega arith)
