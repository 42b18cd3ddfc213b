-- "Show that a budget of half the list's length, rounded up, always arrives." The shorter way round the ring has at most so many links.
use Rattle.std.specs.Prelude.{Some, None}
use Prim.Native.Nat.{ℕ, suc, ◌+◌, ◌-◌, ◌<◌, ◌≤◌}
use mathlib.Core.Path.{◌≡◌, refl, ap, ◌∙◌, sym, subst, subst⁻¹}
use mathlib.Core.List.{List, ◌∷◌}
use mathlib.Core.Bool.{Bool, true, false}
use native.Mathlib.Omega.{arith}
use lib.Dec.{leb}
use lib.ListN.{length, get_or}
use borrow.Author.Tests.{leb-true, leb-false}
use Rattle.sequences.proofs.Follow.{follow-next}
use Rattle.layout.specs.declared.Layout.{Layout}
use Rattle.layout.specs.Words.{Node}
use Rattle.lists.specs.Decide.{View, sequence_in, HeldList}
use Rattle.lists.proofs.Ring.{held-count, ring-node, ring-ahead, ring-behind}
use Rattle.layout.specs.declared.Cell.{Cell}
use Rattle.spans.specs.Spans.{cell_in}
use Rattle.seeks.specs.declared.Seek.{Seek}
use Rattle.seeks.specs.Seeks.{nearer, stepped, run_with, half, Reached, Inside}
use Rattle.seeks.proofs.Walk.{nearer-ahead, nearer-behind, walk-arrives, walk-spent}

-- the walk to cell q, with what is to be said of it, ahead or behind
by_way : (k n q : ℕ) (P : Seek → Type 0) → (q ≤ n - q → P (record { at = k; left = q; ahead = true }))
    → (n - q < q → P (record { at = k; left = n + 1 - q; ahead = false })) → P (nearer k n q)
by_way k n q P f g = by (leb q (n - q)) refl
  where
    by : (b : Bool) → leb q (n - q) ≡ b → P (nearer k n q)
    by true e = let h = leb-true q (n - q) e in subst⁻¹ P (nearer-ahead k n q h) (f h)
    by false e = let h = leb-false q (n - q) e in subst⁻¹ P (nearer-behind k n q h) (g h)

module _ {l : Layout} {v : View} {k n : ℕ} (h : HeldList l v k n) (q : ℕ) (p : q ≤ n) where
  abbrev members : List ℕ
  members = sequence_in l v k

  -- a budget that is enough for the way it takes
  enough : (b : ℕ) → (q ≤ n - q → q ≤ b) → (n - q < q → n + 1 - q ≤ b) → run_with v b (nearer k n q) ≡ Some (get_or (k ∷ members) q 0)
  enough b f g =
      by_way k n q (λ t. run_with v b t ≡ Some (get_or (k ∷ members) q 0))
      (λ e. walk-arrives v true b q k (f e) ∙ ap Some (ring-ahead h q p))
      (λ e. walk-arrives v false b (n + 1 - q) k (g e) ∙ ap Some (ring-behind h (n + 1 - q) q (omega arith) (omega arith) (omega arith)))

  pub half-arrives : {b : ℕ} → half n ≤ b → run_with v b (nearer k n q) ≡ Some (get_or (k ∷ members) q 0)
  half-arrives {b} g = enough b (λ e. omega arith) (λ e. omega arith)

  -- it begins at the header, and behind it it meets nodes
  nearer-inside : Inside l v (stepped (cell_in v k) (nearer k n q))
  nearer-inside =
      by_way k n q (λ t. Inside l v (stepped (cell_in v k) t))
      (λ e i g.
      subst (Node l) (sym (ring-ahead h (suc i) (omega (arith, g))) ∙ follow-next v.forward i k)
      (ring-node h (suc i) (omega arith) (omega (arith, g))))
      (λ e i g.
      subst (Node l) (sym (ring-behind h (suc i) (n - i) (omega (arith, g)) (omega arith) (omega (arith, g))) ∙ follow-next v.back i k)
      (ring-node h (n - i) (omega (arith, g)) (omega arith)))

  pub nearer-begins : {x : Cell} {t : Seek} → x ≡ cell_in v k → t ≡ nearer k n q → (x ≡ cell_in v t.at) × Inside l v (stepped x t)
  nearer-begins e f =
      let at : (nearer k n q).at ≡ k = by_way k n q (λ t. t.at ≡ k) (λ g. refl) (λ g. refl) in
      rw (e, f) (ap (cell_in v) (sym at), nearer-inside)

  -- a budget too small for either way
  too_small : (b : ℕ) → b < q → b < n + 1 - q → run_with v b (nearer k n q) ≡ None
  too_small b f g = by_way k n q (λ t. run_with v b t ≡ None) (λ e. walk-spent v true b q k f) (λ e. walk-spent v false b (n + 1 - q) k g)

pub reached : {l : Layout} {v : View} {k n : ℕ} → HeldList l v k n → (q : ℕ) → q ≤ n → Reached v k (sequence_in l v k) q
reached {l} {v} {k} h q p =
    let g : HeldList l v k (length (sequence_in l v k)) = subst (HeldList l v k) (held-count h) h in
    let r : q ≤ length (sequence_in l v k) = subst (λ (m : ℕ). q ≤ m) (held-count h) p in
    record {
      arrives = half-arrives g q r (omega arith);
      ahead = λ b e. enough g q r b (λ f. e) (λ f. omega arith);
      behind = λ b e. enough g q r b (λ f. omega arith) (λ f. e);
      spent = too_small g q r;
    }
