-- Walks step by step: what a trail has met and what it has yet to meet are the faults of the whole walk.
use Prim.Native.Nat.{ℕ, ◌<◌}
use mathlib.Core.Path.{◌≡◌, refl, ap, ap₂, ◌∙◌, sym}
use mathlib.Core.List.{List, [], ◌∷◌}
use mathlib.Core.Bool.{Bool, true, false, not, ◌&&◌, and-eq-true_iff, false≢true}
use native.Mathlib.Omega.{arith}
use lib.Dec.{eqb}
use borrow.Author.Tests.{eqb-true, eqb-false, not-true}
use Rattle.sequences.specs.Sequence.{steps}
use Rattle.layout.specs.declared.Layout.{Layout}
use Rattle.layout.specs.declared.Cell.{Cell}
use Rattle.layout.specs.Words.{forward_word, back_word, is_node}
use Rattle.lists.specs.Decide.{View}
use Rattle.lists.proofs.Agree.{Turn, holds-true}
use Rattle.spans.specs.Spans.{cell_in, Held}
use Rattle.fitting.specs.declared.Faults.{Faults}
use Rattle.fitting.specs.declared.Faults.TheVariants as F
use Rattle.std.specs.Prelude.{Ok}
use Rattle.fitting.specs.declared.Trail.{Trail}
use Rattle.fitting.specs.Fitting.{are_many, turn_faults, others_faults, ahead, fit_in}
use Rattle.fitting.specs.Fitting.{onward_word, backward_word, view_by, walk_with, way_of, first_trail, next_trail, is_open, end_faults, end_of, rest, Walking, Trailing}
use Rattle.fitting.proofs.Walks.{walking-first, walking-next, walking_many, walking-done, walk-many, rest_out, rest-none, no-fault}

-- at the header
pub trail-first : (l : Layout) (v : View) (k : ℕ) (back : Bool) → Trailing l v k (first_trail l back k (cell_in v k))
trail-first l v k false = walking-first l (view_by false v) forward_word back_word k refl refl
trail-first l v k true = walking-first l (view_by true v) back_word forward_word k refl refl

-- an open trail comes to a node, and has a step left
pub open-node : (l : Layout) (t : Trail) → is_open l t ≡ true → (is_node l t.at ≡ true) × (0 < t.left)
open-node l t e =
    let a = ((and-eq-true_iff (not (are_many t.faults)) (not (eqb t.left 0) && is_node l t.at)).0 e).1 in
    let b = (and-eq-true_iff (not (eqb t.left 0)) (is_node l t.at)).0 a in
    let n = eqb-false t.left 0 (not-true _ b.0) in
    (b.1, omega (arith, n))

module _ (l : Layout) (v : View) (k : ℕ) where
  -- behind it
  pub trail-next : (t : Trail) → Trailing l v k t → is_open l t ≡ true → Trailing l v k (next_trail k (cell_in v t.at) t)
  trail-next t w e = by t.back w
    where
      o : (is_node l t.at ≡ true) × (0 < t.left)
      o = open-node l t e

      by : (back : Bool)
          → Walking l (view_by back v) (onward_word back) (backward_word back) k t.faults t.last t.at t.left
          → Trailing l v k (next_trail k (cell_in v t.at) (record { back = back; faults = t.faults; last = t.last; at = t.at; left = t.left }))
      by false w = walking-next w o.0 o.1 refl refl refl
      by true w = walking-next w o.0 o.1 refl refl refl

  -- where it has ended, the whole walk is told: many faults stay many ..
  many-end : (t : Trail) → are_many t.faults ≡ true → end_faults k (cell_in v k) t ≡ t.faults
  many-end t e = by t.faults e
    where
      by : (f : Faults) → are_many f ≡ true
          → end_faults k (cell_in v k) (record { back = t.back; faults = f; last = t.last; at = t.at; left = t.left }) ≡ f
      by F.None e = absurd (false≢true e)
      by (F.One c w x) e = absurd (false≢true e)
      by F.Many e = refl

  -- .. and where nothing is left to meet, the last words are compared
  none_end : (t : Trail) → Trailing l v k t
      → rest l (view_by t.back v) t.left t.at ≡ [] → end_of l k (cell_in v k) t ≡ way_of l v t.back k
  none_end t w e = by t.back w e
    where
      by : (back : Bool)
          → Walking l (view_by back v) (onward_word back) (backward_word back) k t.faults t.last t.at t.left
          → rest l (view_by back v) t.left t.at ≡ []
          → end_of l k (cell_in v k) (record { back = back; faults = t.faults; last = t.last; at = t.at; left = t.left }) ≡ way_of l v back k
      by false w e = let d = walking-done w e refl refl in ap₂ walk_with d.0 d.1
      by true w e = let d = walking-done w e refl refl in ap₂ walk_with d.0 d.1

  pub trail-end : (t : Trail) → Trailing l v k t → is_open l t ≡ false → end_of l k (cell_in v k) t ≡ way_of l v t.back k
  trail-end t w e = by (are_many t.faults) (eqb t.left 0) (is_node l t.at) refl refl refl
    where
      by : (m z i : Bool) → are_many t.faults ≡ m → eqb t.left 0 ≡ z → is_node l t.at ≡ i
          → end_of l k (cell_in v k) t ≡ way_of l v t.back k
      by true z i p q r = walk-many _ _ (many-end t p ∙ walking_many w p) (ap are_many (many-end t p) ∙ p)
      by false true i p q r = none_end t w (rest-none w (omega (arith, eqb-true t.left 0 q)))
      by false false false p q r = none_end t w (rest_out w r)
      by false false true p q r = absurd (false≢true (sym (rw (p, q, r) at e)))

-- the trail of a loop: at the header, and one step further
module _ {l : Layout} (v : View) {back : Bool} (k : ℕ) {t : Trail} where
  pub begun : {h : Cell} → h ≡ cell_in v k → t ≡ first_trail l back k h → Trailing l v k t × (t.back ≡ back)
  begun p q = rw (q, p) (trail-first l v k back, refl)

  pub further : {r : Trail} → Trailing l v k t × (t.back ≡ back) → is_open l t ≡ true
      → r ≡ next_trail k (cell_in v t.at) t → Trailing l v k r × (r.back ≡ back)
  further w o q = rw q (trail-next l v k t w.0 o, w.1)

-- a turn that finds everything right has no fault
no-faults : (v : View) (k x : ℕ) (s : List ℕ) → Turn v k x s → turn_faults v forward_word back_word k x s ≡ F.None
unfolding turn_faults steps
no-faults v k x [] t = rw (no-fault _ _ _ _ t.forwards.0, no-fault _ _ _ _ t.backs.0)
no-faults v k x (y ∷ s) t =
    rw (
      no-fault _ _ _ _ t.forwards.0,
      no-fault _ _ _ _ t.idents.0,
      no-fault _ _ _ _ t.backs.0,
      no-faults v k y s (record { idents = t.idents.1; forwards = t.forwards.1; backs = t.backs.1 }),
    )

-- so a list that holds fits as it is
pub held_fits : (l : Layout) (v : View) (count : ℕ → ℕ) (k : ℕ) → Held l v count k → fit_in l v k (count k) ≡ Ok (ahead (walk_with F.None (count k)))
unfolding fit_in others_faults
held_fits l v count k e = let h = holds-true v k (count k) _ e in
    rw (no-fault _ _ _ _ h.ident, no-faults v k k _ h.turn, h.count)
