-- Laws of the faults of a walk.
use Prim.Native.Nat.{ℕ, suc, ◌-◌, ◌≤◌, ◌<◌}
use mathlib.Core.Path.{◌≡◌, refl, ap, ◌∙◌, sym}
use mathlib.Core.List.{[], ◌∷◌}
use mathlib.Core.Bool.{Bool, true, false, cond, false≢true}
use native.Mathlib.Omega.{arith}
use lib.Dec.{eqb}
use lib.ListN.{length}
use borrow.Author.Tests.{eq-eqb, ne_eqb}
use Rattle.sequences.proofs.Trail.{trail-on, trail-out, trail-none}
use Rattle.layout.specs.declared.Layout.{Layout}
use Rattle.layout.specs.Words.{ident_word, is_node, ident_of}
use Rattle.lists.specs.Decide.{View}
use Rattle.fitting.specs.declared.Faults.{Faults}
use Rattle.fitting.specs.declared.Faults.TheVariants as F
use Rattle.std.specs.Prelude.{Ok}
use Rattle.fitting.specs.Fitting.{are_many, way_of, decides, ahead, choose, fit_in}
use Rattle.fitting.specs.declared.Walk.{Walk}
use Rattle.fitting.specs.Fitting.{Each, plus, fault, turn_faults, others_faults, walked, walk_with, rest, Walking}

-- no faults more
pub plus_none : (f : Faults) → plus f F.None ≡ f
plus_none F.None = refl
plus_none (F.One c w v) = refl
plus_none F.Many = refl

-- it does not matter which faults are summed up first
pub plus_assoc : (f g h : Faults) → plus (plus f g) h ≡ plus f (plus g h)
plus_assoc F.None g h = refl
plus_assoc (F.One c w v) F.None h = refl
plus_assoc (F.One c w v) (F.One d u t) F.None = refl
plus_assoc (F.One c w v) (F.One d u t) (F.One e s r) = refl
plus_assoc (F.One c w v) (F.One d u t) F.Many = refl
plus_assoc (F.One c w v) F.Many h = refl
plus_assoc F.Many g h = refl

-- a property that follows from another
pub each_map : {P Q : ℕ → ℕ → Type 0} (f : Faults) → ((c w : ℕ) → P c w → Q c w) → Each P f → Each Q f
each_map F.None h p = tt
each_map (F.One c w v) h p = h c w p
each_map F.Many h p = tt

-- `Each` as a record, so that P and f can be told from it
pub record Every (P : ℕ → ℕ → Type 0) (f : Faults) : Type 0 where
  pub each : Each P f

-- of the faults of two parts, if of those of each
pub every-plus : {P : ℕ → ℕ → Type 0} {f g : Faults} → Every P f → Every P g → Every P (plus f g)
every-plus {f = F.None} p q = q
every-plus {f = F.One c f v} {g = F.None} p q = p
every-plus {f = F.One c f v} {g = F.One d g u} p q = record { each = tt }
every-plus {f = F.One c f v} {g = F.Many} p q = record { each = tt }
every-plus {f = F.Many} p q = record { each = tt }

-- of one word
pub every-fault : {P : ℕ → ℕ → Type 0} (x c f v : ℕ) → P c f → Every P (fault x c f v)
every-fault {P} x c f v h = by (eqb x v)
  where
    by : (b : Bool) → Every P (cond b F.None (F.One c f v))
    by true = record { each = tt }
    by false = record { each = h }

-- a word that holds what it is to hold is no fault, any other is one
pub no-fault : (x c f v : ℕ) → x ≡ v → fault x c f v ≡ F.None
no-fault x c f v e = rw (eq-eqb _ _ e)

pub one-fault : (x c f v : ℕ) → (x ≡ v → ⊥) → fault x c f v ≡ F.One c f v
one-fault x c f v h = rw (ne_eqb _ _ h)

-- where the first candidate decides, it is chosen, whatever the second is
pub decided-alone : (x y : Walk) (n : ℕ) → decides x.faults ≡ true → choose x y n ≡ Ok (ahead x)
decided-alone x y n e = rw e

pub fit-alone : (l : Layout) (v : View) (k n : ℕ) {x : Walk} → x ≡ way_of l v false k → decides x.faults ≡ true → Ok (ahead x) ≡ fit_in l v k n
unfolding fit_in
fit-alone l v k n {x} e d = sym (decided-alone x (way_of l v true k) n d) ∙ ap (λ (y : Walk). choose y (way_of l v true k) n) e

-- at the header its identifier is compared
pub walking-first : (l : Layout) (v : View) (a b k : ℕ) {i : ℕ} {f : Faults} → i ≡ ident_of k
    → f ≡ fault (v.ident k) k ident_word i → Walking l v a b k f k (v.forward k) l.nodes
unfolding others_faults
walking-first l v a b k q e = record { link = refl; few = omega arith; same = rw (e, q); count = omega arith }

module _ {l : Layout} {v : View} {a b k : ℕ} {f : Faults} {x y left : ℕ} (w : Walking l v a b k f x y left) where
  -- where a node follows and a step is left
  rest-on : is_node l y ≡ true → 0 < left → rest l v left y ≡ y ∷ rest l v (left - 1) (v.forward y)
  rest-on e h =
      let m : left ≡ suc (left - 1) = omega arith in
      ap (λ (n : ℕ). rest l v n y) m ∙ trail-on v.forward (is_node l) (left - 1) y e

  -- its identifier and its link back are compared
  pub walking-next : {i : ℕ} {g h : Faults} → is_node l y ≡ true → 0 < left → i ≡ ident_of k
      → g ≡ plus f (fault (v.ident y) y ident_word i) → h ≡ plus g (fault (v.back y) y b x)
      → Walking l v a b k h y (v.forward y) (left - 1)
  unfolding turn_faults
  walking-next e p q r s =
      record {
        link = refl;
        few = omega arith;
        same = rw (s, r, q, plus_assoc, plus_assoc) (rw (rest-on e p, no-fault _ _ _ _ w.link) at w.same);
        count = w.count ∙ rw (rest-on e p) (omega arith);
      }

  -- once there are many faults, they are many at the end
  pub walking_many : are_many f ≡ true → f ≡ others_faults v a b k (walked l v k)
  walking_many e = by f e w.same
    where
      by : (g : Faults) → are_many g ≡ true → plus g (turn_faults v a b k x (rest l v left y)) ≡ others_faults v a b k (walked l v k)
          → g ≡ others_faults v a b k (walked l v k)
      by F.None e s = absurd (false≢true e)
      by (F.One c g u) e s = absurd (false≢true e)
      by F.Many e s = s

  -- where no node follows, or no step is left, nothing is left
  pub rest_out : is_node l y ≡ false → rest l v left y ≡ []
  rest_out e = trail-out v.forward (is_node l) left y e

  pub rest-none : left ≤ 0 → rest l v left y ≡ []
  rest-none h = let m : left ≡ 0 = omega arith in rw m (trail-none v.forward (is_node l) y)

  -- the link onward and the header's link back are compared
  pub walking-done : {g h : Faults} → rest l v left y ≡ [] → g ≡ plus f (fault y x a k) → h ≡ plus g (fault (v.back k) k b x)
      → (h ≡ others_faults v a b k (walked l v k)) × (l.nodes - left ≡ length (walked l v k))
  unfolding turn_faults
  walking-done e p q = (
    rw (q, p, ← w.same, e, w.link, plus_assoc f),
    omega (arith, w.count, ap length e),
  )

-- the length of a walk with many faults is not told
pub walk-many : (m n : ℕ) {f g : Faults} → f ≡ g → are_many f ≡ true → walk_with f m ≡ walk_with g n
walk-many m n {f} {g} e h = ap (λ (x : Faults). walk_with x m) e ∙ rw (ap are_many (sym e) ∙ h)
