-- One list of an ordered store is altered, as demand 3 allows after a call that names no list: every list keeps its sequence.
use Prim.Native.Nat.{ℕ, zero, suc, ◌<◌, ◌≤◌}
use mathlib.Core.Path.{◌≡◌, refl, ap, ◌∙◌, sym, subst}
use mathlib.Core.List.{List, []}
use mathlib.Core.Bool.{Bool, true, false, cond}
use mathlib.Core.Logic.{inl}
use native.Mathlib.Decide.{ℕ_discrete}
use native.Mathlib.Omega.{arith}
use lib.Dec.{eqb, ltb}
use borrow.Author.Tests.{eq-eqb, ne_eqb, lt-ltb, le-ltb, ltb-true, ltb-false}
use Rattle.layout.specs.declared.Layout.{Layout}
use Rattle.layout.specs.Words.{InRange}
use Rattle.lists.specs.Lists.{SoundLists}
use Rattle.edits.specs.Edited.{replaced}
use Rattle.edits.proofs.Edited.{replaced-other}
use Rattle.recovery.specs.Fits.{Fits, Chosen}
use Rattle.recovery.specs.Plan.{Accepted}
use Rattle.courses.specs.Course.{Alteration, untouched, alter, Allowed, AllowedBut, altered_below}
use Rattle.courses.proofs.Found.{found-accepted}

module _ (l : Layout) (range : InRange l) (w : List ℕ) (x : SoundLists l w) (j : ℕ) (h : j < l.lists) (a : Alteration) (allowed : Allowed j (x.sequence j) a) where
  alts : ℕ → Alteration
  alts i = cond (eqb i j) a untouched

  own : (i : ℕ) → i ≡ j → alts i ≡ a
  unfolding alts
  own i e = rw (eq-eqb i j e)

  others : (i : ℕ) → (i ≡ j → ⊥) → alts i ≡ untouched
  unfolding alts
  others i n = rw (ne_eqb i j n)

  all-allowed : AllowedBut l.lists l.lists x.sequence alts
  all-allowed i g n = by (ℕ_discrete i j)
    where
      by : Dec (i ≡ j) → Allowed i (x.sequence i) (alts i)
      by (yes e) = subst (Allowed i (x.sequence i)) (sym (own i e)) (subst (λ (q : ℕ). Allowed q (x.sequence q) a) (sym e) allowed)
      by (no q) = subst (Allowed i (x.sequence i)) (sym (others i q)) tt

  -- below list j nothing is altered, and from there on that list
  below : (n : ℕ) → n ≤ l.lists → altered_below l l.lists alts n w ≡ cond (ltb j n) (alter l j a w) w
  unfolding altered_below
  below zero g = rw (le-ltb j 0 (omega arith))
  below (suc n) g =
      rw (ne_eqb n l.lists (λ e. omega (arith, e))) (ap (alter l n (alts n)) (below n (omega arith)) ∙ by (ℕ_discrete n j))
    where
      by : Dec (n ≡ j) → alter l n (alts n) (cond (ltb j n) (alter l j a w) w) ≡ cond (ltb j (suc n)) (alter l j a w) w
      by (yes e) = rw (own n e, le-ltb j n (omega arith), lt-ltb j (suc n) (omega arith)) (ap (λ (i : ℕ). alter l i a w) e)
      by (no q) = rw (others n q, later)
        where
          later : ltb j (suc n) ≡ ltb j n
          later = both (ltb j n) refl
            where
              both : (b : Bool) → ltb j n ≡ b → ltb j (suc n) ≡ b
              both true z = lt-ltb j (suc n) (omega (arith, ltb-true j n z))
              both false z = le-ltb j (suc n) (omega (arith, ltb-false j n z, q))

  pub list-accepted : Accepted l (alter l j a w) x.sequence
  list-accepted =
      record {
        fits = λ i g. subst (Fits l (alter l j a w) i) (kept i g) (found.fits i g);
        chosen = λ i g. subst (Chosen l (alter l j a w) i) (kept i g) (found.chosen i g);
      }
    where
      found : Accepted l (alter l j a w) (replaced x.sequence l.lists [])
      found =
          subst (λ (y : List ℕ). Accepted l y (replaced x.sequence l.lists []))
          (below l.lists (omega arith) ∙ rw (lt-ltb j l.lists h))
          (found-accepted l w x l.lists alts all-allowed range w (λ _ _ _ _ _ _ _. refl)
          (λ i n o. inl (x.outside i n (λ k g m. o k g (λ e. omega (arith, e)) m))) [] (λ g. absurd (omega arith)))

      kept : (i : ℕ) → i < l.lists → replaced x.sequence l.lists [] i ≡ x.sequence i
      kept i g = replaced-other x.sequence l.lists [] i (λ e. omega (arith, e))
