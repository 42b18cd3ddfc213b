-- Which number refuses a store, and that every store that was accepted while the count counted has the same plan, and one refused with 12 still is.
use Prim.Native.Nat.{ℕ, zero, suc, ◌+◌, ◌<◌, ◌≤◌}
use mathlib.Core.Path.{◌≡◌, refl, ap, ◌∙◌, sym, subst}
use mathlib.Core.List.{List}
use mathlib.Core.Logic.{◌⊎◌, inl, inr, ⊎_elim}
use native.Mathlib.Decide.{ℕ_discrete}
use native.Mathlib.Omega.{arith}
use native.Mathlib.Nat.{eq-or-lt_of_le}
use lib.ListN.{length}
use Rattle.std.specs.Prelude.{Option, Some, None, Result, Ok, Err}
use Rattle.stores.specs.Stores.{Write, refuse, stores}
use Rattle.layout.specs.declared.Layout.{Layout}
use Rattle.layout.specs.declared.Refusal.{Refusal}
use Rattle.layout.specs.declared.Refusal.TheVariants.{NoFit, TwoFit}
use Rattle.layout.specs.Words.{opened, after_open}
use Rattle.lists.specs.Lists.{asked, others_asked, count_asked}
use Rattle.recovery.specs.Fits.{wrong, Fits, Counted, Chosen, Two, Undecided, Fit, none, only, several, fit_of, Says}
use Rattle.recovery.specs.Plan.{recover_stores, fitting_of, fit_refusal, refusal_from, unless_refused, recover_of, recover_plan}
use Rattle.recovery.proofs.Required.{wrong-length, agrees-wrong, wrong-agrees}
use Rattle.recovery.proofs.Candidates.{sequence-dec, right-count, decided, chosen-beside, beside-chosen, fit-accepted}
use Rattle.recovery.proofs.Suffix.{right_unique}
use Rattle.recovery.proofs.Whole.{accepted-plan}
use Rattle.counting.specs.Counting.{Refused, FitsBefore, Before, SeveralBefore}

-- of the n lists from k on, the first for which no sequence is chosen
module _ (l : Layout) (w : List ℕ) where
  abbrev Why : ℕ → Refusal → Type 0
  Why i m = ((m ≡ NoFit) × ((s : List ℕ) → Fits l w i s → ⊥)) ⊎ ((m ≡ TwoFit) × Undecided l w i)

  -- list i is, and a sequence is chosen for each from k on before it
  abbrev First : ℕ → ℕ → Refusal → Type 0
  First k end m = (i : ℕ) × (i < end) × ((j : ℕ) → k ≤ j → j < i → (s : List ℕ) × Fits l w j s × Chosen l w j s) × Why i m

  first : (k n : ℕ) (m : Refusal) → k + n ≤ l.lists → refusal_from l w k n ≡ Some m → First k (k + n) m
  unfolding refusal_from
  first k zero m h e = let y : ◌≡◌ {A = ℕ} 0 1 = cc in absurd (omega arith)
  first k (suc n) m h e = by (λ q. first (suc k) n m (omega arith) q) (fit_of l w k) (decided l w k (omega arith)) e
    where
      by : (refusal_from l w (suc k) n ≡ Some m → First (suc k) (suc k + n) m) → (x : Fit) → Says l w k x → fit_refusal x (refusal_from l w (suc k) n) ≡ Some m
          → First k (k + suc n) m
      by next none d q = (k, omega arith, (λ j a b. absurd (omega arith)), inl (cc, d))
      by next several d q = (k, omega arith, (λ j a b. absurd (omega arith)), inr (cc, d))
      by next (only s) d q =
          let r = next q in (
            r.0,
            omega (arith, r.1),
            (λ j a b.
                ⊎_elim (λ e. subst (λ (i : ℕ). (s : List ℕ) × Fits l w i s × Chosen l w i s) e (s, d.0, d.1)) (λ c. r.2 j c b) (eq-or-lt_of_le a)),
            r.3,
          )

  list-refused : (m : Refusal) → refusal_from l w 0 l.lists ≡ Some m → Refused l w m
  list-refused m e =
      let r = first 0 l.lists m (omega arith) e in
      record { list = r.0; below = omega (arith, r.1); before = λ j h. r.2 j (omega arith) h; number = r.3 }

pub refuses : (w : List ℕ) (n : Refusal) → recover_plan w ≡ refuse n → (opened w ≡ Err n) ⊎ ((l : Layout) × (opened w ≡ Ok l) × Refused l w n)
unfolding recover_plan recover_of
refuses w n = by (opened w) refl
  where
    asks : (l : Layout) (r : Option Refusal) → refusal_from l w 0 l.lists ≡ r
        → unless_refused r (stores (recover_stores l w (fitting_of l w))) ≡ refuse n → Refused l w n
    asks l None z e = let y : ◌≡◌ {A = ℕ} 0 1 = cc in absurd (omega arith)
    asks l (Some m) z e = let q : m ≡ n = cc in list-refused l w n (z ∙ ap Some q)

    by : (o : Result Layout Refusal) → opened w ≡ o → after_open o refuse (λ l. recover_of l w) ≡ refuse n
        → (opened w ≡ Err n) ⊎ ((l : Layout) × (opened w ≡ Ok l) × Refused l w n)
    by (Err m) p e = let q : m ≡ n = cc in inl (p ∙ ap Err q)
    by (Ok l) p e = inr (l, p, asks l (refusal_from l w 0 l.lists) refl e)

-- Sequences that fitted while the count counted: they fit now, and beside another that fits now such a one lacks a link, so its count is right.
module _ (l : Layout) (w : List ℕ) (k : ℕ) (h : k < l.lists) where
  parts : (r : List ℕ) → length (wrong w (asked l k r)) ≡ length (wrong w (others_asked l k r)) + length (wrong w (count_asked l k r))
  unfolding asked
  parts r = wrong-length w (others_asked l k r) (count_asked l k r)

  fits-now : (s : List ℕ) → FitsBefore l w k s → Fits l w k s
  fits-now s f = record { nodes = f.nodes; different = f.different; few = omega (arith, parts s, f.few) }

  counted-before : (s r : List ℕ) → FitsBefore l w k s → Fits l w k r → (r ≡ s → ⊥) → Counted l w k s
  counted-before s r f g n =
      elim (ℕ_discrete (length (wrong w (others_asked l k s))) 0) [
        | yes e ↦
            absurd (n (right_unique l w k h s (fits-now s f) (agrees-wrong w (others_asked l k s) (wrong-agrees w (others_asked l k s) e)) r g))
        | no o ↦ right-count l w k s (omega (arith, parts s, f.few, o))
      ]

  -- one that alone did is chosen: another that fits now would have fitted before if its count were right
  only-before : (s : List ℕ) → FitsBefore l w k s → ((r : List ℕ) → FitsBefore l w k r → r ≡ s) → fit_of l w k ≡ only s
  only-before s f alone = beside-chosen l w k h s (fits-now s f) beside
    where
      theirs : (r : List ℕ) → Fits l w k r → Counted l w k r → FitsBefore l w k r
      theirs r g c =
          record {
            nodes = g.nodes;
            different = g.different;
            few = omega (arith, parts r, g.few, ap length (agrees-wrong w (count_asked l k r) (c, tt)));
          }

      beside : (r : List ℕ) → Fits l w k r → (r ≡ s) ⊎ (Counted l w k s × (Counted l w k r → ⊥))
      beside r g =
          elim (sequence-dec r s) [ yes e ↦ inl e | no n ↦ inr (counted-before s r f g n, λ c. n (alone r (theirs r g c))) ]

  -- of two that did, both have the right count, so none is chosen
  two-before : Two (FitsBefore l w k) → fit_of l w k ≡ several
  two-before (s, r, f, g, n) = by (fit_of l w k) (decided l w k h)
    where
      mine : Counted l w k s
      mine = counted-before s r f (fits-now r g) (λ e. n (sym e))

      theirs : Counted l w k r
      theirs = counted-before r s g (fits-now s f) n

      -- each of them would be the chosen one
      same : (t u : List ℕ) → Chosen l w k t → FitsBefore l w k u → Counted l w k u → u ≡ t
      same t u d p c = ⊎_elim (λ e. e) (λ q. absurd (q.1 c)) (chosen-beside l w k h t d u (fits-now u p))

      by : (x : Fit) → Says l w k x → x ≡ several
      by none d = absurd (d s (fits-now s f))
      by several d = refl
      by (only t) d = absurd (n (same t s d.1 f mine ∙ sym (same t r d.1 g theirs)))

pub before : (w : List ℕ) (ps : List Write) → Before w ps → recover_plan w ≡ stores ps
before w ps b =
    let l = b.layout in
    accepted-plan l w b.sequence b.opens
    (fit-accepted l w b.sequence (λ k h. only-before l w k h (b.sequence k) (b.fits k h) (b.only k h)))
    ∙ ap stores (sym b.stores)

-- the first list with a reason decides
refused-at : (l : Layout) (w : List ℕ) (k n i : ℕ) → k ≤ i → i < k + n
    → ((j : ℕ) → k ≤ j → j < i → (s : List ℕ) × (fit_of l w j ≡ only s)) → fit_of l w i ≡ several → refusal_from l w k n ≡ Some TwoFit
unfolding refusal_from
refused-at l w k zero i a b e z = absurd (omega arith)
refused-at l w k (suc n) i a b e z =
    ⊎_elim (λ q. ap (λ (x : Fit). fit_refusal x (refusal_from l w (suc k) n)) (ap (fit_of l w) q ∙ z))
    (λ q.
    ap (λ (x : Fit). fit_refusal x (refusal_from l w (suc k) n)) (e k (omega arith) q).1
    ∙ refused-at l w (suc k) n i q (omega arith) (λ j c d. e j (omega arith) d) z)
    (eq-or-lt_of_le a)

pub several-before : (w : List ℕ) → SeveralBefore w → recover_plan w ≡ refuse TwoFit
unfolding recover_plan recover_of
several-before w b =
    let l = b.layout in
    let e : refusal_from l w 0 l.lists ≡ Some TwoFit =
    refused-at l w 0 l.lists b.list (omega arith) (omega (arith, b.below))
    (λ j _ h. let r = b.earlier j h in (r.0, only-before l w j (omega (arith, b.below)) r.0 r.1 r.2))
    (two-before l w b.list b.below b.two) in
    rw (b.opens, e)
