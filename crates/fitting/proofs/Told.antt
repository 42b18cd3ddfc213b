-- The sums of the faults of the two candidates and their lengths decide which of them is chosen, as the words themselves do.
use Prim.Native.Nat.{ℕ, ◌+◌, ◌<◌, ◌≤◌}
use mathlib.Core.Path.{◌≡◌, refl, ap, ap₂, ◌∙◌, sym, subst}
use mathlib.Core.List.{List, [], ◌∷◌, ◌++◌, map, reverse, reverse-cons}
use mathlib.Core.Bool.{Bool, true, false, cond, true≢false}
use native.Mathlib.Omega.{arith}
use lib.Dec.{eqb}
use lib.ListN.{length, get_or, length-append, length-reverse}
use borrow.Author.Tests.{eqb-true, ne_eqb, not-false, leb-true, leb-false}
use Rattle.sequences.specs.Sequence.{◌∈◌, Step, steps}
use Rattle.sequences.proofs.Reversed.{in-reverse, reverse-in}
use Rattle.stores.specs.Stores.{Write, write}
use Rattle.std.specs.Prelude.{Option, Some, None, Result, Ok, Err}
use Rattle.std.specs.Result.{result_err}
use Rattle.layout.specs.declared.Layout.{Layout}
use Rattle.layout.specs.declared.Refusal.{Refusal}
use Rattle.layout.specs.declared.Refusal.TheVariants.{NoFit}
use Rattle.layout.specs.Words.{ident_word, forward_word, back_word, cell_at, ident_at, forward_at, back_at, ident_of}
use Rattle.lists.specs.Lists.{idents_asked, forwards_asked, backs_asked, others_asked}
use Rattle.lists.specs.Decide.{View, view_of, count_in, sequence_of}
use Rattle.lists.proofs.Same.{ident-word}
use Rattle.recovery.specs.Fits.{wrong, backward_of, few_wrong, same, has_count, none, only, several, fitting, fit_of}
use Rattle.recovery.specs.Fits as W
use Rattle.recovery.specs.Plan.{fitting_of, fit_refusal}
use Rattle.recovery.proofs.Required.{wrong-append}
use Rattle.recovery.proofs.Candidates.{same-yes, same_refl, wrong-others, few-fits, forward-candidate, back-candidate, forward-nodes, back-nodes}
use Rattle.fitting.specs.declared.Faults.{Faults}
use Rattle.fitting.specs.declared.Faults.TheVariants as F
use Rattle.fitting.specs.declared.Chosen.{Chosen}
use Rattle.fitting.specs.declared.Walk.{Walk}
use Rattle.fitting.specs.Fitting.{plus, fault, are_many, turn_faults, others_faults, walked, walk_with, turned, decides, is_rival, ahead, behind, by_count, choose, fit_in}
use Rattle.fitting.specs.Fitting.{mend_of, walk_in, is_backward, members_by}
use Rattle.fitting.proofs.Walks.{plus_none, plus_assoc, decided-alone, Every, every-plus, every-fault}

-- f sums up these wrong words
abbrev pub Summed : Layout → Faults → List Write → Type 0
Summed l F.None ps = ps ≡ []
Summed l (F.One c f v) ps = ps ≡ write (cell_at l c + f) v ∷ []
Summed l F.Many ps = 2 ≤ length ps

-- it does not matter in which order faults are summed up
pub plus_comm : (f g : Faults) → plus f g ≡ plus g f
plus_comm F.None g = sym (plus_none g)
plus_comm (F.One c w v) F.None = refl
plus_comm (F.One c w v) (F.One d u t) = refl
plus_comm (F.One c w v) F.Many = refl
plus_comm F.Many F.None = refl
plus_comm F.Many (F.One d u t) = refl
plus_comm F.Many F.Many = refl

-- nor which of two comes first
pub plus-swap : (f g h : Faults) → plus f (plus g h) ≡ plus g (plus f h)
plus-swap f g h = sym (plus_assoc f g h) ∙ ap (λ (x : Faults). plus x h) (plus_comm f g) ∙ plus_assoc g f h

-- the sum of two parts sums up both
pub summed-plus : (l : Layout) (f g : Faults) (ps qs : List Write) → Summed l f ps → Summed l g qs → Summed l (plus f g) (ps ++ qs)
summed-plus l F.None g ps qs p q = subst (λ (r : List Write). Summed l g (r ++ qs)) (sym p) q
summed-plus l (F.One c w v) F.None ps qs p q = rw (p, q)
summed-plus l (F.One c w v) (F.One d u t) ps qs p q = omega (arith, length-append ps qs, ap length p, ap length q)
summed-plus l (F.One c w v) F.Many ps qs p q = omega (arith, length-append ps qs)
summed-plus l F.Many g ps qs p q = omega (arith, length-append ps qs)

-- the sum of many
unfoldable pub sum_all {ℓ} : {A : Type ℓ} → (A → Faults) → List A → Faults
sum_all g [] = F.None
sum_all g (x ∷ s) = plus (g x) (sum_all g s)

-- one word, which stands at a
pub summed-fault
    : (l : Layout) (w : List ℕ) (c f v a : ℕ) → a ≡ cell_at l c + f
    → Summed l (fault (get_or w a 0) c f v) (wrong w (write a v ∷ []))
unfolding wrong
summed-fault l w c f v a e = by (eqb (get_or w a 0) v) refl
  where
    by : (b : Bool) → eqb (get_or w a 0) v ≡ b → Summed l (fault (get_or w a 0) c f v) (wrong w (write a v ∷ []))
    by true q = rw (q, wrong)
    by false q = rw (q, wrong) (ap (λ (n : ℕ). write n v ∷ []) e)

-- many words, each summed up by its own fault
pub summed-map {ℓ}
    : {A : Type ℓ} (l : Layout) (w : List ℕ) (g : A → Faults) (h : A → Write)
    → ((x : A) → Summed l (g x) (wrong w (h x ∷ []))) → (s : List A) → Summed l (sum_all g s) (wrong w (map h s))
unfolding sum_all wrong
summed-map l w g h r [] = refl
summed-map l w g h r (x ∷ s) =
    subst (Summed l (plus (g x) (sum_all g s))) (sym (wrong-append w (h x ∷ []) (map h s)))
    (summed-plus l (g x) (sum_all g s) (wrong w (h x ∷ [])) (wrong w (map h s)) (r x) (summed-map l w g h r s))

-- the three kinds of faults of a turn, each by itself
abbrev pub ident_faults : View → ℕ → List ℕ → Faults
ident_faults v k s = sum_all (λ (y : ℕ). fault (v.ident y) y ident_word (ident_of k)) s

abbrev pub onward_faults : View → ℕ → List Step → Faults
onward_faults v a ps = sum_all (λ (p : Step). fault (v.forward p.source) p.source a p.target) ps

abbrev pub back_faults : View → ℕ → List Step → Faults
back_faults v b ps = sum_all (λ (p : Step). fault (v.back p.target) p.target b p.source) ps

-- what a turn meets cell by cell is sorted by kind
turn-sorted
    : (v : View) (a b k x : ℕ) (s : List ℕ)
    → turn_faults v a b k x s ≡ plus (ident_faults v k s) (plus (onward_faults v a (steps x s k)) (back_faults v b (steps x s k)))
unfolding turn_faults sum_all steps
turn-sorted v a b k x [] = rw (plus_none, plus_none)
turn-sorted v a b k x (y ∷ s) =
    sorted (fault (v.ident y) y ident_word (ident_of k)) (fault (v.forward x) x a y) (fault (v.back y) y b x)
    (ident_faults v k s) (onward_faults v a (steps y s k)) (back_faults v b (steps y s k))
    (turn_faults v a b k y s) (turn-sorted v a b k y s)
  where
    sorted : (i f g is fs gs t : Faults) → t ≡ plus is (plus fs gs)
        → plus f (plus i (plus g t)) ≡ plus (plus i is) (plus (plus f fs) (plus g gs))
    sorted i f g is fs gs t e =
        plus-swap f i (plus g t)
        ∙ ap (λ (r : Faults). plus i (plus f r)) (ap (plus g) e ∙ plus-swap g is (plus fs gs) ∙ ap (plus is) (plus-swap g fs gs))
        ∙ ap (plus i) (plus-swap f is (plus fs (plus g gs)) ∙ ap (plus is) (sym (plus_assoc f fs (plus g gs))))
        ∙ sym (plus_assoc i is (plus (plus f fs) (plus g gs)))

-- the faults in the order in which the words are asked
pub others-sorted : (v : View) (a b k : ℕ) (s : List ℕ)
    → others_faults v a b k s ≡ plus (ident_faults v k (k ∷ s)) (plus (onward_faults v a (steps k s k)) (back_faults v b (steps k s k)))
unfolding others_faults sum_all
others-sorted v a b k s = rw (turn-sorted v a b k k s, plus_assoc)

-- the same of the words of a store, kind by kind
module _ (l : Layout) (w : List ℕ) (k : ℕ) (s : List ℕ) where
  abbrev pub ident_sum : Faults
  ident_sum = ident_faults (view_of l w) k (k ∷ s)

  abbrev pub onward_sum : Faults
  onward_sum = onward_faults (view_of l w) forward_word (steps k s k)

  abbrev pub back_sum : Faults
  back_sum = back_faults (view_of l w) back_word (steps k s k)

  abbrev pub fault_sum : Faults
  fault_sum = others_faults (view_of l w) forward_word back_word k s

  -- sorted as they are asked
  pub sum-sorted : fault_sum ≡ plus ident_sum (plus onward_sum back_sum)
  sum-sorted = others-sorted (view_of l w) forward_word back_word k s

  -- each kind sums up its wrong words
  pub summed-idents : Summed l ident_sum (wrong w (idents_asked l k s))
  summed-idents =
      summed-map l w (λ (c : ℕ). fault ((view_of l w).ident c) c ident_word (ident_of k)) (λ (c : ℕ). write (ident_at l c) (ident_of k))
      (λ c. summed-fault l w c ident_word (ident_of k) (ident_at l c) (ident-word l c)) (k ∷ s)

  pub summed-onward : Summed l onward_sum (wrong w (forwards_asked l k s))
  summed-onward =
      summed-map l w (λ (p : Step). fault ((view_of l w).forward p.source) p.source forward_word p.target)
      (λ (p : Step). write (forward_at l p.source) p.target)
      (λ p. summed-fault l w p.source forward_word p.target (forward_at l p.source) refl) (steps k s k)

  pub summed-back : Summed l back_sum (wrong w (backs_asked l k s))
  summed-back =
      summed-map l w (λ (p : Step). fault ((view_of l w).back p.target) p.target back_word p.source)
      (λ (p : Step). write (back_at l p.target) p.source)
      (λ p. summed-fault l w p.target back_word p.source (back_at l p.target) refl) (steps k s k)

  -- and all sum up all but the count
  pub summed-others : Summed l fault_sum (wrong w (others_asked l k s))
  summed-others =
      subst (λ (f : Faults). Summed l f (wrong w (others_asked l k s))) (sym sum-sorted)
      (both ident_sum (plus onward_sum back_sum) (idents_asked l k s) (forwards_asked l k s ++ backs_asked l k s) summed-idents
      (both onward_sum back_sum (forwards_asked l k s) (backs_asked l k s) summed-onward summed-back))
    where
      both : (f g : Faults) (ps qs : List Write) → Summed l f (wrong w ps) → Summed l g (wrong w qs)
          → Summed l (plus f g) (wrong w (ps ++ qs))
      both f g ps qs p q =
          subst (Summed l (plus f g)) (sym (wrong-append w ps qs)) (summed-plus l f g (wrong w ps) (wrong w qs) p q)

-- sums of what is reversed
sum-snoc {ℓ} : {A : Type ℓ} (g : A → Faults) (s : List A) (y : A) → sum_all g (s ++ y ∷ []) ≡ plus (g y) (sum_all g s)
unfolding sum_all
sum-snoc g [] y = refl
sum-snoc g (x ∷ s) y = ap (plus (g x)) (sum-snoc g s y) ∙ plus-swap (g x) (g y) (sum_all g s)

sum-reverse : (g : ℕ → Faults) (s : List ℕ) → sum_all g (reverse s) ≡ sum_all g s
unfolding sum_all
sum-reverse g [] = refl
sum-reverse g (x ∷ s) = ap (sum_all g) (reverse-cons x s) ∙ sum-snoc g (reverse s) x ∙ ap (plus (g x)) (sum-reverse g s)

step-snoc : (x : ℕ) (s : List ℕ) (y z : ℕ) → steps x (s ++ y ∷ []) z ≡ steps x s y ++ record { source = y; target = z } ∷ []
unfolding steps
step-snoc x [] y z = refl
step-snoc x (c ∷ s) y z = ap (λ (r : List Step). record { source = x; target = c } ∷ r) (step-snoc c s y z)

sum-steps : (g : Step → Faults) (x : ℕ) (s : List ℕ) (z : ℕ)
    → sum_all g (steps z (reverse s) x) ≡ sum_all (λ (p : Step). g (record { source = p.target; target = p.source })) (steps x s z)
unfolding sum_all steps
sum-steps g x [] z = refl
sum-steps g x (y ∷ s) z =
    ap (λ (t : List ℕ). sum_all g (steps z t x)) (reverse-cons y s)
    ∙ ap (sum_all g) (step-snoc z (reverse s) y x)
    ∙ sum-snoc g (steps z (reverse s) y) (record { source = y; target = x })
    ∙ ap (plus (g (record { source = y; target = x }))) (sum-steps g y s z)

-- the faults of the view the other way round are those of the reversed sequence
pub turned-faults : (v : View) (a b k : ℕ) (t : List ℕ) → others_faults (turned v) b a k t ≡ others_faults v a b k (reverse t)
unfolding sum_all
turned-faults v a b k t =
    others-sorted (turned v) b a k t
    ∙ sym (others-sorted v a b k (reverse t) ∙ same)
  where
    same
        : plus (ident_faults v k (k ∷ reverse t)) (plus (onward_faults v a (steps k (reverse t) k)) (back_faults v b (steps k (reverse t) k)))
        ≡ plus (ident_faults v k (k ∷ t)) (plus (onward_faults (turned v) b (steps k t k)) (back_faults (turned v) a (steps k t k)))
    same =
        rw (
          sum-reverse (λ (y : ℕ). fault (v.ident y) y ident_word (ident_of k)) t,
          sum-steps (λ (p : Step). fault (v.forward p.source) p.source a p.target) k t k,
          sum-steps (λ (p : Step). fault (v.back p.target) p.target b p.source) k t k,
        )
        (ap (plus (ident_faults v k (k ∷ t)))
        (plus_comm (back_faults (turned v) a (steps k t k)) (onward_faults (turned v) b (steps k t k))))

-- what a sum says of its words: none of them, its mend, or more than one
summed-none : (l : Layout) (f : Faults) (ps : List Write) → Summed l f ps → length ps ≡ 0 → f ≡ F.None
summed-none l F.None ps p e = refl
summed-none l (F.One c f v) ps p e = absurd (omega (arith, ap length p))
summed-none l F.Many ps p e = absurd (omega arith)

summed-few : (l : Layout) (f : Faults) (ps : List Write) → Summed l f ps → length ps ≤ 1 → mend_of l f ≡ ps
summed-few l F.None ps p e = sym p
summed-few l (F.One c f v) ps p e = sym p
summed-few l F.Many ps p e = absurd (omega arith)

summed-many : (l : Layout) (f : Faults) (ps : List Write) → Summed l f ps → (length ps ≤ 1 → ⊥) → f ≡ F.Many
summed-many l F.None ps p e = absurd (omega (arith, ap length p))
summed-many l (F.One c f v) ps p e = absurd (omega (arith, ap length p))
summed-many l F.Many ps p e = refl

-- at most one word
abbrev pub Few : Faults → Type 0
Few F.None = Unit {0}
Few (F.One c f v) = Unit {0}
Few F.Many = ⊥

pub few-summed : (l : Layout) (f : Faults) (ps : List Write) → Summed l f ps → length ps ≤ 1 → Few f
few-summed l F.None ps p e = tt
few-summed l (F.One c f v) ps p e = tt
few-summed l F.Many ps p e = absurd (omega arith)

-- faults that are few are not many
few-not : (f : Faults) → Few f → are_many f ≡ false
few-not F.None h = refl
few-not (F.One c f v) h = refl
few-not F.Many h = absurd h

-- the choice between two candidates that are one: a wrong back link is no wrong forward link
choose-same : (x : Walk) (n : ℕ) → Few x.faults → choose x x n ≡ Ok (ahead x)
choose-same x n h = by (decides x.faults) refl
  where
    no_rival : (f : Faults) → decides f ≡ false → is_rival f ≡ false
    no_rival F.None e = refl
    no_rival (F.One c f v) e = let b : f ≡ 2 = eqb-true f back_word (not-false _ e) in ne_eqb f forward_word (λ q. omega (arith, q, b))
    no_rival F.Many e = refl

    by : (b : Bool) → decides x.faults ≡ b → choose x x n ≡ Ok (ahead x)
    by true e = decided-alone x x n e
    by false e = rw (e, few-not x.faults h, no_rival x.faults e)

-- and where only one fits
choose-first : (x y : Walk) (n : ℕ) → Few x.faults → y.faults ≡ F.Many → choose x y n ≡ Ok (ahead x)
choose-first x y n h e = by (decides x.faults) refl
  where
    by : (b : Bool) → decides x.faults ≡ b → choose x y n ≡ Ok (ahead x)
    by true d = decided-alone x y n d
    by false d = rw (d, few-not x.faults h, e)

choose-second : (x y : Walk) (n : ℕ) → x.faults ≡ F.Many → Few y.faults → choose x y n ≡ Ok (behind y)
choose-second x y n e h = rw (e, few-not y.faults h)

choose-none : (x y : Walk) (n : ℕ) → x.faults ≡ F.Many → y.faults ≡ F.Many → choose x y n ≡ Err NoFit
choose-none x y n e h = rw (e, h)

-- all faults are of word b
abbrev OfWord : ℕ → ℕ → ℕ → Type 0
OfWord b c f = f ≡ b

word_sum : (b : ℕ) (g : Step → Faults) → ((p : Step) → Every (OfWord b) (g p)) → (ps : List Step) → Every (OfWord b) (sum_all g ps)
unfolding sum_all
word_sum b g h [] = record { each = tt }
word_sum b g h (p ∷ ps) = every-plus (h p) (word_sum b g h ps)

-- one fault, of word b
abbrev OneOf : ℕ → Faults → Type 0
OneOf b f = (c : ℕ) × (v : ℕ) × (f ≡ F.One c b v)

one-summed
    : (l : Layout) (b : ℕ) (f : Faults) (ps : List Write) → Every (OfWord b) f → Summed l f ps → (length ps ≡ 0 → ⊥) → length ps ≤ 1 → OneOf b f
one-summed l b F.None ps q p n e = absurd (n (ap length p))
one-summed l b (F.One c f v) ps q p n e = (c, v, ap (λ (x : ℕ). F.One c x v) q.each)
one-summed l b F.Many ps q p n e = absurd (omega arith)

-- the walk through s, as it is found
abbrev pub walk_sum : Layout → List ℕ → ℕ → List ℕ → Walk
walk_sum l w k s = walk_with (fault_sum l w k s) (length s)

-- s is chosen, and x has its faults and its length
abbrev Taken : Layout → List ℕ → ℕ → List ℕ → Walk → Type 0
Taken l w k s x =
    (fit_of l w k ≡ only s) × (mend_of l x.faults ≡ wrong w (others_asked l k s)) × (x.faults ≡ fault_sum l w k s) × (x.members ≡ length s)

-- what the decision by the walks says of the decision on the words
abbrev pub Told : Layout → List ℕ → ℕ → Result Chosen Refusal → Type 0
Told l w k (Err r) = (rest : Option Refusal) → fit_refusal (fit_of l w k) rest ≡ Some r
Told l w k (Ok c) = Taken l w k (cond c.backward (backward_of l w k) (sequence_of l w k)) c.walk

module _ (l : Layout) (w : List ℕ) (k : ℕ) (h : k < l.lists) where
  -- the two candidates
  abbrev Ahead : List ℕ
  Ahead = sequence_of l w k

  abbrev Behind : List ℕ
  Behind = backward_of l w k

  -- with at most one wrong word beside the count, a wrong back link is the only fault, and so is a wrong forward link
  back-only
      : (s : List ℕ) → length (wrong w (others_asked l k s)) ≤ 1 → (length (wrong w (backs_asked l k s)) ≡ 0 → ⊥)
      → OneOf back_word (fault_sum l w k s)
  back-only s f n =
      let i : length (wrong w (idents_asked l k s)) ≡ 0 = omega (arith, wrong-others l w k s) in
      let o : length (wrong w (forwards_asked l k s)) ≡ 0 = omega (arith, wrong-others l w k s) in
      let b : length (wrong w (backs_asked l k s)) ≤ 1 = omega (arith, wrong-others l w k s) in
      let e : fault_sum l w k s ≡ back_sum l w k s =
      sum-sorted l w k s
      ∙ rw (
        summed-none l (ident_sum l w k s) _ (summed-idents l w k s) i,
        summed-none l (onward_sum l w k s) _ (summed-onward l w k s) o,
      ) in
      subst (OneOf back_word) (sym e)
      (one-summed l back_word (back_sum l w k s) (wrong w (backs_asked l k s))
      (word_sum back_word (λ (p : Step). fault ((view_of l w).back p.target) p.target back_word p.source)
      (λ p. every-fault ((view_of l w).back p.target) p.target back_word p.source refl) (steps k s k))
      (summed-back l w k s) n b)

  onward-only
      : (s : List ℕ) → length (wrong w (others_asked l k s)) ≤ 1 → (length (wrong w (forwards_asked l k s)) ≡ 0 → ⊥)
      → OneOf forward_word (fault_sum l w k s)
  onward-only s f n =
      let i : length (wrong w (idents_asked l k s)) ≡ 0 = omega (arith, wrong-others l w k s) in
      let o : length (wrong w (backs_asked l k s)) ≡ 0 = omega (arith, wrong-others l w k s) in
      let b : length (wrong w (forwards_asked l k s)) ≤ 1 = omega (arith, wrong-others l w k s) in
      let e : fault_sum l w k s ≡ onward_sum l w k s =
      sum-sorted l w k s
      ∙ rw (
        summed-none l (ident_sum l w k s) _ (summed-idents l w k s) i,
        summed-none l (back_sum l w k s) _ (summed-back l w k s) o,
      ) (plus_none (onward_sum l w k s)) in
      subst (OneOf forward_word) (sym e)
      (one-summed l forward_word (onward_sum l w k s) (wrong w (forwards_asked l k s))
      (word_sum forward_word (λ (p : Step). fault ((view_of l w).forward p.source) p.source forward_word p.target)
      (λ p. every-fault ((view_of l w).forward p.source) p.source forward_word p.target refl) (steps k s k))
      (summed-onward l w k s) n b)

  -- a candidate that fits has at most one fault, which its mend mends; one that does not has many
  few-yes : (s : List ℕ) → few_wrong l w k s ≡ true → length (wrong w (others_asked l k s)) ≤ 1
  unfolding few_wrong
  few-yes s e = leb-true _ _ e

  many-no : (s : List ℕ) → few_wrong l w k s ≡ false → fault_sum l w k s ≡ F.Many
  unfolding few_wrong
  many-no s e =
      summed-many l (fault_sum l w k s) (wrong w (others_asked l k s)) (summed-others l w k s)
      (λ f. omega (arith, leb-false (length (wrong w (others_asked l k s))) 1 e))

  few-yes-sum : (s : List ℕ) → few_wrong l w k s ≡ true → Few (fault_sum l w k s)
  few-yes-sum s e = few-summed l (fault_sum l w k s) (wrong w (others_asked l k s)) (summed-others l w k s) (few-yes s e)

  -- so, if it is chosen, its walk is
  taken : (s : List ℕ) → few_wrong l w k s ≡ true → fit_of l w k ≡ only s → Taken l w k s (walk_sum l w k s)
  taken s e q = (
    q,
    summed-few l (fault_sum l w k s) (wrong w (others_asked l k s)) (summed-others l w k s) (few-yes s e),
    refl,
    rw (few-not (fault_sum l w k s) (few-yes-sum s e)),
  )

  -- the decision on the words, by its questions
  fit-by : (a b c m n : Bool) → few_wrong l w k Ahead ≡ a → few_wrong l w k Behind ≡ b → same Ahead Behind ≡ c → has_count l w k Ahead ≡ m → has_count l w k Behind ≡ n
      → fit_of l w k ≡ fitting a b c m n Ahead Behind
  unfolding fit_of
  fit-by a b c m n p q e x y = rw (p, q, e, x, y)

  -- both decisions where two fit: the count decides
  two-told : (p : few_wrong l w k Ahead ≡ true) (q : few_wrong l w k Behind ≡ true) → same Ahead Behind ≡ false → (m n : Bool) → has_count l w k Ahead ≡ m → has_count l w k Behind ≡ n
      → Told l w k (choose (walk_sum l w k Ahead) (walk_sum l w k Behind) (count_in l w k))
  unfolding has_count
  two-told p q e m n x y =
      subst (Told l w k) (sym both) (by m n (fit-by true true false m n p q e x y))
    where
      apart : Ahead ≡ Behind → ⊥
      apart d = true≢false (sym (same_refl Ahead) ∙ ap (same Ahead) d ∙ e)

      first : OneOf back_word (fault_sum l w k Ahead)
      first =
          back-only Ahead (few-yes Ahead p)
          (λ z. apart (sym (back-candidate l w k h Ahead (few-fits l w k Ahead h (forward-nodes l w k h) (few-yes Ahead p)) z)))

      second : OneOf forward_word (fault_sum l w k Behind)
      second =
          onward-only Behind (few-yes Behind q)
          (λ z. apart (forward-candidate l w k h Behind (few-fits l w k Behind h (back-nodes l w k h) (few-yes Behind q)) z))

      both : choose (walk_sum l w k Ahead) (walk_sum l w k Behind) (count_in l w k) ≡ by_count m n (walk_sum l w k Ahead) (walk_sum l w k Behind)
      both = rw (first.2, second.2, x, y)

      by : (m n : Bool) → fit_of l w k ≡ W.by_count m n Ahead Behind → Told l w k (by_count m n (walk_sum l w k Ahead) (walk_sum l w k Behind))
      by true true z = λ rest. rw z
      by true false z = taken Ahead p z
      by false true z = taken Behind q z
      by false false z = λ rest. rw z

  -- both decisions side by side, case by case
  told-by : Told l w k (choose (walk_sum l w k Ahead) (walk_sum l w k Behind) (count_in l w k))
  told-by =
      by (few_wrong l w k Ahead) refl (few_wrong l w k Behind) refl (same Ahead Behind) refl (has_count l w k Ahead) refl (has_count l w k Behind) refl
    where
      by : (a : Bool) → few_wrong l w k Ahead ≡ a → (b : Bool) → few_wrong l w k Behind ≡ b → (c : Bool) → same Ahead Behind ≡ c
          → (m : Bool) → has_count l w k Ahead ≡ m → (n : Bool) → has_count l w k Behind ≡ n
          → Told l w k (choose (walk_sum l w k Ahead) (walk_sum l w k Behind) (count_in l w k))
      by true p true q true e m x n y =
          subst (Told l w k)
          (sym (ap (λ (s : List ℕ). choose (walk_sum l w k Ahead) (walk_sum l w k s) (count_in l w k)) (sym (same-yes Ahead Behind e))
          ∙ choose-same (walk_sum l w k Ahead) (count_in l w k) (few-yes-sum Ahead p)))
          (taken Ahead p (fit-by true true true m n p q e x y))
      by true p true q false e m x n y = two-told p q e m n x y
      by true p false q c e m x n y =
          subst (Told l w k) (sym (choose-first (walk_sum l w k Ahead) (walk_sum l w k Behind) (count_in l w k) (few-yes-sum Ahead p) (many-no Behind q)))
          (taken Ahead p (fit-by true false c m n p q e x y))
      by false p true q c e m x n y =
          subst (Told l w k) (sym (choose-second (walk_sum l w k Ahead) (walk_sum l w k Behind) (count_in l w k) (many-no Ahead p) (few-yes-sum Behind q)))
          (taken Behind q (fit-by false true c m n p q e x y))
      by false p false q c e m x n y =
          subst (Told l w k) (sym (choose-none (walk_sum l w k Ahead) (walk_sum l w k Behind) (count_in l w k) (many-no Ahead p) (many-no Behind q))) (λ rest. rw (fit-by false false c m n p q e x y))

  -- the decision by the walks is the decision on the words
  pub fit-told : Told l w k (fit_in l (view_of l w) k (count_in l w k))
  unfolding fit_in
  fit-told =
      let t = walked l (turned (view_of l w)) k in
      subst (λ (y : Walk). Told l w k (choose (walk_sum l w k Ahead) y (count_in l w k)))
      (sym (ap₂ walk_with (turned-faults (view_of l w) forward_word back_word k t) (sym (length-reverse t)))) told-by

-- the members by the walk that was chosen are those of the sequence that is
pub members-told
    : (l : Layout) (w : List ℕ) (k : ℕ) → k < l.lists → result_err (fit_in l (view_of l w) k (count_in l w k)) ≡ None → (c : ℕ)
    → (c ∈ members_by l (view_of l w) (is_backward (fit_in l (view_of l w) k (count_in l w k))) k → c ∈ fitting_of l w k)
    × (c ∈ fitting_of l w k → c ∈ members_by l (view_of l w) (is_backward (fit_in l (view_of l w) k (count_in l w k))) k)
members-told l w k h z c = by (fit_in l (view_of l w) k (count_in l w k)) z (fit-told l w k h)
  where
    by : (r : Result Chosen Refusal) → result_err r ≡ None → Told l w k r
        → (c ∈ members_by l (view_of l w) (is_backward r) k → c ∈ fitting_of l w k)
        × (c ∈ fitting_of l w k → c ∈ members_by l (view_of l w) (is_backward r) k)
    by (Err r) z t = absurd (cc)
    by (Ok x) z t = rw t.0 (way x.backward)
      where
        way : (b : Bool) → (c ∈ members_by l (view_of l w) b k → c ∈ cond b (backward_of l w k) (sequence_of l w k))
            × (c ∈ cond b (backward_of l w k) (sequence_of l w k) → c ∈ members_by l (view_of l w) b k)
        way false = ((λ m. m), (λ m. m))
        way true = ((λ m. reverse-in (walked l (turned (view_of l w)) k) m), (λ m. in-reverse (walked l (turned (view_of l w)) k) m))

-- the sequence that is chosen, its faults and its length
pub chosen-told
    : (l : Layout) (w : List ℕ) (k : ℕ) → k < l.lists → result_err (fit_in l (view_of l w) k (count_in l w k)) ≡ None
    → Taken l w k (fitting_of l w k) (walk_in (fit_in l (view_of l w) k (count_in l w k)))
chosen-told l w k h z = by (fit_in l (view_of l w) k (count_in l w k)) z (fit-told l w k h)
  where
    by : (r : Result Chosen Refusal) → result_err r ≡ None → Told l w k r → Taken l w k (fitting_of l w k) (walk_in r)
    by (Err r) z t = absurd (cc)
    by (Ok x) z t = rw t.0 (refl, t.1, t.2, t.3)
