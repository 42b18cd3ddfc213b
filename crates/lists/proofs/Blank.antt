-- Records that are blank: as the words are tested, as they are asked for, and the free nodes that have another.
use Prim.Native.Nat.{ℕ, zero, suc, ◌+◌, ◌<◌, ◌≤◌}
use mathlib.Core.Path.{◌≡◌, refl, ap, ◌∙◌, sym}
use mathlib.Core.List.{List, [], ◌∷◌}
use mathlib.Core.Bool.{Bool, true, false, not, ◌&&◌, and-eq-true_iff}
use native.Mathlib.Omega.{arith}
use native.Mathlib.Nat.{add-zero}
use lib.Dec.{eqb}
use lib.ListN.{length, get_or, replicate}
use borrow.Author.Tests.{eq-eqb, eqb-true}
use Rattle.sequences.specs.Sequence.{◌∈◌, range}
use Rattle.sequences.proofs.Members.{in_all}
use Rattle.sequences.proofs.Range.{in-range, range-between}
use Rattle.sequences.proofs.Filter.{in-filter, filter_none}
use Rattle.stores.specs.Stores.{in_row}
use Rattle.layout.specs.declared.Layout.{Layout}
use Rattle.layout.specs.Words.{tail_words, record_at, is_free}
use Rattle.lists.specs.Lists.{Agrees, Blank, blank_asked}
use Rattle.lists.specs.Decide.{View, view_of, blank_from, unwiped}

-- words that are tested blank are 0, one by one, and the other way round
pub from-words : (w : List ℕ) (a n : ℕ) → blank_from w a n ≡ true → (f : ℕ) → f < n → get_or w (a + f) 0 ≡ 0
unfolding blank_from
from-words w a zero e f h = absurd (omega arith)
from-words w a (suc n) e zero h = ap (λ (b : ℕ). get_or w b 0) (add-zero a) ∙ eqb-true _ 0 ((and-eq-true_iff _ _).0 e).0
from-words w a (suc n) e (suc f) h =
    let s : a + suc f ≡ suc a + f = omega arith in
    ap (λ (b : ℕ). get_or w b 0) s ∙ from-words w (suc a) n ((and-eq-true_iff (eqb (get_or w a 0) 0) (blank_from w (suc a) n)).0 e).1 f (omega arith)

pub words-from : (w : List ℕ) (a n : ℕ) → ((f : ℕ) → f < n → get_or w (a + f) 0 ≡ 0) → blank_from w a n ≡ true
unfolding blank_from
words-from w a zero h = refl
words-from w a (suc n) h =
    (and-eq-true_iff (eqb (get_or w a 0) 0) (blank_from w (suc a) n)).1 (
      eq-eqb _ 0 (ap (λ (b : ℕ). get_or w b 0) (sym (add-zero a)) ∙ h 0 (omega arith)),
      words-from w (suc a) n (λ f g. let s : suc a + f ≡ a + suc f = omega arith in ap (λ (b : ℕ). get_or w b 0) s ∙ h (suc f) (omega arith)),
    )

-- so of a node
pub blank-words : (l : Layout) (w : List ℕ) (c : ℕ) → (view_of l w).blank c ≡ true → Blank l w c
blank-words l w c e = from-words w (record_at l c) (tail_words l) e

pub words-blank : (l : Layout) (w : List ℕ) (c : ℕ) → Blank l w c → (view_of l w).blank c ≡ true
words-blank l w c h = words-from w (record_at l c) (tail_words l) h

-- as it is asked
row-agrees : (w : List ℕ) (a n : ℕ) → ((f : ℕ) → f < n → get_or w (a + f) 0 ≡ 0) → Agrees w (in_row a (replicate n 0))
unfolding in_row
row-agrees w a zero h = tt
row-agrees w a (suc n) h = (
  ap (λ (b : ℕ). get_or w b 0) (sym (add-zero a)) ∙ h 0 (omega arith),
  row-agrees w (a + 1) n (λ f g. let s : a + 1 + f ≡ a + suc f = omega arith in ap (λ (b : ℕ). get_or w b 0) s ∙ h (suc f) (omega arith)),
)

agrees-row : (w : List ℕ) (a n : ℕ) → Agrees w (in_row a (replicate n 0)) → (f : ℕ) → f < n → get_or w (a + f) 0 ≡ 0
unfolding in_row
agrees-row w a zero h f g = absurd (omega arith)
agrees-row w a (suc n) h zero g = ap (λ (b : ℕ). get_or w b 0) (add-zero a) ∙ h.0
agrees-row w a (suc n) h (suc f) g =
    let s : a + suc f ≡ a + 1 + f = omega arith in ap (λ (b : ℕ). get_or w b 0) s ∙ agrees-row w (a + 1) n h.1 f (omega arith)

pub blank-agrees : (l : Layout) (w : List ℕ) (c : ℕ) → Blank l w c → Agrees w (blank_asked l c)
blank-agrees l w c = row-agrees w (record_at l c) (tail_words l)

pub agrees-blank : (l : Layout) (w : List ℕ) (c : ℕ) → Agrees w (blank_asked l c) → Blank l w c
agrees-blank l w c = agrees-row w (record_at l c) (tail_words l)

-- no free node has a record
abbrev is_unwiped : View → ℕ → Bool
is_unwiped v c = is_free (v.ident c) && not (v.blank c)

none_in : (s : List ℕ) (x : ℕ) → length s ≡ 0 → x ∈ s → ⊥
none_in [] x e m = elim m [ ]
none_in (y ∷ s) x e m = omega arith

pub none-unwiped : (v : View) (a n : ℕ) → length (unwiped v a n) ≡ 0 → (c : ℕ) → a ≤ c → c < a + n → v.ident c ≡ 0 → v.blank c ≡ true
none-unwiped v a n e c low high z = by (v.blank c) refl
  where
    by : (b : Bool) → v.blank c ≡ b → b ≡ true
    by true q = refl
    by false q =
        absurd
        (none_in (unwiped v a n) c e
        (in-filter (is_unwiped v) (range a n) c (in-range a n c low high) ((and-eq-true_iff _ _).1 (eq-eqb (v.ident c) 0 z, ap not q))))

pub all-wiped : (v : View) (a n : ℕ) → ((c : ℕ) → a ≤ c → c < a + n → v.ident c ≡ 0 → v.blank c ≡ true) → unwiped v a n ≡ []
all-wiped v a n h =
    filter_none (is_unwiped v) (range a n) (in_all _ (range a n) (λ c m. let b = range-between a n c m in by c (h c b.0 b.1) (is_free (v.ident c)) refl))
  where
    by : (c : ℕ) → (v.ident c ≡ 0 → v.blank c ≡ true) → (b : Bool) → is_free (v.ident c) ≡ b → (b && not (v.blank c)) ≡ false
    by c k false q = refl
    by c k true q = ap not (k (eqb-true (v.ident c) 0 q))
