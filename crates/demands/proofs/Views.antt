-- Which records are blank makes a difference to a request only in free nodes: all else that is decided of a view is the same with any blanks.
use Prim.Native.Nat.{ℕ, zero, suc, ◌+◌, ◌<◌}
use mathlib.Core.Path.{◌≡◌, refl, ap, ap₂}
use mathlib.Core.List.{List, [], ◌∷◌, ◌++◌}
use mathlib.Core.Bool.{Bool, ◌&&◌}
use native.Mathlib.Omega.{arith}
use native.Mathlib.Nat.{add-zero}
use lib.Dec.{eqb}
use lib.ListN.{length, get_or}
use Rattle.layout.specs.declared.Layout.{Layout}
use Rattle.layout.specs.Words.{first_node, ident_of}
use Rattle.lists.specs.Decide.{View, blank_from, sequence_in, turn, holds, all_hold, members, used, unwiped, ordered_in, sound_in}
use Rattle.requests.specs.declared.Request.{Request}
use Rattle.requests.specs.declared.Request.TheVariants.{Check, Whole, Member, Gap, Gaps, Mark}
use Rattle.requests.specs.Requests.{site_in}

-- the same words are blank alike
pub blank-same : (w x : List ℕ) (a n : ℕ) → ((f : ℕ) → f < n → get_or x (a + f) 0 ≡ get_or w (a + f) 0) → blank_from x a n ≡ blank_from w a n
unfolding blank_from
blank-same w x a zero h = refl
blank-same w x a (suc n) h =
    let first : get_or x a 0 ≡ get_or w a 0 = rw (add-zero a) at (h 0 (omega arith)) in
    ap₂ (λ (y : ℕ) (b : Bool). eqb y 0 && b) first
    (blank-same w x (suc a) n (λ f g. let e : suc a + f ≡ a + suc f = omega arith in rw e (h (suc f) (omega arith))))

-- a view with other blanks
abbrev pub with_blank : View → (ℕ → Bool) → View
with_blank v b = record { ident = v.ident; forward = v.forward; back = v.back; blank = b }

module _ (l : Layout) (v : View) (b : ℕ → Bool) where
  turn-with : (k x : ℕ) (s : List ℕ) → turn (with_blank v b) k x s ≡ turn v k x s
  unfolding turn
  turn-with k x [] = refl
  turn-with k x (y ∷ s) =
      ap (λ (r : Bool). eqb (v.forward x) y && (eqb (v.ident y) (ident_of k) && (eqb (v.back y) x && r))) (turn-with k y s)

  holds-with : (k n : ℕ) (s : List ℕ) → holds (with_blank v b) k n s ≡ holds v k n s
  unfolding holds
  holds-with k n s = ap (λ (r : Bool). eqb (v.ident k) (ident_of k) && (r && eqb n (length s))) (turn-with k k s)

  all-hold-with : (count : ℕ → ℕ) (n : ℕ) → all_hold l (with_blank v b) count n ≡ all_hold l v count n
  unfolding all_hold
  all-hold-with count zero = refl
  all-hold-with count (suc n) = ap₂ ◌&&◌ (all-hold-with count n) (holds-with n (count n) (sequence_in l v n))

  members-with : (n : ℕ) → members l (with_blank v b) n ≡ members l v n
  unfolding members
  members-with zero = refl
  members-with (suc n) = ap (λ (s : List ℕ). s ++ sequence_in l v n) (members-with n)

  ordered-with : (count : ℕ → ℕ) → ordered_in l (with_blank v b) count ≡ ordered_in l v count
  unfolding ordered_in
  ordered-with count =
      ap₂ (λ (r : Bool) (s : List ℕ). r && eqb (length s) (length (used v (first_node l) l.nodes))) (all-hold-with count l.lists) (members-with l.lists)

  -- so if the same free nodes have a record that is not blank, as much is sound, and a request gets the same site
  module _ (count : ℕ → ℕ) (e : unwiped (with_blank v b) (first_node l) l.nodes ≡ unwiped v (first_node l) l.nodes) where
    sound-with : sound_in l (with_blank v b) count ≡ sound_in l v count
    unfolding sound_in
    sound-with = ap₂ (λ (r : Bool) (s : List ℕ). r && eqb (length s) 0) (ordered-with count) e

    pub site-with : (q : Request) → site_in l (with_blank v b) count q ≡ site_in l v count q
    unfolding site_in
    site-with Check = rw sound-with
    site-with (Whole k) = rw sound-with
    site-with (Member k p) = rw sound-with
    site-with (Gap k p c m) = rw sound-with
    site-with (Gaps k p c m) = rw sound-with
    site-with (Mark c) = rw sound-with
