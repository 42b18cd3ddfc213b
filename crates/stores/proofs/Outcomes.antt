-- The outcome of a run of stores, and of a run in segments.
use Prim.Native.Nat.{ℕ, ◌+◌, ◌-◌, ◌≤◌, ◌<◌}
use mathlib.Core.Path.{◌≡◌, refl, ap, ◌∙◌, sym}
use mathlib.Core.List.{List, ◌++◌}
use mathlib.Core.Bool.{Bool, true, false, cond}
use native.Mathlib.Omega.{arith}
use native.Mathlib.Nat.{add_assoc}
use lib.Dec.{ltb}
use lib.ListN.{length, take, length-append}
use lib.Seq.{take_all, length-take-le}
use borrow.Author.Tests.{lt-ltb, le-ltb, ltb-true, ltb-false}
use Rattle.stores.specs.declared.Outcome.{Outcome}
use Rattle.stores.specs.declared.Outcome.TheVariants.{Done, Stopped}
use Rattle.stores.specs.declared.Write.{Write}
use Rattle.stores.specs.Stores.{outcome_at, outcome_of, made_in, onward}

-- done exactly if the allowance suffices
pub outcome-stopped : (ps : List Write) (m : ℕ) → m < length ps → Stopped m ≡ outcome_of ps m
outcome-stopped ps m h = rw (lt-ltb m (length ps) h)

pub outcome-done : (ps : List Write) (m : ℕ) → length ps ≤ m → Done (length ps) ≡ outcome_of ps m
outcome-done ps m h = rw (le-ltb m (length ps) h)

-- as many stores as the allowance lets through
pub outcome-made : (ps : List Write) (m : ℕ) → made_in (outcome_of ps m) ≡ length (take m ps)
outcome-made ps m = by (ltb m (length ps)) refl
  where
    by : (b : Bool) → ltb m (length ps) ≡ b → made_in (cond b (Stopped m) (Done (length ps))) ≡ length (take m ps)
    by true e = sym (length-take-le m ps (omega (arith, ltb-true m (length ps) e)))
    by false e = ap length (sym (take_all m ps (ltb-false m (length ps) e)))

-- so these are the first of them
pub take-made : (ps : List Write) (m : ℕ) → take (made_in (outcome_of ps m)) ps ≡ take m ps
take-made ps m = by (ltb m (length ps)) refl
  where
    by : (b : Bool) → ltb m (length ps) ≡ b → take (made_in (cond b (Stopped m) (Done (length ps)))) ps ≡ take m ps
    by true e = refl
    by false e = take_all (length ps) ps (omega arith) ∙ sym (take_all m ps (ltb-false m (length ps) e))

-- no more than there are, and no more than the allowance
pub made-whole : (n m : ℕ) → made_in (outcome_at n m) ≤ n
made-whole n m = by (ltb m n) refl
  where
    by : (b : Bool) → ltb m n ≡ b → made_in (cond b (Stopped m) (Done n)) ≤ n
    by true e = omega (arith, ltb-true m n e)
    by false e = omega arith

pub made-allowed : (n m : ℕ) → made_in (outcome_at n m) ≤ m
made-allowed n m = by (ltb m n) refl
  where
    by : (b : Bool) → ltb m n ≡ b → made_in (cond b (Stopped m) (Done n)) ≤ m
    by true e = omega arith
    by false e = ltb-false m n e

-- stopped where the first segment is, else the second's, with the stores of the first before it
pub outcome-first : (ps qs : List Write) (m : ℕ) → m < length ps → outcome_of (ps ++ qs) m ≡ Stopped m
outcome-first ps qs m h = sym (outcome-stopped (ps ++ qs) m (omega (arith, length-append ps qs)))

pub outcome-second
    : (ps qs : List Write) (m : ℕ) → length ps ≤ m → outcome_of (ps ++ qs) m ≡ onward (length ps) (outcome_of qs (m - length ps))
outcome-second ps qs m h = by (ltb (m - length ps) (length qs)) refl
  where
    by : (b : Bool) → ltb (m - length ps) (length qs) ≡ b
        → outcome_of (ps ++ qs) m ≡ onward (length ps) (outcome_of qs (m - length ps))
    by true e =
        let short = ltb-true (m - length ps) (length qs) e in
        let all : m ≡ length ps + (m - length ps) = omega arith in
        sym (outcome-stopped (ps ++ qs) m (omega (arith, length-append ps qs, short)))
        ∙ ap Stopped all
        ∙ ap (onward (length ps)) (outcome-stopped qs (m - length ps) short)
    by false e =
        let whole = ltb-false (m - length ps) (length qs) e in
        sym (outcome-done (ps ++ qs) m (omega (arith, length-append ps qs, whole)))
        ∙ ap Done (length-append ps qs)
        ∙ ap (onward (length ps)) (outcome-done qs (m - length ps) whole)

-- what a segment's outcome tells of its length
pub done-whole : (ps : List Write) (m n : ℕ) → outcome_of ps m ≡ Done n → (length ps ≤ m) × (n ≡ length ps)
done-whole ps m n q = by (ltb m (length ps)) refl
  where
    by : (b : Bool) → ltb m (length ps) ≡ b → (length ps ≤ m) × (n ≡ length ps)
    by true e =
        let r : Stopped m ≡ Done n = outcome-stopped ps m (ltb-true m (length ps) e) ∙ q in
        let z : ◌≡◌ {A = ℕ} 0 1 = cc in absurd (omega arith)
    by false e =
        let h = ltb-false m (length ps) e in (h, ap made_in (sym q ∙ sym (outcome-done ps m h)))

pub undone-short : (ps : List Write) (m : ℕ) → ((n : ℕ) → outcome_of ps m ≡ Done n → ⊥) → m < length ps
undone-short ps m q = by (ltb m (length ps)) refl
  where
    by : (b : Bool) → ltb m (length ps) ≡ b → m < length ps
    by true e = ltb-true m (length ps) e
    by false e = absurd (q (length ps) (sym (outcome-done ps m (ltb-false m (length ps) e))))

-- three segments and more
pub onward-onward : (a b : ℕ) (r : Outcome) → onward a (onward b r) ≡ onward (a + b) r
onward-onward a b (Done n) = ap Done (sym (add_assoc a b n))
onward-onward a b (Stopped n) = ap Stopped (sym (add_assoc a b n))
