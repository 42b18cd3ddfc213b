-- Two runs of stores, one behind the other: the second gets what the first leaves of the allowance.
use Rattle.std.specs.Prelude.{◌≡◌, ℕ, ◌+◌, ◌-◌, ◌≤◌, List, ◌++◌, length, take}
use Rattle.std.proofs.Common.{arith, ap, ap₂, ◌∙◌, sym}
use lib.ListN.{length-append}
use Rattle.stores.specs.declared.Outcome.{Outcome}
use Rattle.stores.specs.declared.Outcome.TheVariants.{Done, Stopped}
use Rattle.stores.specs.declared.Write.{Write}
use Rattle.stores.specs.Stores.{outcome_of, onward}
use Rattle.stores.proofs.Outcomes.{outcome-stopped, outcome-first, outcome-second, done-whole, undone-short}
use Rattle.encoding.specs.Form.{FormLaws}
use Rattle.encoding.proofs.Runs.{after-first, after-append}

-- of the stores ps and qs with allowance m, the first have outcome o, and leave c of b
module _ {A : Type 0} {words_in : List A → List ℕ} {after : List Write → List A → List A} (laws : FormLaws words_in after)
    (ps qs : List Write) (m : ℕ) {b c : List A} {o : Outcome} (e : o ≡ outcome_of ps m) (f : c ≡ after (take m ps) b) where
  -- these are not all made
  pub first-stopped : ((n : ℕ) → o ≡ Done n → ⊥) → (Stopped m ≡ outcome_of (ps ++ qs) m) × (c ≡ after (take m (ps ++ qs)) b)
  first-stopped u =
      let h = undone-short ps m (λ n q. u n (e ∙ q)) in
      (sym (outcome-first ps qs m h), f ∙ sym (after-first laws ps qs m b (omega (arith, h))))

  -- they are
  module _ {n : ℕ} (d : o ≡ Done n) where
    pub first-done : (length ps ≤ m) × (n ≡ length ps)
    first-done = done-whole ps m n (sym e ∙ d)

    -- and the others have outcome r, and leave a
    module _ {a : List A} {r : Outcome} (g : r ≡ outcome_of qs (m - n)) (h : a ≡ after (take (m - n) qs) c) where
      pub both-made : a ≡ after (take m (ps ++ qs)) b
      both-made = h ∙ ap₂ (λ x y. after (take (m - x) qs) y) first-done.1 f ∙ sym (after-append laws ps qs m b)

      pub second-stopped : ((k : ℕ) → r ≡ Done k → ⊥) → Stopped m ≡ outcome_of (ps ++ qs) m
      second-stopped u =
          let s = undone-short qs (m - n) (λ k q. u k (g ∙ q)) in
          outcome-stopped (ps ++ qs) m (omega (arith, s, first-done, length-append ps qs))

      pub second-done : {k : ℕ} → r ≡ Done k → Done (n + k) ≡ outcome_of (ps ++ qs) m
      second-done {k} q =
          ap (λ x. Done (x + k)) first-done.1
          ∙ ap (onward (length ps)) (sym q ∙ g ∙ ap (λ x. outcome_of qs (m - x)) first-done.1)
          ∙ sym (outcome-second ps qs m first-done.0)
