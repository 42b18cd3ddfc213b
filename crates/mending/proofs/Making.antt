-- Stores of a list made segment by segment under an allowance: where such a run stands, and a run that follows on another.
use Prim.Native.Nat.{ℕ, ◌+◌, ◌-◌, ◌≤◌, ◌<◌}
use mathlib.Core.Path.{◌≡◌, refl, ap, ◌∙◌, sym}
use mathlib.Core.List.{List, [], ◌∷◌, ◌++◌}
use mathlib.Core.Bool.{Bool, true, false}
use native.Mathlib.Omega.{arith}
use lib.Dec.{ltb}
use lib.ListN.{length, take, drop, length-append, length-drop}
use lib.Seq.{take-add, take-append-le, drop-drop, drop-append_seam}
use borrow.Author.Tests.{ltb-true, ltb-false}
use Rattle.stores.specs.declared.Outcome.{Outcome}
use Rattle.stores.specs.declared.Outcome.TheVariants.{Done, Stopped}
use Rattle.stores.specs.Stores.{Write, run, outcome_of}
use Rattle.stores.proofs.Outcomes.{outcome-stopped, outcome-done, outcome-first, outcome-second}
use Rattle.encoding.specs.Form.{FormLaws}
use Rattle.encoding.proofs.Runs.{length-after, after-none, after-all, after-append, after-first}
use Rattle.mending.specs.Mending.{outcome_on, made_on}

-- of the stores ps, which are to be made in b under the allowance m, the first n are made, which leaves c; the others are left
pub record Made {A : Type 0} (after : List Write → List A → List A) (ps : List Write) (m : ℕ) (b : List A) (n : ℕ) (left : List Write) (c : List A) : Type 0 where
  pub within : n ≤ length ps
  pub allowed : n ≤ m
  pub rest : drop n ps ≡ left
  pub lent : c ≡ after (take n ps) b

-- the run has ended
abbrev pub Ended : {A : Type 0} → (List Write → List A → List A) → List Write → ℕ → List A → Outcome → List A → Type 0
Ended after ps m b r c = (r ≡ outcome_of ps m) × (c ≡ after (take m ps) b)

module _ {A : Type 0} {words_in : List A → List ℕ} {after : List Write → List A → List A} (laws : FormLaws words_in after) where
  -- no store is to be made
  pub none_made : (ps : List Write) (m : ℕ) (b : List A) → ps ≡ [] → Ended after ps m b (Done 0) b
  none_made ps m b e =
      rw e (outcome-done [] m (omega arith), sym (after-all laws [] m b (omega arith) ∙ laws.none b))

  module _ {ps : List Write} {m : ℕ} {b : List A} where
    -- none is made yet
    pub made-none : Made after ps m b 0 ps b
    made-none = record { within = omega arith; allowed = omega arith; rest = refl; lent = sym (after-none laws ps b) }

    module _ {n : ℕ} {c : List A} where
      -- there are as many words as before
      pub made-length : {left : List Write} → Made after ps m b n left c → length (words_in c) ≡ length (words_in b)
      made-length r = ap (λ (t : List A). length (words_in t)) r.lent ∙ length-after laws (take n ps) b

      -- none is left
      pub made-all : Made after ps m b n [] c → Ended after ps m b (Done n) c
      made-all r =
          let e : n ≡ length ps = omega (arith, r.within, length-drop n ps, ap length r.rest) in (
            ap Done e ∙ outcome-done ps m (omega (arith, e, r.allowed)),
            r.lent ∙ after-all laws ps n b (omega (arith, e)) ∙ sym (after-all laws ps m b (omega (arith, e, r.allowed))),
          )

      -- a segment is next
      module _ (qs left : List Write) (r : Made after ps m b n (qs ++ left) c) where
        whole : length ps ≡ n + (length qs + length left)
        whole = omega (arith, r.within, length-drop n ps, ap length r.rest, length-append qs left)

        part : (j : ℕ) → j ≤ length qs → after (take j qs) c ≡ after (take (n + j) ps) b
        part j h =
            ap (after (take j qs)) r.lent
            ∙ sym (laws.append (take n ps) (take j qs) b)
            ∙ ap (λ (t : List Write). after (take n ps ++ t) b) (sym (ap (take j) r.rest ∙ take-append-le j qs left h))
            ∙ ap (λ (t : List Write). after t b) (sym (take-add n j ps))

        -- all of it is made, or the allowance ends within it
        pub made-on : length qs ≤ m - n → Made after ps m b (n + length qs) left (after (take (m - n) qs) c)
        made-on h =
            record {
              within = omega (arith, whole);
              allowed = omega (arith, h, r.allowed);
              rest = sym (drop-drop (length qs) n ps) ∙ ap (drop (length qs)) r.rest ∙ drop-append_seam qs left;
              lent =
                  after-all laws qs (m - n) c h ∙ sym (after-all laws qs (length qs) c (omega arith)) ∙ part (length qs) (omega arith);
            }

        pub made-stopped : m - n < length qs → Ended after ps m b (Stopped m) (after (take (m - n) qs) c)
        made-stopped h =
            let e : n + (m - n) ≡ m = omega (arith, r.allowed) in (
              outcome-stopped ps m (omega (arith, whole, r.allowed)),
              part (m - n) (omega arith) ∙ ap (λ (j : ℕ). after (take j ps) b) e,
            )

      -- one store is next: it is made, or the allowance is used up
      module _ (p : Write) (left : List Write) (r : Made after ps m b n (p ∷ left) c) where
        pub made-next : n < m → Made after ps m b (n + 1) left (after (p ∷ []) c)
        made-next h =
            let s = made-on (p ∷ []) left r (omega arith) in
            record {
              within = s.within;
              allowed = s.allowed;
              rest = s.rest;
              lent = sym (after-all laws (p ∷ []) (m - n) c (omega arith)) ∙ s.lent;
            }

        pub made-full : n ≡ m → Ended after ps m b (Stopped n) c
        made-full h =
            (ap Stopped h ∙ outcome-stopped ps m (omega (arith, whole (p ∷ []) left r)), r.lent ∙ ap (λ (j : ℕ). after (take j ps) b) h)

  -- stores that follow on others, which were not all made
  pub none-follow : (r : Outcome) (qs : List Write) (m : ℕ) (b : List A) → ((n : ℕ) → r ≡ Done n → ⊥) → (r ≡ outcome_on r qs m) × (b ≡ after (made_on r qs m) b)
  none-follow (Done n) qs m b h = absurd (h n refl)
  none-follow (Stopped n) qs m b h = (refl, sym (laws.none b))

  -- Stores that follow on others are one run with them. Which they are is told by the words that the others leave; where the others are not all
  -- made, none of these is, and it does not matter.
  module _ (ps : List Write) (next : List ℕ → List Write) (m : ℕ) (b : List A) where
    abbrev Left : List A
    Left = after (take m ps) b

    abbrev Both : List Write
    Both = ps ++ next (run ps (words_in b))

    pub one_run : Ended after Both m b (outcome_on (outcome_of ps m) (next (words_in Left)) m) (after (made_on (outcome_of ps m) (next (words_in Left)) m) Left)
    one_run = by (ltb m (length ps)) refl
      where
        by : (c : Bool) → ltb m (length ps) ≡ c
            → Ended after Both m b (outcome_on (outcome_of ps m) (next (words_in Left)) m) (after (made_on (outcome_of ps m) (next (words_in Left)) m) Left)
        by true e =
            let h = ltb-true m (length ps) e in
            rw (sym (outcome-stopped ps m h))
            (sym (outcome-first ps (next (run ps (words_in b))) m h), laws.none Left ∙ sym (after-first laws ps (next (run ps (words_in b))) m b (omega (arith, h))))
        by false e =
            let h = ltb-false m (length ps) e in
            let w : words_in Left ≡ run ps (words_in b) = ap words_in (after-all laws ps m b h) ∙ laws.words ps b in
            rw (sym (outcome-done ps m h)) (
              ap (λ (v : List ℕ). outcome_on (Done (length ps)) (next v) m) w ∙ sym (outcome-second ps (next (run ps (words_in b))) m h),
              ap (λ (v : List ℕ). after (made_on (Done (length ps)) (next v) m) Left) w ∙ sym (after-append laws ps (next (run ps (words_in b))) m b),
            )
