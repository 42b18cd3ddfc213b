-- Recoveries one after another, each with its allowance: together they make the stores of the first one's plan. That is shown of any
-- invariant which lets recovery go on: its plan is a list of stores, and after some of them the invariant holds and the plan is the rest.
use Prim.Native.Nat.{ℕ, ◌+◌, ◌≤◌}
use mathlib.Core.Path.{◌≡◌, refl, ap, ◌∙◌, sym, subst}
use mathlib.Core.List.{List, [], ◌∷◌, ◌++◌, append_assoc, append-nil}
use native.Mathlib.Omega.{arith}
use lib.ListN.{length, take, drop, length-append, take-append-drop}
use lib.Seq.{take_all}
use Rattle.std.specs.Prelude.{Ok}
use Rattle.sequences.specs.Sequence.{All}
use Rattle.calls.specs.Answers.{answer_of, answer_stores}
use Rattle.stores.specs.declared.Outcome.TheVariants.{Done}
use Rattle.stores.specs.Stores.{Write, run, applied, Plan, refuse, stores, words_after, made_by}
use Rattle.stores.proofs.Outcomes.{outcome-done, outcome-made}
use Rattle.stores.proofs.Laws.{run-append}
use Rattle.recovery.specs.Plan.{recover_plan}
use Rattle.courses.specs.Course.{needed, words_through, answers_through, stores_through, NotRefused, total}

-- the stores of a call, the words it leaves and the number it answers
made-words : (p : Plan) (m : ℕ) (y : List ℕ) → words_after p m y ≡ run (made_by p m) y
unfolding run
made-words (refuse n) m y = refl
made-words (stores ps) m y = refl

made-number : (p : Plan) (m : ℕ) → answer_stores (answer_of p m) ≡ length (made_by p m)
made-number (refuse n) m = refl
made-number (stores ps) m = outcome-made ps m

-- so with several calls
through-run : (ms y : List ℕ) → words_through ms y ≡ run (stores_through ms y) y
unfolding words_through stores_through run
through-run [] y = refl
through-run (m ∷ ms) y =
    let p = recover_plan y in
    let y₁ = words_after p m y in
    through-run ms y₁ ∙ ap (λ (v : List ℕ). run (stores_through ms y₁) v) (made-words p m y) ∙ sym (run-append (made_by p m) (stores_through ms y₁) y)

through-number : (ms y : List ℕ) → total (answers_through ms y) ≡ length (stores_through ms y)
unfolding answers_through stores_through total
through-number [] y = refl
through-number (m ∷ ms) y =
    let p = recover_plan y in
    let y₁ = words_after p m y in
    omega (arith, made-number p m, through-number ms y₁, length-append (made_by p m) (stores_through ms y₁))

-- and the last of them
pub words_last : (ms : List ℕ) (last : ℕ) (y : List ℕ)
    → words_through (ms ++ last ∷ []) y ≡ words_after (recover_plan (words_through ms y)) last (words_through ms y)
unfolding words_through
words_last [] last y = refl
words_last (m ∷ ms) last y = words_last ms last (words_after (recover_plan y) m y)

stores-last : (ms : List ℕ) (last : ℕ) (y : List ℕ)
    → stores_through (ms ++ last ∷ []) y ≡ stores_through ms y ++ made_by (recover_plan (words_through ms y)) last
unfolding words_through stores_through
stores-last [] last y = append-nil (made_by (recover_plan y) last)
stores-last (m ∷ ms) last y =
    let p = recover_plan y in
    let y₁ = words_after p m y in
    ap (λ (qs : List Write). made_by p m ++ qs) (stores-last ms last y₁)
    ∙ sym (append_assoc (made_by p m) (stores_through ms y₁) (made_by (recover_plan (words_through ms y₁)) last))

-- recoveries of the words y with these allowances, the last of which is enough: they are not refused, and make the stores ps
pub record Recovered (y : List ℕ) (ps : List Write) (ms : List ℕ) (last : ℕ) : Type 0 where
  pub accepted : All NotRefused (answers_through ms y)
  pub done : answer_of (recover_plan (words_through ms y)) last ≡ Ok (Done (needed (recover_plan (words_through ms y))))
  pub made : stores_through (ms ++ last ∷ []) y ≡ ps
  pub words : words_through (ms ++ last ∷ []) y ≡ run ps y
  pub adds : total (answers_through ms y) + answer_stores (answer_of (recover_plan (words_through ms y)) last) ≡ length ps

module _ (I : List ℕ → Type 0) (ps : List ℕ → List Write) (plan : (y : List ℕ) → I y → recover_plan y ≡ stores (ps y))
    (after : (y : List ℕ) → I y → (m : ℕ) → I (applied (ps y) m y) × (ps (applied (ps y) m y) ≡ drop m (ps y))) where
  -- any number of them
  through : (ms y : List ℕ) → I y
      → I (words_through ms y) × (stores_through ms y ++ ps (words_through ms y) ≡ ps y) × All NotRefused (answers_through ms y)
  unfolding words_through answers_through stores_through
  through [] y i = (i, refl, tt)
  through (m ∷ ms) y i =
      subst
      (λ (p : Plan).
      I (words_through ms (words_after p m y))
      × ((made_by p m ++ stores_through ms (words_after p m y)) ++ ps (words_through ms (words_after p m y)) ≡ ps y)
      × (NotRefused (answer_of p m) × All NotRefused (answers_through ms (words_after p m y))))
      (sym (plan y i))
      (let a = after y i m in
      let y₁ = applied (ps y) m y in
      let r = through ms y₁ a.0 in (
        r.0,
        append_assoc (take m (ps y)) (stores_through ms y₁) (ps (words_through ms y₁)) ∙ ap (λ (qs : List Write). take m (ps y) ++ qs) (r.1 ∙ a.1)
            ∙ take-append-drop m (ps y),
        (tt, r.2),
      ))

  -- and a last one with an allowance that is enough
  module _ (ms : List ℕ) (last : ℕ) (y : List ℕ) (i : I y) (enough : needed (recover_plan (words_through ms y)) ≤ last) where
    abbrev y₁ : List ℕ
    y₁ = words_through ms y

    plan₁ : recover_plan y₁ ≡ stores (ps y₁)
    plan₁ = plan y₁ (through ms y i).0

    enough₁ : length (ps y₁) ≤ last
    enough₁ = subst (λ (p : Plan). needed p ≤ last) plan₁ enough

    made : stores_through (ms ++ last ∷ []) y ≡ ps y
    made =
        stores-last ms last y
        ∙ ap (λ (qs : List Write). stores_through ms y ++ qs) (ap (λ (p : Plan). made_by p last) plan₁ ∙ take_all last (ps y₁) enough₁)
        ∙ (through ms y i).1

    pub recovered : Recovered y (ps y) ms last
    recovered =
        record {
          accepted = (through ms y i).2;
          done = subst (λ (p : Plan). answer_of p last ≡ Ok (Done (needed p))) (sym plan₁) (ap Ok (sym (outcome-done (ps y₁) last enough₁)));
          made = made;
          words = through-run (ms ++ last ∷ []) y ∙ ap (λ (qs : List Write). run qs y) made;
          adds =
              omega (
                arith,
                through-number ms y,
                made-number (recover_plan y₁) last,
                sym (length-append (stores_through ms y) (made_by (recover_plan y₁) last)) ∙ ap length (sym (stores-last ms last y) ∙ made),
              );
        }
