-- Plans that are carried out in what is lent, and the words of a record.
use Rattle.std.proofs.Common.{◌≡◌, ℕ, ◌+◌, ◌≤◌, ◌<◌, List, [], length, take, Bool, true, false, Ok, Err, arith, refl, ap, ◌∙◌, sym, subst}
use Rattle.layout.specs.declared.Refusal.{Refusal}
use Rattle.layout.specs.declared.Refusal.TheVariants.{Size}
use Rattle.layout.specs.Words.{ask, layout_of}
use Rattle.stores.specs.declared.Outcome.{Outcome}
use Rattle.stores.specs.Stores.{Write, Plan, refuse, stores, outcome_of, left_by, whole_by, words_after}
use Rattle.lists.specs.Lists.{KeepsWorn}
use Rattle.calls.specs.Answers.{Answer, answer_of, formatted_of}
use Rattle.encoding.specs.Form.{FormLaws}
use Rattle.encoding.proofs.Runs.{words-left}
use Rattle.engine.specs.Lent.{planned, record_in}

module _ {A : Type 0} (after : List Write → List A → List A) where
  -- a refusal, and a run of the stores of a plan
  pub lent-refused : {p : Plan} {n : Refusal} (m : ℕ) (b : List A) → p ≡ refuse n → (Err n ≡ answer_of p m) × (b ≡ left_by after p m b)
  lent-refused m b e = rw e (refl, refl)

  pub lent-run
      : {p : Plan} {ps : List Write} {x : Outcome} {b' : List A} (m : ℕ) (b : List A) → p ≡ stores ps
      → x ≡ outcome_of ps m → b' ≡ after (take m ps) b → (Ok x ≡ answer_of p m) × (b' ≡ left_by after p m b)
  lent-run m b e x y = (ap Ok x ∙ ap (λ p. answer_of p m) (sym e), y ∙ ap (λ p. left_by after p m b) (sym e))

  -- format: a refusal, and all stores of a plan
  pub format-refused : {p : Plan} {n : Refusal} (b : List A) → p ≡ refuse n → (Err n ≡ formatted_of p) × (b ≡ whole_by after p b)
  format-refused b e = rw e (refl, refl)

  pub format-run : {p : Plan} {ps : List Write} {b' : List A} (b : List A) → p ≡ stores ps → b' ≡ after ps b
      → (Ok tt ≡ formatted_of p) × (b' ≡ whole_by after p b)
  format-run b e f = (ap formatted_of (sym e), f ∙ ap (λ p. whole_by after p b) (sym e))

-- an insert keeps the worn nodes; also where a question is put before its own
pub lent-kept
    : {A : Type 0} {words_in : List A → List ℕ} {after : List Write → List A → List A} (laws : FormLaws words_in after)
    (p : Plan) (m : ℕ) (b : List A) {b' : List A} → KeepsWorn (layout_of (words_in b)) (words_in b) (words_after p m (words_in b))
    → b' ≡ left_by after p m b → KeepsWorn (layout_of (words_in b)) (words_in b) (words_in b')
lent-kept {words_in = words_in} laws p m b h e =
    subst (KeepsWorn (layout_of (words_in b)) (words_in b)) (sym (ap words_in e ∙ words-left laws p m b)) h

pub kept-first : (e : Bool) (p : Plan) (m : ℕ) (w : List ℕ) → KeepsWorn (layout_of w) w (words_after p m w)
    → KeepsWorn (layout_of w) w (words_after (planned e p) m w)
kept-first true p m w h = h
kept-first false p m w h = λ c n z d f i g. refl

-- a record that has words has all that are in it
pub record-words : (e : Bool) (w : List ℕ) → 0 < length (record_in e w) → record_in e w ≡ w
record-words true w h = refl
record-words false w h = absurd (omega arith)
