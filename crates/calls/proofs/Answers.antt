-- The answer to a plan: its number, and its number of stores.
use Prim.Native.Nat.{ℕ}
use mathlib.Core.Path.{◌≡◌, refl, ap, ◌∙◌}
use lib.ListN.{length}
use Rattle.stores.specs.Stores.{Plan, refuse, stores, plan_number, made_by}
use Rattle.stores.proofs.Outcomes.{outcome-made}
use Rattle.calls.specs.Answers.{Answer, answer_of, answer_number, answer_stores}

-- the number of the plan's refusal, and as many stores as the allowance lets through
answer-told : (p : Plan) (m : ℕ) → (answer_number (answer_of p m) ≡ plan_number p) × (answer_stores (answer_of p m) ≡ length (made_by p m))
answer-told (refuse n) m = (refl, refl)
answer-told (stores ps) m = (refl, outcome-made ps m)

pub told : (p : Plan) {x : Answer} (m : ℕ) → x ≡ answer_of p m → (answer_number x ≡ plan_number p) × (answer_stores x ≡ length (made_by p m))
told p m e = let t = answer-told p m in (ap answer_number e ∙ t.0, ap answer_stores e ∙ t.1)
