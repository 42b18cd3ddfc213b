-- Answers that decide.
use Prim.Native.Nat.{ℕ}
use mathlib.Core.Path.{◌≡◌, ◌∙◌, sym}
use mathlib.Core.Bool.{Bool, true, false, true≢false}
use lib.Dec.{eqb}
use borrow.Author.Tests.{eq-eqb, eqb-true}
use Rattle.spans.specs.Spans.{Decides}

-- the answer no, and an answer that is a test
pub refused : {P : Type 0} → (P → ⊥) → Decides false P
refused h = record { right = λ e. absurd (true≢false (sym e)); complete = λ p. absurd (h p) }

pub tested : {P : Type 0} {a b : ℕ} → (a ≡ b → P) → (P → a ≡ b) → Decides (eqb a b) P
tested {P} {a} {b} f g = record { right = λ e. f (eqb-true a b e); complete = λ p. eq-eqb a b (g p) }

-- what an answer says where the code asked `!r`
pub denied : {r : Bool} {P : Type 0} → Decides r P → r ≡ false → P → ⊥
denied d e p = true≢false (sym (d.complete p) ∙ e)

pub granted : {r : Bool} {P : Type 0} → Decides r P → r ≡ true → P
granted d e = d.right e

-- an answer to one question is that to another
pub decides-same : {r : Bool} {P Q : Type 0} → (P → Q) → (Q → P) → Decides r P → Decides r Q
decides-same f g d = record { right = λ e. f (d.right e); complete = λ q. d.complete (g q) }
