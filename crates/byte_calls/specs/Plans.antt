-- The calls on lent bytes: what each answers and plans is what crate calls says, behind the question whether the bytes are whole words.
use Rattle.std.specs.Prelude.{ℕ, List, [], Result, Err}
use Rattle.stores.specs.Stores.{Plan, refuse, whole_by}
use Rattle.encoding.specs.Bytes.{evenly, after}
use Rattle.layout.specs.declared.Layout.{Layout}
use Rattle.layout.specs.declared.Refusal.{Refusal}
use Rattle.layout.specs.declared.Refusal.TheVariants.{Size}
use Rattle.recovery.specs.Plan.{recover_plan}
use Rattle.calls.specs.declared.Figures.{Figures}
use Rattle.calls.specs.Calls.{format_plan, check_answer, length_answer, insert_plan, several_plan, several_figures, delete_plan, mark_plan, recover_needed}

-- "a record of odd byte length is answered 9 in its turn": it counts as a record of no words, and P is at least 1
unfoldable pub record_words : List ℕ → List ℕ
record_words bytes = evenly bytes [] (λ w. w)

-- all stores of a plan
abbrev pub whole_bytes : Plan → List ℕ → List ℕ
whole_bytes p bytes = whole_by after p bytes

unfoldable pub byte_format : Layout → List ℕ → Plan
byte_format l bytes = evenly bytes (refuse Size) (format_plan l)

unfoldable pub byte_check : List ℕ → Result (Unit {0}) Refusal
byte_check bytes = evenly bytes (Err Size) check_answer

unfoldable pub byte_length : List ℕ → ℕ → Result ℕ Refusal
byte_length bytes k = evenly bytes (Err Size) (λ w. length_answer w k)

unfoldable pub byte_insert : List ℕ → ℕ → ℕ → ℕ → List ℕ → Plan
byte_insert bytes k p c rec = evenly bytes (refuse Size) (λ w. insert_plan w k p c (record_words rec))

unfoldable pub byte_several : List ℕ → ℕ → ℕ → ℕ → List ℕ → Plan
byte_several bytes k p c records = evenly bytes (refuse Size) (λ w. several_plan w k p c (record_words records))

unfoldable pub byte_figures : List ℕ → ℕ → ℕ → ℕ → List ℕ → Result Figures Refusal
byte_figures bytes k p c records = evenly bytes (Err Size) (λ w. several_figures w k p c (record_words records))

unfoldable pub byte_delete : List ℕ → ℕ → ℕ → Plan
byte_delete bytes k p = evenly bytes (refuse Size) (λ w. delete_plan w k p)

unfoldable pub byte_mark : List ℕ → ℕ → Plan
byte_mark bytes c = evenly bytes (refuse Size) (λ w. mark_plan w c)

unfoldable pub byte_recover : List ℕ → Plan
byte_recover bytes = evenly bytes (refuse Size) recover_plan

unfoldable pub byte_needed : List ℕ → Result ℕ Refusal
byte_needed bytes = evenly bytes (Err Size) recover_needed
