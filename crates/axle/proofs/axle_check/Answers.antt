-- The answer of crate engine as a number.
use mathlib.Core.Path.{ap, ◌∙◌}
use Rattle.calls.specs.Answers.{checked_number}
use Rattle.byte_calls.specs.Plans.{byte_check}
use Rattle.byte_calls.specs.Interface.{check_code}
use Rattle.axle.proofs.axle_check.Goals as goal

pub returns : goal.returns
unfolding check_code byte_check
returns c = c.from.ensures ∙ c.number.ensures ∙ ap checked_number c.check.ensures
