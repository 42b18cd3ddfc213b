-- The answer of crate engine as a number.
use mathlib.Core.Path.{ap, ◌∙◌}
use Rattle.calls.specs.Answers.{formatted_number}
use Rattle.byte_calls.specs.Plans.{byte_format}
use Rattle.axle.proofs.axle_format.Goals as goal

pub returns : goal.returns
unfolding byte_format
returns c =
    let x = c.format.ensures in
    record { answer = c.from.ensures ∙ c.number.ensures ∙ ap formatted_number x.answer; bytes = x.lent }
