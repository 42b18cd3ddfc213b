-- The answer of crate engine as a number.
use mathlib.Core.Path.{ap, ◌∙◌}
use Rattle.byte_calls.specs.Plans.{byte_length}
use Rattle.byte_calls.specs.Interface.{counted_code, length_code}
use Rattle.axle.proofs.axle_length.Goals as goal

pub returns : goal.returns
unfolding length_code byte_length
returns c = c.told_code.ensures.length ∙ ap counted_code c.length.ensures
