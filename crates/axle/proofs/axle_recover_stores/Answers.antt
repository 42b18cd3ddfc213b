-- The answer of crate engine as a number.
use mathlib.Core.Path.{ap, ◌∙◌}
use Rattle.byte_calls.specs.Plans.{byte_needed}
use Rattle.byte_calls.specs.Interface.{needed_code}
use Rattle.axle.proofs.axle_recover_stores.Goals as goal

pub returns : goal.returns
unfolding byte_needed
returns c = c.needed_code.ensures ∙ ap needed_code c.recover_stores.ensures
