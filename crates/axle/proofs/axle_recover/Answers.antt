-- The answer of crate engine as a number.
use mathlib.Core.Path.{ap, ◌∙◌}
use Rattle.byte_calls.specs.Plans.{byte_recover}
use Rattle.byte_calls.specs.Interface.{code_of}
use Rattle.axle.proofs.axle_recover.Goals as goal

pub returns : goal.returns
unfolding byte_recover
returns c =
    let x = c.recover.ensures in
    record { answer = c.code.ensures ∙ ap code_of x.answer; bytes = x.lent }
