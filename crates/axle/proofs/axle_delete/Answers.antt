-- The answer of crate engine as a number.
use mathlib.Core.Path.{ap, ◌∙◌}
use Rattle.byte_calls.specs.Plans.{byte_delete}
use Rattle.byte_calls.specs.Interface.{code_of}
use Rattle.axle.proofs.axle_delete.Goals as goal

pub returns : goal.returns
unfolding byte_delete
returns c =
    let x = c.delete.ensures in
    record { answer = c.code.ensures ∙ ap code_of x.answer; bytes = x.lent }
