-- The answer of crate engine as a number.
use mathlib.Core.Path.{ap, ◌∙◌}
use Rattle.byte_calls.specs.Plans.{byte_insert, record_words}
use Rattle.byte_calls.specs.Interface.{code_of}
use Rattle.axle.proofs.axle_insert.Goals as goal

pub returns : goal.returns
unfolding byte_insert record_words
returns c =
    let x = c.insert.ensures in
    record { answer = c.code.ensures ∙ ap code_of x.answer; bytes = x.lent; worn = x.worn }
