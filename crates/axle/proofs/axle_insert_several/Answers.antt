-- The answer of crate engine as a number.
use mathlib.Core.Path.{ap, ◌∙◌}
use Rattle.byte_calls.specs.Plans.{byte_several, record_words}
use Rattle.byte_calls.specs.Interface.{code_of}
use Rattle.axle.proofs.axle_insert_several.Goals as goal

pub returns : goal.returns
unfolding byte_several record_words
returns c =
    let x = c.insert_several.ensures in
    record { answer = c.code.ensures ∙ ap code_of x.answer; bytes = x.lent; worn = x.worn }
