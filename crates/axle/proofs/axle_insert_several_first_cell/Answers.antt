-- The answer of crate engine as a number.
use mathlib.Core.Path.{ap, ◌∙◌, subst}
use Rattle.encoding.specs.Bytes.{words_in}
use Rattle.layout.specs.Words.{layout_of}
use Rattle.calls.specs.Answers.{ForetoldUnworn}
use Rattle.byte_calls.specs.Plans.{byte_figures, record_words}
use Rattle.byte_calls.specs.Interface.{first_code}
use Rattle.axle.proofs.axle_insert_several_first_cell.Goals as goal

pub returns : goal.returns
unfolding byte_figures record_words
returns c =
    let x = c.insert_several_figures.ensures in
    let w = words_in c.args.store.now in
    record { answer = c.first_code.ensures ∙ ap first_code x.figures; worn = subst (ForetoldUnworn (layout_of w) w) x.figures x.worn }
