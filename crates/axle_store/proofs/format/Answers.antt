-- `format` is that of crate engine. It answers and leaves what the definitions say.
use mathlib.Core.Path.{◌∙◌}
use Rattle.layout.specs.Words.{layout_for}
use Rattle.calls.proofs.Numbers.{formatted-number}
use Rattle.axle_store.proofs.Formatting.{format-answer, format-words}
use Rattle.axle_store.proofs.format.Goals as goal

pub returns : goal.returns
returns c =
    let a = c.args in
    let e = c.format.ensures in
    let l = layout_for a.lists a.nodes a.width in
    let r = e.answer ∙ format-answer l a.words.now in
    record { answer = r; words = e.lent ∙ format-words l a.words.now; number = formatted-number _ _ r }
