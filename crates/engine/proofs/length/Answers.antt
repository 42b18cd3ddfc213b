-- A refusal is handed on, and a look tells the count.
use Rattle.std.proofs.Common.{◌≡◌, Ok, Err, sym, ◌∙◌}
use Rattle.layout.specs.declared.Refusal.TheVariants.{Size}
use Rattle.requests.proofs.First.{asked-yes, first-refused, first-at}
use Rattle.calls.specs.Calls.{length_answer}
use Rattle.calls.proofs.Cases.{length-refused, length_at}
use Rattle.sites.proofs.Exits.{handed}
use Rattle.engine.proofs.length.Goals as goal

pub returns-in_err-look : goal.returns-in_err-look
returns-in_err-look g c =
    let f = g.E.Form in
    let b = c.args.lent.now in
    handed c.from_residual.ensures.1
    ∙ sym (first-refused Err (f.whole b) (λ m h. sym (length-refused (f.words_in b) c.args.list h)) (sym c.look.ensures.outcome ∙ c.in_err-look.was))

pub returns : goal.returns
returns g c =
    let f = g.E.Form in
    let b = c.args.lent.now in
    let x = first-at (f.whole b) (sym c.look.ensures.outcome ∙ c.in_ok-look.was) in
    length_at (f.words_in b) c.args.list x.1 ∙ sym (asked-yes (f.whole b) (Err Size) (length_answer (f.words_in b) c.args.list) x.0)
