-- A refusal is handed on.
use Rattle.std.proofs.Common.{Err, sym, ◌∙◌}
use Rattle.layout.specs.declared.Refusal.TheVariants.{Size}
use Rattle.requests.proofs.First.{asked-yes, first-refused, first-at}
use Rattle.calls.specs.Calls.{check_answer}
use Rattle.calls.proofs.Cases.{check-refused, check-at}
use Rattle.engine.proofs.check.Goals as goal

pub returns-in-Err : goal.returns-in-Err
returns-in-Err g c =
    let f = g.E.Form in
    let b = c.args.lent.now in
    sym (first-refused Err (f.whole b) (λ m h. sym (check-refused (f.words_in b) h)) (sym c.look.ensures.outcome ∙ c.in-Err.is))

pub returns-in-Ok : goal.returns-in-Ok
returns-in-Ok g c =
    let f = g.E.Form in
    let b = c.args.lent.now in
    let x = first-at (f.whole b) (sym c.look.ensures.outcome ∙ c.in-Ok.is) in
    check-at (f.words_in b) x.1 ∙ sym (asked-yes (f.whole b) (Err Size) (check_answer (f.words_in b)) x.0)
