-- A refusal is handed on, and an opened store is recovered by its layout.
use Rattle.std.proofs.Common.{◌≡◌, Ok, Err, ap, sym, ◌∙◌}
use Rattle.layout.specs.declared.Refusal.TheVariants.{Size}
use Rattle.stores.specs.Stores.{refuse, left_by}
use Rattle.requests.proofs.Laws.{opened-laid}
use Rattle.requests.proofs.First.{asked-yes, first-shut, first-open}
use Rattle.recovery.specs.Plan.{recover_plan}
use Rattle.calls.specs.Answers.{answer_of}
use Rattle.calls.proofs.Cases.{recover-shut, recover-open}
use Rattle.sites.proofs.Exits.{handed}
use Rattle.engine.proofs.Laws.{lent-refused}
use Rattle.engine.proofs.recover.Goals as goal

pub returns-in_err-l-clause-answer : goal.returns-in_err-l-clause-answer
returns-in_err-l-clause-answer g c =
    let f = g.E.Form in
    let b = c.args.lent.now in
    let e = first-shut refuse (f.whole b) (λ m h. recover-shut (f.words_in b) h) (sym c.open.ensures ∙ c.in_err-l.was) in
    handed c.from_residual.ensures.1 ∙ (lent-refused f.after c.args.allowance b e).0

pub returns-in_err-l-clause-lent : goal.returns-in_err-l-clause-lent
returns-in_err-l-clause-lent g c =
    let f = g.E.Form in
    let b = c.args.lent.now in
    let e = first-shut refuse (f.whole b) (λ m h. recover-shut (f.words_in b) h) (sym c.open.ensures ∙ c.in_err-l.was) in
    (lent-refused f.after c.args.allowance b e).1

pub recover_in-requires : goal.recover_in-requires
recover_in-requires g c =
    let b = c.args.lent.now in
    opened-laid (g.E.Form.words_in b) c.in_ok-l.l (first-open (g.E.Form.whole b) (sym c.open.ensures ∙ c.in_ok-l.was)).1

pub returns-clause-answer : goal.returns-clause-answer
returns-clause-answer g c =
    let f = g.E.Form in
    let b = c.args.lent.now in
    let x = first-open (f.whole b) (sym c.open.ensures ∙ c.in_ok-l.was) in
    let e = asked-yes (f.whole b) (refuse Size) (recover_plan (f.words_in b)) x.0 ∙ recover-open (f.words_in b) x.1 in
    c.recover_in.ensures.answer ∙ ap (λ p. answer_of p c.args.allowance) (sym e)

pub returns-clause-lent : goal.returns-clause-lent
returns-clause-lent g c =
    let f = g.E.Form in
    let b = c.args.lent.now in
    let x = first-open (f.whole b) (sym c.open.ensures ∙ c.in_ok-l.was) in
    let e = asked-yes (f.whole b) (refuse Size) (recover_plan (f.words_in b)) x.0 ∙ recover-open (f.words_in b) x.1 in
    c.recover_in.ensures.lent ∙ ap (λ p. left_by f.after p c.args.allowance b) (sym e)
