-- A refusal is handed on, and the stores of an opened store's recovery are told by its layout.
use Rattle.std.proofs.Common.{◌≡◌, Err, ap, sym, ◌∙◌}
use Rattle.layout.specs.declared.Refusal.TheVariants.{Size}
use Rattle.requests.proofs.Laws.{opened-laid}
use Rattle.requests.proofs.First.{asked-yes, first-shut, first-open}
use Rattle.recovery.specs.Plan.{recover_of}
use Rattle.calls.specs.Answers.{needed_of}
use Rattle.calls.specs.Calls.{recover_needed}
use Rattle.calls.proofs.Cases.{recover-shut, recover-open}
use Rattle.engine.proofs.recover_stores.Goals as goal

pub returns-in-Err : goal.returns-in-Err
returns-in-Err g c =
    let f = g.E.Form in
    let b = c.args.lent.now in
    sym (first-shut Err (f.whole b) (λ m h. ap needed_of (recover-shut (f.words_in b) h)) (sym c.open.ensures ∙ c.in-Err.is))

pub of-requires : goal.of-requires
of-requires g c =
    let b = c.args.lent.now in
    opened-laid (g.E.Form.words_in b) c.in-Ok.layout (first-open (g.E.Form.whole b) (sym c.open.ensures ∙ c.in-Ok.is)).1

pub returns-in-Ok : goal.returns-in-Ok
returns-in-Ok g c =
    let f = g.E.Form in
    let b = c.args.lent.now in
    let w = f.words_in b in
    let x = first-open (f.whole b) (sym c.open.ensures ∙ c.in-Ok.is) in
    let s : c.stores_in.result ≡ needed_of (recover_of c.in-Ok.layout w) = rw (c.of.ensures.0, c.of.ensures.1) at c.stores_in.ensures in
    s ∙ sym (asked-yes (f.whole b) (Err Size) (recover_needed w) x.0 ∙ ap needed_of (recover-open w x.1))
