-- `wipes::follow`: the wipes follow on other stores, if these are all made.
use Rattle.mending.specs.Mending.{wipes}
use Rattle.mending.proofs.Making.{none-follow}
use Rattle.wipes.proofs.follow.Goals as goal

pub returns-in_default : goal.returns-in_default
returns-in_default g c =
    let a = c.args in
    let r = none-follow g.met.E.Form.laws a.before (wipes a.l (g.E.Form.words_in a.lent.now)) a.allowance a.lent.now (λ n q. c.in_default.not-Done n q) in
    record { outcome = r.0; lent = r.1 }
