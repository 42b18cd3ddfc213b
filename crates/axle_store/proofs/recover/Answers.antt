-- `recover` is that of crate engine. Its number and its stores are those of the plan.
use Rattle.recovery.specs.Plan.{recover_plan}
use Rattle.calls.proofs.Answers.{told}
use Rattle.axle_store.proofs.recover.Goals as goal

pub returns : goal.returns
returns c =
    let a = c.args in
    let e = c.recover.ensures in
    let n = told (recover_plan a.words.now) a.allowance e.answer in
    record { answer = e.answer; words = e.lent; number = n.0; stores = n.1 }
