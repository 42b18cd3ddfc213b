-- `delete` is that of crate engine. Its number and its stores are those of the plan.
use Rattle.calls.specs.Calls.{delete_plan}
use Rattle.calls.proofs.Answers.{told}
use Rattle.axle_store.proofs.delete.Goals as goal

pub returns : goal.returns
returns c =
    let a = c.args in
    let e = c.delete.ensures in
    let n = told (delete_plan a.words.now a.list a.position) a.allowance e.answer in
    record { answer = e.answer; words = e.lent; number = n.0; stores = n.1 }
