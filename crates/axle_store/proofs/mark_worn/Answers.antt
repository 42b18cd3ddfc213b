-- `mark_worn` is that of crate engine. Its number and its stores are those of the plan.
use Rattle.edits.specs.Edits.{mark_stores}
use Rattle.calls.specs.Calls.{mark_plan}
use Rattle.calls.proofs.Answers.{told}
use Rattle.axle_store.proofs.mark_worn.Goals as goal

pub returns : goal.returns
returns c =
    let a = c.args in
    let e = c.mark_worn.ensures in
    let n = told (mark_plan a.words.now a.cell) mark_stores e.answer in
    record { answer = e.answer; words = e.lent; number = n.0; stores = n.1 }
