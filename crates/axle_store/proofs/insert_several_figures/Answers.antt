-- `insert_several_figures` is that of crate engine. Its number and its stores are those of the plan.
use Rattle.calls.proofs.Beforehand.{figures-number}
use Rattle.axle_store.proofs.insert_several_figures.Goals as goal

pub returns : goal.returns
returns c =
    let e = c.insert_several_figures.ensures in
    let n = figures-number _ _ _ _ _ e.figures in
    record { figures = e.figures; number = n.0; stores = n.1; worn = e.worn }
