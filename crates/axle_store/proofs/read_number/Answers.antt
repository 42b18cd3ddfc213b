-- The number is that of the look.
use Rattle.std.proofs.Common.{arith, sym, ◌∙◌}
use Rattle.calls.proofs.Cases.{number-refused, number_at}
use Rattle.axle_store.proofs.read_number.Goals as goal

pub returns-in-Ok : goal.returns-in-Ok
returns-in-Ok c = number_at _ _ _ (sym c.look.ensures.outcome ∙ c.in-Ok.is)

pub returns-in-Err : goal.returns-in-Err
returns-in-Err c =
    let a = c.args in
    omega (arith, c.number.ensures, number-refused a.words.now a.list a.position (sym c.look.ensures.outcome ∙ c.in-Err.is))
