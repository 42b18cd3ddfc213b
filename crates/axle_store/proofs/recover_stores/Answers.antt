-- `recover_stores` is that of crate engine. Its number is that of the plan.
use Rattle.recovery.specs.Plan.{recover_plan}
use Rattle.calls.proofs.Numbers.{needed-number}
use Rattle.axle_store.proofs.recover_stores.Goals as goal

pub returns : goal.returns
returns c = let e = c.recover_stores.ensures in record {
  stores = e;
  number = needed-number (recover_plan c.args.words.now) e;
}
