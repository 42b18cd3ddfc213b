-- `check` is that of crate engine. Its number is that of the answer.
use Rattle.calls.proofs.Numbers.{checked-number}
use Rattle.axle_store.proofs.check.Goals as goal

pub returns : goal.returns
returns c = let e = c.check.ensures in record {
  answer = e;
  number = checked-number _ e;
}
