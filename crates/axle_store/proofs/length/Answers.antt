-- `length` is that of crate engine. Its number and its length are those of the answer.
use Rattle.calls.proofs.Numbers.{counted-number}
use Rattle.axle_store.proofs.length.Goals as goal

pub returns : goal.returns
returns c = let e = c.length.ensures in let n = counted-number _ _ e in record { answer = e; number = n.0; value = n.1 }
