-- The statement on worn nodes holds.
use Rattle.calls.proofs.Worn.{insert-worn, several-worn, delete-worn}
use Rattle.worn.specs.Worn.{Worn}
use Rattle.worn.proofs.Nodes.{kinds, sum, full, several-full}
use Rattle.worn.proofs.Mark.{marks}
use Rattle.worn.proofs.Kept.{recovers}
use Rattle.worn.proofs.Later.{later}
use Rattle.worn.proofs.Bytes.{marks-bytes, later-bytes}

pub worn : Worn
worn =
    record {
      kinds = kinds;
      sum = sum;
      full = λ w s k p c words hk hp hc size. full w s k p c words hk hp hc size;
      several_full = λ w s k p c r words hk hp hc some size. several-full w s k p c words hk hp hc r some size;
      inserts = insert-worn;
      severals = several-worn;
      deletes = delete-worn;
      recovers = recovers;
      marks = marks;
      later = later;
      marks_bytes = marks-bytes;
      later_bytes = later-bytes;
    }
