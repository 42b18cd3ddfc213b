-- `spaced`: the numbers from the index on are still to be written.
use Rattle.std.proofs.Common.{drop}
use Rattle.writing.specs.Text.{spaced}
use Rattle.writing.proofs.Writing.{Writing}
use Rattle.writing.proofs.Cursor.spaced.Given as goal

abbrev pub invariant-loop-x : goal.invariant-loop-x
invariant-loop-x l = Writing l.initial.self (spaced l.row) l.self (spaced (drop l.x-index l.row))
