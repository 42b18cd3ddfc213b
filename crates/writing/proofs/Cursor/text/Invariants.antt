-- `text`: the characters from the index on are still to be written.
use Rattle.std.proofs.Common.{drop}
use Rattle.writing.proofs.Writing.{Writing}
use Rattle.writing.proofs.Cursor.text.Given as goal

abbrev pub invariant-loop-b : goal.invariant-loop-b
invariant-loop-b l = Writing l.initial.self l.t l.self (drop l.b-index l.t)
