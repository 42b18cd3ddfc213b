-- `run`: the rest of the script gets shorter, and the store has room for its words.
use Rattle.std.proofs.Common.{length, ◌≤◌}
use Rattle.cases.proofs.run.Given as goal

abbrev pub invariant-loop-entry : goal.invariant-loop-entry
invariant-loop-entry g l = l.n ≤ length l.store

abbrev pub decreases-loop-entry : goal.decreases-loop-entry
decreases-loop-entry g l = length l.script
