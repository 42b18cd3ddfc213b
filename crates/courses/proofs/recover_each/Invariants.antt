-- `recover_each`: the words are those after the first recoveries.
use Rattle.std.proofs.Common.{◌≡◌, ◌-◌, length, take}
use Rattle.courses.specs.Course.{words_through}
use Rattle.courses.proofs.recover_each.Given as goal

abbrev pub invariant-loop-i : goal.invariant-loop-i
invariant-loop-i l = l.words ≡ words_through (take l.i l.allowances) l.initial.words

abbrev pub decreases-loop-i : goal.decreases-loop-i
decreases-loop-i l = length l.allowances - l.i
