use Rattle.std.proofs.Common.{◌≡◌, ◌≤◌, take}
use Rattle.runs.proofs.run.Given as goal

abbrev pub invariant-loop-i : goal.invariant-loop-i
invariant-loop-i g l = (l.i ≤ l.whole) × (l.i ≤ l.allowance) × (l.lent ≡ g.E.Form.after (take l.i l.writes) l.initial.lent)
