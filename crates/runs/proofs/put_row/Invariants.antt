use Rattle.std.proofs.Common.{◌≡◌, ◌≤◌, take}
use Rattle.stores.specs.Stores.{in_row}
use Rattle.runs.proofs.put_row.Given as goal

abbrev pub invariant-loop-n : goal.invariant-loop-n
invariant-loop-n g l = (l.n ≤ l.whole) × (l.n ≤ l.allowance) × (l.lent ≡ g.E.Form.after (take l.n (in_row l.a (g.F.Form.words_in l.values))) l.initial.lent)
