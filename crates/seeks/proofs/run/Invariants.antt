use Rattle.std.proofs.Common.{◌≡◌, ◌-◌, ◌≤◌}
use Rattle.lists.specs.Decide.{view_of}
use Rattle.seeks.specs.Seeks.{run_with, Inside}
use Rattle.seeks.proofs.run.Given as goal

abbrev pub invariant-loop : goal.invariant-loop
invariant-loop g l =
    let s = l.s in
    let v = view_of s.layout (g.E.Form.words_in s.lent.now) in
    Inside s.layout v l.t × (1 ≤ l.counter) × (l.counter ≤ l.budget) × (run_with v (l.budget - l.counter) l.t ≡ run_with v l.fn.budget l.fn.t)
