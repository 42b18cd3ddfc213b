use mathlib.Core.Path.{◌≡◌}
use Rattle.lists.specs.Decide.{view_of}
use Rattle.fitting.specs.Fitting.{Trailing}
use Rattle.fitting.proofs.rest.Given as goal

abbrev pub invariant-loop-t : goal.invariant-loop-t
invariant-loop-t g l =
    Trailing l.s.layout (view_of l.s.layout (g.E.Form.words_in l.s.lent.now)) l.k l.t × (l.t.back ≡ l.initial.t.back)

abbrev pub decreases-loop-t : goal.decreases-loop-t
decreases-loop-t g l = l.t.left
