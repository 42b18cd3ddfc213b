use Rattle.lists.specs.Decide.{view_of}
use Rattle.spans.proofs.Ends.{Reduced}
use Rattle.walks.proofs.Store.both_spanned.Given as goal

abbrev pub invariant-loop-s : goal.invariant-loop-s
invariant-loop-s g l =
    Reduced l.self.layout (view_of l.self.layout (g.E.Form.words_in l.self.lent.now)) l.k l.initial.s l.s
    × Reduced l.self.layout (view_of l.self.layout (g.E.Form.words_in l.self.lent.now)) l.j l.initial.t l.t

abbrev pub decreases-loop-s : goal.decreases-loop-s
decreases-loop-s g l = l.s.count
