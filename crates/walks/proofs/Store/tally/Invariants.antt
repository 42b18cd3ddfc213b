use Prim.Native.Nat.{◌+◌}
use mathlib.Core.Path.{◌≡◌}
use Rattle.layout.specs.Words.{first_node, cell_at}
use Rattle.lists.specs.Decide.{view_of}
use Rattle.spans.specs.Spans.{tally_of}
use Rattle.walks.proofs.Store.tally.Given as goal

abbrev pub invariant-loop : goal.invariant-loop
invariant-loop g l =
    let t = l.self.layout in
    (l.a ≡ cell_at t (first_node t + l.counter))
    × (l.t ≡ tally_of (view_of t (g.E.Form.words_in l.self.lent.now)) (first_node t) l.counter)
