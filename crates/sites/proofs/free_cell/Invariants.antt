use Rattle.std.proofs.Common.{◌≡◌, ◌-◌, ◌≤◌}
use Rattle.layout.specs.Words.{Node}
use Rattle.lists.specs.Decide.{view_of}
use Rattle.requests.specs.Requests.{around, free_cells, nth}
use Rattle.sites.proofs.free_cell.Given as goal

abbrev pub invariant-loop : goal.invariant-loop
invariant-loop g l =
    let t = l.s.layout in
    let ident = (view_of t (g.E.Form.words_in l.s.lent.now)).ident in
    Node t l.c
    × (l.counter ≤ t.nodes)
    × (nth (free_cells ident (around t l.start t.nodes)) l.i ≡ nth (free_cells ident (around t l.c (t.nodes - l.counter))) l.before)
