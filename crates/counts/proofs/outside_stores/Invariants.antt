use Prim.Native.Nat.{◌+◌}
use mathlib.Core.Path.{◌≡◌}
use Rattle.layout.specs.Words.{first_node}
use Rattle.mending.specs.Mending.{outside_from}
use Rattle.mending.proofs.Counting.{outside_left}
use Rattle.counts.proofs.outside_stores.Given as goal

abbrev pub invariant-loop-c : goal.invariant-loop-c
invariant-loop-c g l =
    let w = g.E.Form.words_in l.s.lent.now in
    l.count + outside_left l.s.layout w l.idents l.c ≡ outside_from l.s.layout w l.idents (first_node l.s.layout) l.s.layout.nodes
