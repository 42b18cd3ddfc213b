use mathlib.Core.Path.{◌≡◌}
use lib.ListN.{length}
use Rattle.layout.specs.Words.{most_cells}
use Rattle.lists.specs.Decide.{view_of}
use Rattle.mending.proofs.Erasing.{ReadTo}
use Rattle.clears.proofs.read_nodes.Given as goal

abbrev pub invariant-loop-c : goal.invariant-loop-c
invariant-loop-c g l =
    ReadTo l.s.layout (view_of l.s.layout (g.E.Form.words_in l.s.lent.now)) l.idents l.c × (most_cells ≡ length l.idents)
