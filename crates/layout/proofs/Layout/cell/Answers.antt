-- `layout::Layout::cell` meets its contract. Below the first node a cell is a header, and otherwise a node.
use native.Mathlib.Omega.{arith}
use Rattle.layout.proofs.Laws.{cell-header, cell-node}
use Rattle.layout.proofs.Layout.cell.Goals as goal

pub returns-then-i-first_node : goal.returns-then-i-first_node
returns-then-i-first_node c =
    let a = c.args in
    rw (cell-header a.self a.i (omega arith)) c.header.ensures

pub returns-else-i-first_node : goal.returns-else-i-first_node
returns-else-i-first_node c =
    let a = c.args in
    rw (cell-node a.self a.i (omega arith)) c.node.ensures
