-- `layout::Layout::is_node` meets its contract. Its two tests are those of `is_node`.
use native.Mathlib.Omega.{arith}
use borrow.Author.Tests.{le-leb, lt-leb}
use Rattle.layout.specs.Words.{first_node, is_node}
use Rattle.layout.proofs.Layout.is_node.Goals as goal

pub returns-then-i-first_node : goal.returns-then-i-first_node
unfolding is_node
returns-then-i-first_node c =
    let a = c.args in
    rw (lt-leb (first_node a.self) a.i (omega arith))

pub returns : goal.returns
unfolding is_node
returns c =
    let a = c.args in
    rw (c.cell_count.ensures, le-leb (first_node a.self) a.i (omega arith))
