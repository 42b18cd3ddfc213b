-- `layout::Grid::is_node` meets its contract. Its two tests are those of `is_node`.
use native.Mathlib.Omega.{arith}
use borrow.Author.Tests.{le-leb, lt-leb}
use Rattle.layout.specs.Words.{first_node, is_node}
use Rattle.layout.proofs.Grid.is_node.Goals as goal

pub returns-then-y-self : goal.returns-then-y-self
unfolding is_node
returns-then-y-self c =
    let a = c.args in
    rw (lt-leb (first_node a.l) a.y (omega arith))

pub returns : goal.returns
unfolding is_node
returns c =
    let s = c.before.before.before in
    rw (s.requires.to, le-leb (first_node s.args.l) s.args.y (omega arith))
