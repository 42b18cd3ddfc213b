-- `layout::Layout::node` meets its contract. The product of two numbers of 16 bits fits a `usize`.
use Prim.Native.Nat.{◌+◌, ◌-◌, ◌*◌, ◌≤◌}
use native.Mathlib.Omega.{arith}
use Rattle.layout.specs.Words.{link_words, node_at}
use Rattle.layout.proofs.Laws.{product-fits}
use Rattle.layout.proofs.Layout.node.Goals.{After-node_words}
use Rattle.layout.proofs.Layout.node.Goals as goal

-- the words of the nodes in front
few : (c : After-node_words) →
    let f = c.before.before in
    c.node_words.result * (f.args.i - f.first_node.result) ≤ (link_words + 65535) * 65535
few c = rw c.node_words.ensures (product-fits c.args.self _ (omega arith) (omega arith))

pub overflow_mul-result : goal.overflow_mul-result
overflow_mul-result c = omega (arith, few c)

pub overflow_add-result : goal.overflow_add-result
overflow_add-result c = omega (arith, few c, c.nodes_at.ensures)

pub returns : goal.returns
unfolding node_at
returns c =
    rw (c.nodes_at.ensures, c.node_words.ensures, c.first_node.ensures)
