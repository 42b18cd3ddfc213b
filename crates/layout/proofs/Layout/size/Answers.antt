-- `layout::Layout::size` meets its contract. The product of two numbers of 16 bits fits a `usize`.
use Prim.Native.Nat.{◌+◌, ◌*◌, ◌≤◌}
use native.Mathlib.Omega.{arith}
use Rattle.layout.specs.Words.{link_words, size_of}
use Rattle.layout.proofs.Laws.{product-fits}
use Rattle.layout.proofs.Layout.size.Goals.{After-struct_known-1}
use Rattle.layout.proofs.Layout.size.Goals as goal

-- the words of all nodes
few : (c : After-struct_known-1) →
    c.node_words.result * c.args.self.nodes ≤ (link_words + 65535) * 65535
few c =
    rw c.node_words.ensures (product-fits c.args.self _ (omega arith) (omega arith))

pub overflow_mul-result : goal.overflow_mul-result
overflow_mul-result c = omega (arith, few c)

pub overflow_add-result : goal.overflow_add-result
overflow_add-result c = omega (arith, few c, c.nodes_at.ensures)

pub returns : goal.returns
unfolding size_of
returns c = rw (c.nodes_at.ensures, c.node_words.ensures)
