-- `layout::Grid::of` meets its contract. The products are small.
use Prim.Native.Nat.{ℕ, ◌*◌}
use mathlib.Core.Path.{◌≡◌, ap₂}
use native.Mathlib.Omega.{arith}
use Rattle.layout.specs.Words.{first_node, node_words}
use Rattle.layout.proofs.Places.{product_small}
use Rattle.layout.proofs.Grid.of.Goals.{After-first_node-from}
use Rattle.layout.proofs.Grid.of.Goals as goal

-- the product in the code is the product of the law
product : (c : After-first_node-from) → let w = c.before in
    w.node_words-step.result * c.first_node-from.result ≡ node_words w.args.l * first_node w.args.l
product c = ap₂ (λ (a b : ℕ). a * b) c.node_words-step.ensures c.first_node-from.ensures

pub overflow_mul-result : goal.overflow_mul-result
overflow_mul-result c =
    let f = c.before in
    let s = f.before.before in
    omega (arith, product f, product_small s.args.l s.requires (first_node s.args.l) (omega arith))

pub returns : goal.returns
returns c =
    let a = c.before in
    let f = a.before in
    record {
      first = a.nodes_at.ensures;
      step = f.node_words-step.ensures;
      low = product f;
      from = f.first_node-from.ensures;
      to = c.cell_count.ensures;
    }
