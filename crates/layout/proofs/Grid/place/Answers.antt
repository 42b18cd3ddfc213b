-- `layout::Grid::place` meets its contract.
use Prim.Native.Nat.{ℕ, ◌+◌, ◌*◌, ◌≤◌}
use mathlib.Core.Path.{◌≡◌, ap}
use native.Mathlib.Omega.{arith}
use Rattle.layout.specs.Words.{most_width, most_cells, link_words, node_words}
use Rattle.layout.proofs.Places.{product_small, place-low, place_at}
use Rattle.layout.proofs.Grid.place.Goals.{Start}
use Rattle.layout.proofs.Grid.place.Goals as goal

-- the product in the code is the product of the law
product : (c : Start) → c.args.self.step * c.args.y ≡ node_words c.args.l * c.args.y
product c = ap (λ (n : ℕ). n * c.args.y) c.requires.0.step

small : (c : Start) → node_words c.args.l * c.args.y ≤ (link_words + most_width) * most_cells
small c = product_small c.args.l c.requires.1 c.args.y (omega arith)

pub overflow_mul-result : goal.overflow_mul-result
overflow_mul-result c = omega (arith, product c.before, small c.before)

pub overflow_add-result : goal.overflow_add-result
overflow_add-result c = omega (arith, product c.before.before, small c.before.before)

pub overflow_sub-result : goal.overflow_sub-result
overflow_sub-result c =
    let s = c.before.before.before in
    omega (arith, product s, place-low s.args.l s.args.y s.requires.2.low)

pub returns : goal.returns
returns c =
    let s = c.before.before.before in
    omega (arith, product s, place_at s.args.l s.args.y s.requires.2.low)
