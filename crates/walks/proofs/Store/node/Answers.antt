-- `walks::node`: a node's words stand within the store.
use native.Mathlib.Omega.{arith}
use Rattle.layout.proofs.Places.{in_words}
use Rattle.walks.proofs.Store.node.Goals as goal

pub cell_at-requires : goal.cell_at-requires
cell_at-requires g c = let s = c.args in omega (arith, c.place.ensures, in_words s.self.now.laid s.y c.requires.high)
