-- `walks::header`: a header's words stand within the store.
use native.Mathlib.Omega.{arith}
use Rattle.layout.proofs.Laws.{cell-header}
use Rattle.layout.proofs.Places.{head-words}
use Rattle.walks.proofs.Store.header.Goals as goal

pub cell_at-requires : goal.cell_at-requires
cell_at-requires g c = let s = c.args in omega (arith, c.header.ensures, head-words s.self.now.laid s.k c.requires)

pub returns : goal.returns
returns g c = let e = cell-header c.args.self.now.layout c.args.k c.requires in cc
