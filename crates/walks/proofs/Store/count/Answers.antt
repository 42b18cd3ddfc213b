-- `walks::count`: the count stands within the header, and the header within the store.
use native.Mathlib.Omega.{arith}
use Rattle.layout.proofs.Places.{head-words}
use Rattle.walks.proofs.Store.count.Goals as goal

pub word-requires : goal.word-requires
word-requires g c = let s = c.args in omega (arith, c.header.ensures, head-words s.self.now.laid s.k c.requires)
