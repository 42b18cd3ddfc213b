-- `mending::mend_of`: the wrong word is one of the store.
use native.Mathlib.Omega.{arith}
use Rattle.layout.proofs.Laws.{size_small}
use Rattle.mending.proofs.mend_of.Goals as goal

pub overflow_add-result : goal.overflow_add-result
overflow_add-result c = omega (arith, rw c.in-One.is at c.requires.1, size_small c.args.l c.requires.0)

pub overflow_cast-result : goal.overflow_cast-result
overflow_cast-result c = omega (arith, rw c.in-One.is at c.requires.1, size_small c.args.l c.requires.0)
