-- `set_word`: the first three words of a cell stand within the store.
use native.Mathlib.Omega.{arith}
use Rattle.layout.proofs.Laws.{size_small, cell-fits}
use Rattle.edits.proofs.set_word.Goals as goal

pub overflow_add-at : goal.overflow_add-at
overflow_add-at c =
    let s = c.before in
    omega (arith, cell-fits s.args.l s.args.i s.requires.0 s.requires.1, size_small s.args.l s.requires.0)

pub overflow_cast-at : goal.overflow_cast-at
overflow_cast-at c =
    let s = c.before in
    omega (arith, cell-fits s.args.l s.args.i s.requires.0 s.requires.1, size_small s.args.l s.requires.0)
