-- `layout::Layout::node_words` meets its contract. The sum of numbers of 16 bits fits a `usize`.
use native.Mathlib.Omega.{arith}
use Rattle.layout.proofs.Laws.{tail-width}
use Rattle.layout.proofs.Layout.node_words.Goals as goal

pub overflow_add-result-2 : goal.overflow_add-result-2
overflow_add-result-2 c = omega (arith, tail-width c.args.self, c.check_words.ensures)

pub returns : goal.returns
returns c = omega (arith, c.check_words.ensures)
