-- `requests::next_cell` meets its contract.
use mathlib.Core.Path.{sym, ◌∙◌}
use native.Mathlib.Omega.{arith}
use Rattle.requests.proofs.Laws.{next-wraps, next-follows}
use Rattle.requests.proofs.next_cell.Goals as goal

pub returns-then-c-cell_count : goal.returns-then-c-cell_count
returns-then-c-cell_count c =
    let s = c.args in
    c.first_node.ensures ∙ sym (next-wraps s.l s.c (omega (arith, c.if-c-cell_count.true, c.cell_count.ensures)))

pub returns : goal.returns
returns c =
    let s = c.args in
    sym (next-follows s.l s.c (λ e. omega (arith, e, c.if-c-cell_count.false, c.cell_count.ensures)))
