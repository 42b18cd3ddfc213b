-- Half of the list's length, rounded up, arrives, so the budget is never spent.
use Rattle.std.proofs.Common.{Some, arith, ap, ◌∙◌, sym}
use Rattle.std.specs.Prelude.{unwrap_or}
use Rattle.lists.specs.Decide.{view_of}
use Rattle.seeks.specs.Seeks.{run_with}
use Rattle.seeks.proofs.Reached.{half-arrives, nearer-begins}
use Rattle.seeks.proofs.arrive.Goals as goal

pub run-requires-clause-header : goal.run-requires-clause-header
run-requires-clause-header g c = (nearer-begins c.requires.held c.args.q c.requires.cell c.header.ensures c.toward.ensures).0

pub run-requires-clause-nodes : goal.run-requires-clause-nodes
run-requires-clause-nodes g c = (nearer-begins c.requires.held c.args.q c.requires.cell c.header.ensures c.toward.ensures).1

pub returns-clause-cell : goal.returns-clause-cell
returns-clause-cell g c =
    let l = c.args.s.now.layout in
    let w = g.E.Form.words_in c.args.s.now.lent.now in
    let e =
    c.run.ensures
    ∙ ap (run_with (view_of l w) c.budget.result) c.toward.ensures
    ∙ half-arrives c.requires.held c.args.q c.requires.cell (omega (arith, c.budget.ensures)) in
    c.unwrap_or.ensures ∙ ap (λ r. unwrap_or r c.from.result) e

pub returns-clause-walk : goal.returns-clause-walk
returns-clause-walk g c =
    let l = c.args.s.now.layout in
    let w = g.E.Form.words_in c.args.s.now.lent.now in
    let e =
    c.run.ensures
    ∙ ap (run_with (view_of l w) c.budget.result) c.toward.ensures
    ∙ half-arrives c.requires.held c.args.q c.requires.cell (omega (arith, c.budget.ensures)) in
    ap Some (c.unwrap_or.ensures ∙ ap (λ r. unwrap_or r c.from.result) e)
    ∙ sym (half-arrives c.requires.held c.args.q c.requires.cell (omega arith))
