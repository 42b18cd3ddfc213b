-- A node's identifier is the first of its words, which stand within the store.
use Rattle.std.proofs.Common.{ℕ, [], ◌∷◌, arith, ap, sym, ◌∙◌}
use Rattle.layout.proofs.Laws.{cell-node, node-fits}
use Rattle.stores.specs.Stores.{write}
use Rattle.clears.proofs.step.Goals as goal

pub put-requires : goal.put-requires
put-requires g c = omega (arith, c.node.ensures, c.requires.0.exact, node-fits c.args.l c.args.i c.requires.1)

pub returns : goal.returns
returns g c =
    c.put.ensures
    ∙ ap (λ (a : ℕ). g.E.Form.after (write a 0 ∷ []) c.args.lent.now) (c.node.ensures ∙ sym (cell-node c.args.l c.args.i c.requires.1.low))
