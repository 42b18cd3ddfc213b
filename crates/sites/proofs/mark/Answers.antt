-- The cell is a node before its identifier is read.
use Rattle.layout.proofs.Laws.{is-node, answered-yes}
use Rattle.sites.proofs.mark.Goals as goal

pub node-requires : goal.node-requires
node-requires g c =
    rw c.from.ensures (is-node c.args.s.now.layout c.args.cell (answered-yes c.is_node.ensures c.if-not-is_node.false))
