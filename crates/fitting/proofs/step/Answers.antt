-- `fitting::step`: an open trail comes to a node.
use native.Mathlib.Omega.{arith}
use Rattle.layout.proofs.Laws.{is-node}
use Rattle.fitting.proofs.Trails.{open-node}
use Rattle.fitting.proofs.step.Goals as goal

pub node-requires : goal.node-requires
node-requires g c = is-node c.args.s.now.layout c.args.t.at (open-node c.args.s.now.layout c.args.t c.requires.1).0

pub step-requires : goal.step-requires
step-requires g c =
    let o = open-node c.args.s.now.layout c.args.t c.requires.1 in
    let n = is-node c.args.s.now.layout c.args.t.at o.0 in
    let r = c.args.s.now.laid.in_range in
    (omega (arith, r.lists, c.requires.0), omega (arith, r.lists, r.nodes, n.high), o.1)
