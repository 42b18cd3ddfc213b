-- `walks::round`: the first and the last cell are nodes, and what is said of them is said of the view.
use Rattle.layout.proofs.Laws.{is-node, answered-yes}
use Rattle.lists.specs.Decide.{view_of}
use Rattle.spans.proofs.Ends.{narrowed-rounded}
use Rattle.walks.proofs.Store.round.Goals as goal

pub node-requires : goal.node-requires
node-requires g c =
    let s = c.args in
    is-node s.self.now.layout s.s.first (answered-yes c.is_node.ensures c.if-not-is_node.false)

pub node-requires-2 : goal.node-requires-2
node-requires-2 g c =
    let s = c.args in
    is-node s.self.now.layout s.s.last (answered-yes c.is_node-2.ensures c.if-not-is_node-2.false)

pub returns : goal.returns
returns g c =
    let s = c.args in
    narrowed-rounded s.self.now.layout (view_of s.self.now.layout (g.E.Form.words_in s.self.now.lent.now)) s.k s.s c.round.result
    (answered-yes c.is_node.ensures c.if-not-is_node.false) (answered-yes c.is_node-2.ensures c.if-not-is_node-2.false)
    c.node.ensures c.node-2.ensures c.round.ensures
