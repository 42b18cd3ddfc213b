-- `walks::one_holds`: the header has the list's identifier, and the walks that begin there decide.
use Rattle.lists.specs.Decide.{view_of, count_in}
use Rattle.spans.proofs.Decided.{denied, decides-same}
use Rattle.spans.proofs.Ends.{held-ident, whole-held, held_whole}
use Rattle.walks.proofs.Store.one_holds.Goals as goal

pub returns-then-headed : goal.returns-then-headed
returns-then-headed g c =
    let l = c.args.self.now.layout in
    let w = g.E.Form.words_in c.args.self.now.lent.now in
    let k = c.args.k in
    decides-same
    (whole-held l (view_of l w) (count_in l w) k c.requires c.whole.ensures (c.headed.ensures.right c.if-headed.true))
    (held_whole l (view_of l w) (count_in l w) k c.requires c.whole.ensures) c.spanned.ensures

pub returns-else-headed : goal.returns-else-headed
returns-else-headed g c =
    let l = c.args.self.now.layout in
    let w = g.E.Form.words_in c.args.self.now.lent.now in
    decides-same (λ i. absurd (denied c.headed.ensures c.if-headed.false i))
    (held-ident l (view_of l w) (count_in l w) c.args.k c.requires) c.headed.ensures
