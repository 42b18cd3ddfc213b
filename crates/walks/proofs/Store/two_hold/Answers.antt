-- `walks::two_hold`: both headers have their list's identifier, and the walks that begin there decide.
use Rattle.lists.specs.Decide.{view_of, count_in}
use Rattle.spans.proofs.Decided.{refused, denied, decides-same}
use Rattle.spans.proofs.Ends.{held-ident, whole-held, held_whole}
use Rattle.walks.proofs.Store.two_hold.Goals as goal

pub returns-then-not-headed : goal.returns-then-not-headed
returns-then-not-headed g c =
    let l = c.args.self.now.layout in
    let w = g.E.Form.words_in c.args.self.now.lent.now in
    refused (λ h. denied c.headed.ensures c.if-not-headed.true (held-ident l (view_of l w) (count_in l w) c.args.k c.requires.0 h.0))

pub returns-then-not-headed-2 : goal.returns-then-not-headed-2
returns-then-not-headed-2 g c =
    let l = c.args.self.now.layout in
    let w = g.E.Form.words_in c.args.self.now.lent.now in
    refused (λ h. denied c.headed-2.ensures c.if-not-headed-2.true (held-ident l (view_of l w) (count_in l w) c.args.j c.requires.1 h.1))

pub returns : goal.returns
returns g c =
    let l = c.args.self.now.layout in
    let w = g.E.Form.words_in c.args.self.now.lent.now in
    let k = c.args.k in
    let j = c.args.j in
    let i = c.headed.ensures.right c.if-not-headed.false in
    let h = c.headed-2.ensures.right c.if-not-headed-2.false in
    decides-same
    (λ b. (whole-held l (view_of l w) (count_in l w) k c.requires.0 c.whole-s.ensures i b.0, whole-held l (view_of l w) (count_in l w) j c.requires.1 c.whole-t.ensures h b.1))
    (λ h. (held_whole l (view_of l w) (count_in l w) k c.requires.0 c.whole-s.ensures h.0, held_whole l (view_of l w) (count_in l w) j c.requires.1 c.whole-t.ensures h.1))
    c.both_spanned.ensures
