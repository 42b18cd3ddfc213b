-- `walks::middle`: where no cell is left, the ends lead to each other; where one is left, both lead to it.
use mathlib.Core.Path.{◌≡◌, ◌∙◌, sym}
use mathlib.Core.Bool.{true≢false}
use native.Mathlib.Omega.{arith}
use Rattle.layout.proofs.Laws.{is-node, answered-no, answered-yes}
use Rattle.spans.proofs.Decided.{refused, decides-same}
use Rattle.spans.proofs.Ends.{closed-spanned, spanned-closed, single-spanned, spanned-single}
use Rattle.walks.proofs.Store.middle.Goals as goal

pub returns-then-s-eq0 : goal.returns-then-s-eq0
returns-then-s-eq0 g c =
    let led = c.requires.2 in
    decides-same (closed-spanned led c.if-s-eq0.true) (spanned-closed led c.if-s-eq0.true) c.is_closed.ensures

pub returns-then-not-is_node : goal.returns-then-not-is_node
returns-then-not-is_node g c =
    let one : c.args.s.count ≡ 1 = omega arith in
    refused
    (λ b.
    true≢false
    (sym (spanned-single c.requires.2 one b).0 ∙ answered-no c.is_node.ensures c.if-not-is_node.true))

pub node-requires : goal.node-requires
node-requires g c =
    is-node c.args.self.now.layout c.args.s.first (answered-yes c.is_node.ensures c.if-not-is_node.false)

pub returns : goal.returns
returns g c =
    let led = c.requires.2 in
    let one : c.args.s.count ≡ 1 = omega arith in
    decides-same (single-spanned led one (answered-yes c.is_node.ensures c.if-not-is_node.false)) (λ b. (spanned-single led one b).1)
    (rw c.node.ensures at c.is_single.ensures)
