-- `fitting::fit_two`: lists that hold fit as they are; else the walks and the counts decide, the second walks only where they are asked.
use mathlib.Core.Path.{◌∙◌}
use Rattle.layout.proofs.Laws.{answered-yes}
use Rattle.lists.specs.Decide.{view_of, count_in}
use Rattle.fitting.specs.Fitting.{choose, fit_in}
use Rattle.fitting.proofs.Walks.{fit-alone}
use Rattle.fitting.proofs.Trails.{held_fits}
use Rattle.fitting.proofs.fit_two.Goals as goal

pub returns-then-two_hold : goal.returns-then-two_hold
returns-then-two_hold g c =
    let l = c.args.s.now.layout in
    let w = g.E.Form.words_in c.args.s.now.lent.now in
    let h = c.two_hold.ensures.right c.if-two_hold.true in
    let p = held_fits l (view_of l w) (count_in l w) c.args.k h.0 in
    let q = held_fits l (view_of l w) (count_in l w) c.args.j h.1 in
    ((cc), (cc))

pub returns-then-decides-2 : goal.returns-then-decides-2
returns-then-decides-2 g c =
    let l = c.args.s.now.layout in
    let w = g.E.Form.words_in c.args.s.now.lent.now in
    let v = view_of l w in
    let n = count_in l w in
    let p = fit-alone l v c.args.k (n c.args.k) c.walk_two.ensures.0 (answered-yes c.decides.ensures c.if-decides.true) in
    let q = fit-alone l v c.args.j (n c.args.j) c.walk_two.ensures.1 (answered-yes c.decides-then-decides.ensures c.if-decides-2.true) in
    ((cc), (cc))

pub returns : goal.returns
unfolding fit_in
returns g c = (
  c.choice.ensures ∙ (λ i. choose (c.walk_two.ensures.0 i) (c.walk_two-2.ensures.0 i) (c.count-m.ensures i)),
  c.choice-2.ensures ∙ (λ i. choose (c.walk_two.ensures.1 i) (c.walk_two-2.ensures.1 i) (c.count-n.ensures i)),
)
