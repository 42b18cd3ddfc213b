-- `fitting::fit_one`: a list that holds fits as it is; else the two walks and the count decide.
use mathlib.Core.Path.{◌∙◌}
use Rattle.lists.specs.Decide.{view_of, count_in}
use Rattle.fitting.specs.Fitting.{choose, fit_in}
use Rattle.fitting.proofs.Trails.{held_fits}
use Rattle.fitting.proofs.fit_one.Goals as goal

pub returns-then-one_holds : goal.returns-then-one_holds
returns-then-one_holds g c =
    let l = c.args.s.now.layout in
    let w = g.E.Form.words_in c.args.s.now.lent.now in
    let h = held_fits l (view_of l w) (count_in l w) c.args.k (c.one_holds.ensures.right c.if-one_holds.true) in
    cc

pub returns : goal.returns
unfolding fit_in
returns g c = c.choice.ensures ∙ (λ i. choose (c.walk_two.ensures.0 i) (c.walk_two.ensures.1 i) (c.count-n.ensures i))
