-- `fitting::rest`: what the trail has met and what it has yet to meet are the faults of the whole walk.
use mathlib.Core.Bool.{Bool}
use mathlib.Core.Path.{ap, ◌∙◌}
use Rattle.layout.specs.declared.Cell.{Cell}
use Rattle.layout.proofs.Laws.{answered-yes, answered-no}
use Rattle.lists.specs.Decide.{view_of}
use Rattle.fitting.specs.Fitting.{end_of, way_of}
use Rattle.fitting.proofs.Trails.{further, trail-end}
use Rattle.fitting.proofs.rest.Goals as goal

pub loop-t-preserved : goal.loop-t-preserved
loop-t-preserved g c =
    further (view_of c.args.s.now.layout (g.E.Form.words_in c.args.s.now.lent.now)) c.args.k c.loop-t.invariant
    (answered-yes c.open.ensures c.loop-t-test.true) c.step-t.ensures

pub returns : goal.returns
returns g c =
    let l = c.args.s.now.layout in
    let v = view_of l (g.E.Form.words_in c.args.s.now.lent.now) in
    let k = c.args.k in
    let t = c.loop-t.t in
    c.end.ensures
    ∙ ap (λ (x : Cell). end_of l k x t) c.header.ensures
    ∙ trail-end l v k t c.loop-t.invariant.0 (answered-no c.open.ensures c.loop-t-test.false)
    ∙ ap (λ (b : Bool). way_of l v b k) c.loop-t.invariant.1
