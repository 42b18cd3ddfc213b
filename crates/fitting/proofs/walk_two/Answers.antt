-- `fitting::walk_two`: each trail stands where its walk does.
use Rattle.layout.proofs.Laws.{answered-yes}
use Rattle.lists.specs.Decide.{view_of}
use Rattle.fitting.proofs.Trails.{begun, further}
use Rattle.fitting.proofs.walk_two.Goals as goal

pub loop-t-init : goal.loop-t-init
loop-t-init g c =
    let v = view_of c.args.s.now.layout (g.E.Form.words_in c.args.s.now.lent.now) in (
      begun v c.args.k c.header.ensures c.first-t.ensures,
      begun v c.args.j c.header-2.ensures c.first-u.ensures,
    )

pub loop-t-preserved : goal.loop-t-preserved
loop-t-preserved g c =
    let v = view_of c.args.s.now.layout (g.E.Form.words_in c.args.s.now.lent.now) in (
      further v c.args.k c.loop-t.invariant.0 (answered-yes c.open.ensures c.loop-t-test.true) c.step-t.ensures,
      further v c.args.j c.loop-t.invariant.1 (answered-yes c.open-in-loop-t.ensures c.if-open.true) c.step-u.ensures,
    )
