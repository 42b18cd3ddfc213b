-- `counts::free_wipes`: at cell c the wipes of the free nodes before it are counted, and the count with those left is all.
use native.Mathlib.Omega.{arith}
use Rattle.layout.specs.Words.{first_node}
use Rattle.mending.proofs.Counting.{left-next, left-none, wipes-few}
use Rattle.counts.proofs.free_wipes.Goals as goal

pub overflow_add-count : goal.overflow_add-count
overflow_add-count g c =
    let s = c.args.s.now in
    let w = g.E.Form.words_in s.lent.now in
    omega (
      arith,
      c.loop-c.invariant,
      c.node_wipes-count.ensures,
      s.gridded.to,
      left-next s.layout w c.loop-c.c (omega (arith, s.gridded.to)),
      wipes-few s.layout w s.laid.in_range (first_node s.layout) s.layout.nodes,
      s.laid.in_range.nodes,
    )

pub loop-c-preserved : goal.loop-c-preserved
loop-c-preserved g c =
    let s = c.args.s.now in
    omega (
      arith,
      c.loop-c.invariant,
      c.node_wipes-count.ensures,
      left-next s.layout (g.E.Form.words_in s.lent.now) c.loop-c.c (omega (arith, s.gridded.to)),
    )

pub returns : goal.returns
returns g c =
    let s = c.args.s.now in
    omega (arith, c.loop-c.invariant, left-none s.layout (g.E.Form.words_in s.lent.now) c.loop-c.c (omega (arith, s.gridded.to)))
