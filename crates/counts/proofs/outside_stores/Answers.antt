-- `counts::outside_stores`: at cell c the stores to the nodes before it are counted, and the count with those left is all.
use native.Mathlib.Omega.{arith}
use Rattle.layout.specs.Words.{first_node}
use Rattle.mending.proofs.Counting.{outside-next, outside-none, outside-few}
use Rattle.counts.proofs.outside_stores.Goals as goal

pub overflow_add-count : goal.overflow_add-count
overflow_add-count g c =
    let s = c.args.s.now in
    let w = g.E.Form.words_in s.lent.now in
    let i = c.args.idents.now in
    omega (
      arith,
      c.loop-c.invariant,
      c.node_stores-count.ensures,
      outside-next s.layout w i c.loop-c.c (omega (arith, s.gridded.to)),
      outside-few s.layout w s.laid.in_range i (first_node s.layout) s.layout.nodes,
      s.laid.in_range.nodes,
    )

pub loop-c-preserved : goal.loop-c-preserved
loop-c-preserved g c =
    let s = c.args.s.now in
    omega (
      arith,
      c.loop-c.invariant,
      c.node_stores-count.ensures,
      outside-next s.layout (g.E.Form.words_in s.lent.now) c.args.idents.now c.loop-c.c (omega (arith, s.gridded.to)),
    )

pub returns : goal.returns
returns g c =
    let s = c.args.s.now in
    omega (
      arith,
      c.loop-c.invariant,
      outside-none s.layout (g.E.Form.words_in s.lent.now) c.args.idents.now c.loop-c.c (omega (arith, s.gridded.to)),
    )
