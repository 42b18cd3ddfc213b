-- `recovering::stores_left`: the mends, and what is left of the identifiers tells how many stores go outside the lists.
use Rattle.std.proofs.Common.{Ok, ◌+◌, List, ℕ, arith, ap, sym, ◌∙◌}
use Rattle.layout.specs.Words.{first_node}
use Rattle.mending.specs.Mending.{outside_from}
use Rattle.mending.proofs.Counting.{outside-few}
use Rattle.mending.proofs.Counted.{needed-left}
use Rattle.recovering.proofs.stores_left.Goals as goal

pub overflow_add-result : goal.overflow_add-result
overflow_add-result g c =
    let s = c.args.s.now in
    let l = s.layout in
    omega (
      arith,
      c.len.ensures.fits,
      c.outside_stores.ensures,
      outside-few l (g.E.Form.words_in s.lent.now) s.laid.in_range c.erase_all.new.idents (first_node l) l.nodes,
      s.laid.in_range.nodes,
    )

pub returns : goal.returns
returns g c =
    let s = c.args.s.now in
    let l = s.layout in
    let w = g.E.Form.words_in s.lent.now in
    let column = c.read_nodes.ensures in
    let outside = c.outside_stores.ensures ∙ ap (λ (x : List ℕ). outside_from l w x (first_node l) l.nodes) c.erase_all.ensures in
    (λ i. Ok (c.len.ensures.value i + outside i))
    ∙ sym (needed-left l w c.args.mends.now c.requires s.laid.exact s.laid.in_range c.read_nodes.new.idents column.room column.nodes)
