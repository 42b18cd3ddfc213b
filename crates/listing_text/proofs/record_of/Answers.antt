-- `record_of` hands back the part of the words where the record stands: it lies in the store.
use Prim.Native.Nat.{ℕ, ◌+◌}
use mathlib.Core.Path.{ap, ◌∙◌}
use native.Mathlib.Omega.{arith}
use native.Mathlib.Nat.{add-sub_cancel_left}
use lib.ListN.{take, drop}
use Rattle.listing_text.proofs.Lines.{record-fits}
use Rattle.listing_text.proofs.record_of.Goals as goal

pub node-a-requires : goal.node-a-requires
node-a-requires c = c.requires.low

pub overflow_add-a : goal.overflow_add-a
overflow_add-a c = omega (arith, record-fits c.args.s.now.laid c.requires, c.node-a.ensures)

pub overflow_add-e : goal.overflow_add-e
overflow_add-e c = omega (arith, record-fits c.args.s.now.laid c.requires, c.node-a.ensures)

pub offset_bounds-s-a : goal.offset_bounds-s-a
offset_bounds-s-a c = omega (arith, record-fits c.args.s.now.laid c.requires, c.node-a.ensures)

pub slice_bounds-result-end : goal.slice_bounds-result-end
slice_bounds-result-end c = omega (arith, record-fits c.args.s.now.laid c.requires, c.node-a.ensures)

pub returns : goal.returns
returns c =
    let w = c.args.s.now.lent.now in
    let l = c.args.s.now.layout in
    let a = c.node-a.result + 3 in
    ap (λ (n : ℕ). take n (drop a w)) (add-sub_cancel_left a l.width)
    ∙ ap (λ (n : ℕ). take l.width (drop (n + 3) w)) c.node-a.ensures
