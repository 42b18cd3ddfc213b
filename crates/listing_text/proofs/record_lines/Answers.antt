-- `record_lines`: the cell that is read leads to the member at the position, a node, and its line is the next.
use Rattle.std.proofs.Common.{ap, arith}
use Rattle.layout.specs.declared.Cell.{Cell}
use Rattle.requests.proofs.Sites.{gap-cell, member-node}
use Rattle.writing.proofs.Writing.{writing-room, writing_step, writing-done}
use Rattle.listing_text.proofs.Lines.{member-next, record-next, record-end}
use Rattle.listing_text.proofs.record_lines.Goals as goal

pub cell-c-requires : goal.cell-c-requires
cell-c-requires c =
    gap-cell c.requires.held c.loop-p.p (omega (arith, c.loop-p-test.true)) c.loop-p.invariant.0

pub overflow_cast-c-in-loop-p : goal.overflow_cast-c-in-loop-p
overflow_cast-c-in-loop-p c =
    let e = ap (λ (x : Cell). x.forward) c.cell-c.ensures in
    let member = member-next c.args.s.now.lent.now c.requires.held c.loop-p.p c.loop-p.invariant.0 e c.loop-p-test.true in
    let node = member-node c.requires.held c.loop-p.p c.loop-p-test.true member in
    let r = c.args.s.now.laid.in_range in
    omega (arith, node.high, r.lists, r.nodes)

pub record_of-requires : goal.record_of-requires
record_of-requires c =
    let member = member-next c.args.s.now.lent.now c.requires.held c.loop-p.p c.loop-p.invariant.0 (ap (λ (x : Cell). x.forward) c.cell-c.ensures) c.loop-p-test.true in
    member-node c.requires.held c.loop-p.p c.loop-p-test.true member

pub record_line-requires : goal.record_line-requires
record_line-requires c =
    let w = c.args.s.now.lent.now in
    let member = member-next w c.requires.held c.loop-p.p c.loop-p.invariant.0 (ap (λ (x : Cell). x.forward) c.cell-c.ensures) c.loop-p-test.true in
    let next = record-next w c.requires.held c.loop-p.p c.record_of.result.now c.loop-p-test.true member c.record_of.ensures in
    writing-room _ _ (rw next at c.loop-p.invariant.1)

pub loop-p-preserved : goal.loop-p-preserved
loop-p-preserved c =
    let w = c.args.s.now.lent.now in
    let member = member-next w c.requires.held c.loop-p.p c.loop-p.invariant.0 (ap (λ (x : Cell). x.forward) c.cell-c.ensures) c.loop-p-test.true in
    let next = record-next w c.requires.held c.loop-p.p c.record_of.result.now c.loop-p-test.true member c.record_of.ensures in
    (member, writing_step _ (rw next at c.loop-p.invariant.1) c.record_line.ensures)

pub returns : goal.returns
returns c =
    writing-done (rw (record-end c.args.s.now.lent.now c.requires.held c.loop-p.p c.loop-p-test.false) at c.loop-p.invariant.1)
