-- `all_lists`: the lines of list k are the next.
use native.Mathlib.Nat.{sub-zero}
use Rattle.lists.specs.Decide.{sequence_of}
use Rattle.writing.proofs.Writing.{writing_start, writing-room, writing_step, writing-done}
use Rattle.listing_text.proofs.Lines.{lists-next, lists-end}
use Rattle.listing_text.proofs.all_lists.Goals as goal

pub loop-k-init : goal.loop-k-init
loop-k-init c = rw sub-zero (writing_start _ _ c.requires.room)

pub list_lines-requires-clause-room : goal.list_lines-requires-clause-room
list_lines-requires-clause-room c =
    let l = c.args.s.now.layout in
    let w = c.args.s.now.lent.now in
    let next = lists-next l w (sequence_of l w) c.loop-k.k c.loop-k-test.true in
    writing-room _ _ (rw next at c.loop-k.invariant)

pub loop-k-preserved : goal.loop-k-preserved
loop-k-preserved c =
    let l = c.args.s.now.layout in
    let w = c.args.s.now.lent.now in
    let next = lists-next l w (sequence_of l w) c.loop-k.k c.loop-k-test.true in
    writing_step _ (rw next at c.loop-k.invariant) c.list_lines.ensures

pub returns : goal.returns
returns c =
    let l = c.args.s.now.layout in
    let w = c.args.s.now.lent.now in
    writing-done (rw (lists-end l w (sequence_of l w) c.loop-k.k c.loop-k-test.false) at c.loop-k.invariant)
