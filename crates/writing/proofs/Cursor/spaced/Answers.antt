-- `spaced` writes number by number: the space, and then the digits.
use Rattle.writing.specs.Text.{codes}
use Rattle.writing.proofs.Writing.{wrote-append, writing-room, writing_step, writing-done, spaced-next, spaced-end}
use Rattle.writing.proofs.Cursor.spaced.Goals as goal

pub put-requires : goal.put-requires
put-requires c =
    writing-room (codes " ") _ (rw (spaced-next c.args.row.now c.loop-x.x-index c.loop-x-test.true) at c.loop-x.invariant)

pub number-requires : goal.number-requires
number-requires c =
    let next = rw (spaced-next c.args.row.now c.loop-x.x-index c.loop-x-test.true) at c.loop-x.invariant in
    writing-room _ _ (writing_step _ next c.put.ensures)

pub loop-x-preserved : goal.loop-x-preserved
loop-x-preserved c =
    let next = rw (spaced-next c.args.row.now c.loop-x.x-index c.loop-x-test.true) at c.loop-x.invariant in
    writing_step _ next (wrote-append c.put.ensures c.number.ensures)

pub returns : goal.returns
returns c = writing-done (rw (spaced-end c.args.row.now c.loop-x.x-index c.loop-x-test.false) at c.loop-x.invariant)
