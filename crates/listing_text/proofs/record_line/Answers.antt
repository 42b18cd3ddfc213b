-- `record_line` writes the position, the cell, the words and the end of the line.
use Rattle.writing.proofs.Writing.{wrote-append, room-first, room-rest}
use Rattle.listing_text.proofs.Lines.{record-parts}
use Rattle.listing_text.proofs.record_line.Goals as goal

pub number-requires : goal.number-requires
number-requires c = room-first _ _ (rw (record-parts c.args.p c.args.c c.args.rec.now) at c.requires)

pub labelled-requires : goal.labelled-requires
labelled-requires c =
    room-first _ _ (room-rest _ (rw (record-parts c.args.p c.args.c c.args.rec.now) at c.requires) c.number.ensures)

pub spaced-requires : goal.spaced-requires
spaced-requires c =
    let parts = rw (record-parts c.args.p c.args.c c.args.rec.now) at c.requires in
    room-first _ _ (room-rest _ (room-rest _ parts c.number.ensures) c.labelled.ensures)

pub put-requires : goal.put-requires
put-requires c =
    let parts = rw (record-parts c.args.p c.args.c c.args.rec.now) at c.requires in
    room-rest _ (room-rest _ (room-rest _ parts c.number.ensures) c.labelled.ensures) c.spaced.ensures

pub returns : goal.returns
returns c =
    rw (record-parts _ _ _)
    (wrote-append c.number.ensures
    (wrote-append c.labelled.ensures (wrote-append c.spaced.ensures c.put.ensures)))
