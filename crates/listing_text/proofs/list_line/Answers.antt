-- `list_line` writes the two labelled numbers and the end of the line.
use Rattle.writing.proofs.Writing.{wrote-append, room-first, room-rest}
use Rattle.listing_text.specs.Listing.{list_line}
use Rattle.listing_text.proofs.list_line.Goals as goal

pub labelled-requires : goal.labelled-requires
unfolding list_line
labelled-requires c = room-first _ _ c.requires

pub labelled-requires-2 : goal.labelled-requires-2
unfolding list_line
labelled-requires-2 c = room-first _ _ (room-rest _ c.requires c.labelled.ensures)

pub put-requires : goal.put-requires
unfolding list_line
put-requires c = room-rest _ (room-rest _ c.requires c.labelled.ensures) c.labelled-2.ensures

pub returns : goal.returns
unfolding list_line
returns c = wrote-append c.labelled.ensures (wrote-append c.labelled-2.ensures c.put.ensures)
