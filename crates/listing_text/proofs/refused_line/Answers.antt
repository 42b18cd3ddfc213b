-- `refused_line` writes the labelled number and the end of the line.
use Rattle.writing.proofs.Writing.{wrote-append, room-first, room-rest}
use Rattle.listing_text.specs.Listing.{refused_line}
use Rattle.listing_text.proofs.refused_line.Goals as goal

pub labelled-requires : goal.labelled-requires
unfolding refused_line
labelled-requires c = room-first _ _ (rw (← c.number.ensures) at c.requires)

pub put-requires : goal.put-requires
unfolding refused_line
put-requires c = room-rest _ (rw (← c.number.ensures) at c.requires) c.labelled.ensures

pub returns : goal.returns
unfolding refused_line
returns c = rw (← c.number.ensures) (wrote-append c.labelled.ensures c.put.ensures)
