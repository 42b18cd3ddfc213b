-- `number` writes the digits of x / 10, by itself, and then the last one.
use Rattle.std.proofs.Common.{arith}
use Rattle.writing.proofs.Writing.{decimal-one, decimal-more, wrote-append, room-first, room-rest}
use Rattle.writing.proofs.Cursor.+number.Goals as goal

pub put-requires : goal.put-requires
put-requires t c = rw (decimal-one c.args.x c.if-x-lt10.true) at c.requires

pub returns-then-x-lt10 : goal.returns-then-x-lt10
returns-then-x-lt10 t c = rw (decimal-one c.args.x c.if-x-lt10.true) c.put.ensures

pub number-requires : goal.number-requires
number-requires t c =
    (omega (arith, c.if-x-lt10.false), room-first _ _ (rw (decimal-more c.args.x c.if-x-lt10.false) at c.requires))

pub put-requires-else-x-lt10 : goal.put-requires-else-x-lt10
put-requires-else-x-lt10 t c = room-rest _ (rw (decimal-more c.args.x c.if-x-lt10.false) at c.requires) c.number.ensures

pub returns-else-x-lt10 : goal.returns-else-x-lt10
returns-else-x-lt10 t c = rw (decimal-more c.args.x c.if-x-lt10.false) (wrote-append c.number.ensures c.put-else-x-lt10.ensures)
