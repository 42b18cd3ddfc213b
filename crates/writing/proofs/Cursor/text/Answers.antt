-- `text` writes character by character.
use Rattle.writing.proofs.Writing.{writing_step, drop-next}
use Rattle.writing.proofs.Cursor.text.Goals as goal

pub loop-b-preserved : goal.loop-b-preserved
loop-b-preserved c =
    let t = c.args.t.now in
    writing_step _ (rw (drop-next t c.loop-b.b-index c.loop-b-test.true) at c.loop-b.invariant) c.put.ensures
