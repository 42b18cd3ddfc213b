-- `labelled` writes its text and then the number.
use Rattle.writing.proofs.Writing.{wrote-append}
use Rattle.writing.proofs.Cursor.labelled.Goals as goal

pub returns : goal.returns
returns c = wrote-append c.text.ensures c.number.ensures
