-- `form::size`: as many words as the bytes have pairs.
use mathlib.Core.Path.{sym}
use Rattle.encoding.proofs.Laws.{length-words}
use Rattle.form.proofs.U8Form.size.Goals as goal

pub returns : goal.returns
returns c = sym (length-words c.args.bytes.now)
