-- `decode` decodes word by word: the words in front of the index are those of the bytes.
use Rattle.std.proofs.Common.{◌≡◌}
use Rattle.listing_text.proofs.Over.{over}
use Rattle.encoding.specs.Bytes.{words_in}
use Rattle.listing_text.proofs.decode.Given as goal

abbrev pub invariant-loop-i : goal.invariant-loop-i
invariant-loop-i l = l.words ≡ over (words_in l.bytes) l.initial.words l.i
