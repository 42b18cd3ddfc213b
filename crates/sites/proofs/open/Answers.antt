-- Whole words that are too few are short.
use Rattle.std.proofs.Common.{◌≡◌, true, length, arith}
use borrow.Author.Tests.{lt-leb}
use Rattle.layout.specs.Words.{head_words, opened_by}
use Rattle.layout.proofs.Laws.{answered-yes}
use Rattle.sites.proofs.open.Goals as goal

pub returns-then-n-lt-HEAD_WORDS : goal.returns-then-n-lt-HEAD_WORDS
unfolding opened_by
returns-then-n-lt-HEAD_WORDS g c =
    let b = c.args.lent.now in
    let whole : g.E.Form.whole b ≡ true = answered-yes c.is_whole.ensures c.if-not-is_whole.false in
    rw (whole, lt-leb head_words (length (g.E.Form.words_in b)) (omega (arith, c.size-n.ensures, c.if-n-lt-HEAD_WORDS.true)))
