-- `layout::open_with` meets its contract. Each return is one question of `opened_by`, with those before it answered yes.
use mathlib.Core.Path.{◌∙◌}
use borrow.Author.Tests.{le-leb, eq-eqb, ne_eqb}
use Rattle.layout.specs.Words.{head_words, opened_by}
use Rattle.layout.proofs.Laws.{answered-no, answered-yes}
use Rattle.layout.proofs.open_with.Goals as goal

pub returns-then-not-is_marked : goal.returns-then-not-is_marked
unfolding opened_by
returns-then-not-is_marked c =
    rw (
      le-leb head_words _ c.requires.0,
      answered-no c.is_marked.ensures c.if-not-is_marked.true,
    )

pub returns-then-not-in_range : goal.returns-then-not-in_range
unfolding opened_by
returns-then-not-in_range c =
    let m = c.before.before.before.before.before.before in
    rw (
      le-leb head_words _ m.requires.0,
      answered-yes m.is_marked.ensures m.if-not-is_marked.false,
      answered-no c.in_range.ensures c.if-not-in_range.true,
    )

pub returns-then-n-size : goal.returns-then-n-size
unfolding opened_by
returns-then-n-size c =
    let r = c.before.before in
    let m = r.before.before.before.before.before.before in
    rw (
      le-leb head_words _ m.requires.0,
      answered-yes m.is_marked.ensures m.if-not-is_marked.false,
      answered-yes r.in_range.ensures r.if-not-in_range.false,
      ne_eqb _ _ (rw c.size.ensures at c.if-n-size.true),
    )

pub returns : goal.returns
unfolding opened_by
returns c =
    let r = c.before.before in
    let m = r.before.before.before.before.before.before in
    rw (
      le-leb head_words _ m.requires.0,
      answered-yes m.is_marked.ensures m.if-not-is_marked.false,
      answered-yes r.in_range.ensures r.if-not-in_range.false,
      eq-eqb _ _ (c.if-n-size.false ∙ c.size.ensures),
    )
