-- `layout::Layout::in_range` meets its contract. Each test is one part of `inRange`.
use Rattle.layout.specs.Words.{in_range}
use Rattle.layout.proofs.Laws.{answered-no, answered-yes}
use Rattle.layout.proofs.Layout.in_range.Goals as goal

pub returns-then-not-known : goal.returns-then-not-known
unfolding in_range
returns-then-not-known c = rw (answered-no c.known.ensures c.if-not-known.true)

pub returns-then-not-within : goal.returns-then-not-within
unfolding in_range
returns-then-not-within c =
    let v = c.before.before in
    rw (
      answered-yes v.known.ensures v.if-not-known.false,
      answered-no c.within.ensures c.if-not-within.true,
    )

pub returns-then-not-within-2 : goal.returns-then-not-within-2
unfolding in_range
returns-then-not-within-2 c =
    let l = c.before.before in
    let v = l.before.before in
    rw (
      answered-yes v.known.ensures v.if-not-known.false,
      answered-yes l.within.ensures l.if-not-within.false,
      answered-no c.within-2.ensures c.if-not-within-2.true,
    )

pub returns : goal.returns
unfolding in_range
returns c =
    let n = c.before in
    let l = n.before.before in
    let v = l.before.before in
    rw (
      answered-yes v.known.ensures v.if-not-known.false,
      answered-yes l.within.ensures l.if-not-within.false,
      answered-yes n.within-2.ensures n.if-not-within-2.false,
    )
    c.within-3.ensures
