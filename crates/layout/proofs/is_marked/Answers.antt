-- `layout::is_marked` meets its contract. Its five tests are those of `marked`, in order.
use borrow.Author.Tests.{eq-eqb, ne_eqb}
use Rattle.layout.specs.Words.{marked}
use Rattle.layout.proofs.Laws.{answered-no, answered-yes}
use Rattle.layout.proofs.is_marked.Goals as goal

pub returns-then-head-ne-MARK_0 : goal.returns-then-head-ne-MARK_0
unfolding marked
returns-then-head-ne-MARK_0 c = rw (ne_eqb _ 82 c.if-head-ne-MARK_0.true)

pub returns-then-head-ne-MARK_1 : goal.returns-then-head-ne-MARK_1
unfolding marked
returns-then-head-ne-MARK_1 c = rw (eq-eqb _ 82 c.if-head-ne-MARK_0.false, ne_eqb _ 66 c.if-head-ne-MARK_1.true)

pub returns-then-head-ne-MARK_2 : goal.returns-then-head-ne-MARK_2
unfolding marked
returns-then-head-ne-MARK_2 c =
    let b = c.before.before in
    rw (eq-eqb _ 82 b.if-head-ne-MARK_0.false, eq-eqb _ 66 b.if-head-ne-MARK_1.false, ne_eqb _ 83 c.if-head-ne-MARK_2.true)

pub returns-then-not-known : goal.returns-then-not-known
unfolding marked
returns-then-not-known c =
    let s = c.before.before.before in
    let b = s.before.before in
    rw (
      eq-eqb _ 82 b.if-head-ne-MARK_0.false,
      eq-eqb _ 66 b.if-head-ne-MARK_1.false,
      eq-eqb _ 83 s.if-head-ne-MARK_2.false,
      answered-no c.known.ensures c.if-not-known.true,
    )

pub returns : goal.returns
unfolding marked
returns c =
    let v = c.before in
    let s = v.before.before.before in
    let b = s.before.before in
    rw (
      eq-eqb _ 82 b.if-head-ne-MARK_0.false,
      eq-eqb _ 66 b.if-head-ne-MARK_1.false,
      eq-eqb _ 83 s.if-head-ne-MARK_2.false,
      answered-yes v.known.ensures v.if-not-known.false,
    )
