-- `requests::place_asked` meets its contract. Each return is one question, with those before it answered yes.
use mathlib.Core.Path.{refl}
use native.Mathlib.Omega.{arith}
use borrow.Author.Tests.{le-leb, lt-leb}
use Rattle.layout.proofs.Laws.{answered-no, answered-yes}
use Rattle.requests.proofs.place_asked.Goals as goal

pub returns-then-n-p : goal.returns-then-n-p
returns-then-n-p c =
    let a = c.args in
    rw (lt-leb a.p a.n (omega (arith, c.if-n-p.true)))

pub returns-then-not-is_node : goal.returns-then-not-is_node
returns-then-not-is_node c =
    let a = c.args in
    rw (le-leb a.p a.n (omega arith), answered-no c.is_node.ensures c.if-not-is_node.true)

pub returns-then-not-fits : goal.returns-then-not-fits
returns-then-not-fits c =
    let i = c.before in
    let a = i.args in
    rw (
      le-leb a.p a.n (omega arith),
      answered-yes i.is_node.ensures i.if-not-is_node.false,
      answered-no (refl {a = a.fits}) c.if-not-fits.true,
    )

pub returns : goal.returns
returns c =
    let i = c.before in
    let a = i.args in
    rw (
      le-leb a.p a.n (omega arith),
      answered-yes i.is_node.ensures i.if-not-is_node.false,
      answered-yes (refl {a = a.fits}) c.if-not-fits.false,
    )
