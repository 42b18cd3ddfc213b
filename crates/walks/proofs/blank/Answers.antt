-- `walks::blank` meets its contract. The loop's invariant: the first 4 i words are 0.
use Prim.Native.Nat.{ℕ, ◌+◌, ◌*◌, ◌-◌}
use mathlib.Core.Path.{◌≡◌, ◌∙◌, sym, subst}
use mathlib.Core.Bool.{true}
use native.Mathlib.Omega.{arith}
use Rattle.lists.specs.Decide.{blank_from}
use Rattle.spans.proofs.Sums.{blank_none, four-more, four-not, four-last}
use Rattle.walks.proofs.blank.Goals as goal

pub loop-i-init : goal.loop-i-init
loop-i-init g c = let a = c.args in blank_none (g.E.Form.words_in a.lent.now) a.a

pub returns-then-not-four_blank : goal.returns-then-not-four_blank
returns-then-not-four_blank g c =
    let a = c.args in
    four-not (g.E.Form.words_in a.lent.now) a.a a.n (4 * c.loop-i.i) (omega arith) (sym (rw c.from.ensures at c.four_blank.ensures) ∙ c.if-not-four_blank.true)

pub loop-i-preserved : goal.loop-i-preserved
loop-i-preserved g c =
    let a = c.args in
    let w = g.E.Form.words_in a.lent.now in
    let e : 4 * c.loop-i.i + 4 ≡ 4 * (c.loop-i.i + 1) = omega arith in
    subst (λ (n : ℕ). blank_from w a.a n ≡ true) e
    (four-more w a.a (4 * c.loop-i.i) c.loop-i.invariant (sym (rw c.from.ensures at c.four_blank.ensures) ∙ c.if-not-four_blank.false))

pub returns : goal.returns
returns g c =
    let a = c.args in
    let w = g.E.Form.words_in a.lent.now in
    let e : a.a + c.from-2.result - 4 ≡ a.a + (a.n - 4) = omega arith in
    (rw e at c.four_blank-2.ensures)
    ∙ four-last w a.a a.n (4 * c.loop-i.i) (a.n - 4) (omega arith) (omega arith) c.loop-i.invariant
