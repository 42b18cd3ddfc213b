-- `Store::is_sound` meets its contract. As many nodes are in use as the counts say in sum, and no free node has a record, or the store is
-- not sound. The loop's invariant: the first 2 i lists hold.
use Prim.Native.Nat.{◌+◌, ◌*◌, ◌-◌}
use mathlib.Core.Path.{◌≡◌, ap, ◌∙◌, sym}
use native.Mathlib.Omega.{arith}
use borrow.Author.Tests.{eq-eqb}
use Rattle.lists.specs.Decide.{view_of, count_in}
use Rattle.lists.proofs.Stepwise.{all-hold-none, all-hold-more}
use Rattle.spans.specs.declared.Tally.{Tally}
use Rattle.spans.proofs.Decided.{denied, granted}
use Rattle.spans.proofs.Counts.{sum-not, unwiped-not, pair-not, sum-sound, last-sound}
use Rattle.walks.proofs.Store.is_sound.Goals as goal

pub returns-then-t-counted : goal.returns-then-t-counted
returns-then-t-counted g c =
    let s = c.args.self.now in
    let w = g.E.Form.words_in s.lent.now in
    sum-not s.layout (view_of s.layout w) (count_in s.layout w)
    (λ e. c.if-t-counted.true (ap (λ (t : Tally). t.used) c.tally-t.ensures ∙ e ∙ sym c.counted.ensures))

pub returns-then-t-ne0 : goal.returns-then-t-ne0
returns-then-t-ne0 g c =
    let s = c.args.self.now in
    let w = g.E.Form.words_in s.lent.now in
    unwiped-not s.layout (view_of s.layout w) (count_in s.layout w)
    (λ e. c.if-t-ne0.true (ap (λ (t : Tally). t.unwiped) c.tally-t.ensures ∙ e))

pub loop-i-init : goal.loop-i-init
loop-i-init g c =
    let s = c.args.self.now in
    let w = g.E.Form.words_in s.lent.now in
    all-hold-none s.layout (view_of s.layout w) (count_in s.layout w)

pub returns-then-not-two_hold : goal.returns-then-not-two_hold
returns-then-not-two_hold g c =
    let s = c.args.self.now in
    let w = g.E.Form.words_in s.lent.now in
    let k = 2 * c.loop-i.i in
    pair-not s.layout (view_of s.layout w) (count_in s.layout w) k (k + 1) (omega arith) (omega arith)
    (denied c.two_hold.ensures c.if-not-two_hold.true)

pub loop-i-preserved : goal.loop-i-preserved
loop-i-preserved g c =
    let s = c.args.self.now in
    let w = g.E.Form.words_in s.lent.now in
    let v = view_of s.layout w in
    let n = count_in s.layout w in
    let k = 2 * c.loop-i.i in
    let p = granted c.two_hold.ensures c.if-not-two_hold.false in
    let e : 2 * (c.loop-i.i + 1) ≡ k + 1 + 1 = omega arith in
    rw e (all-hold-more s.layout v n (k + 1) (all-hold-more s.layout v n k c.loop-i.invariant p.0) p.1)

-- the sum of the counts is right, and no free node has a record
pub returns-then-lists-eq0 : goal.returns-then-lists-eq0
returns-then-lists-eq0 g c =
    let s = c.args.self.now in
    let w = g.E.Form.words_in s.lent.now in
    eq-eqb _ _ c.if-lists-eq0.true
    ∙ sum-sound s.layout (view_of s.layout w) (count_in s.layout w)
    (sym (ap (λ (t : Tally). t.used) c.tally-t.ensures) ∙ c.if-t-counted.false ∙ c.counted.ensures)
    (sym (ap (λ (t : Tally). t.unwiped) c.tally-t.ensures) ∙ c.if-t-ne0.false) (2 * c.loop-i.i) (omega arith) c.loop-i.invariant

pub returns-else-lists-eq0 : goal.returns-else-lists-eq0
returns-else-lists-eq0 g c =
    let s = c.args.self.now in
    let w = g.E.Form.words_in s.lent.now in
    let e : s.layout.lists - 1 ≡ 2 * c.loop-i.i = omega arith in
    last-sound s.layout (view_of s.layout w) (count_in s.layout w)
    (sym (ap (λ (t : Tally). t.used) c.tally-t.ensures) ∙ c.if-t-counted.false ∙ c.counted.ensures)
    (sym (ap (λ (t : Tally). t.unwiped) c.tally-t.ensures) ∙ c.if-t-ne0.false) (s.layout.lists - 1) c.one_holds.result
    (omega arith) (rw e c.loop-i.invariant) c.one_holds.ensures
