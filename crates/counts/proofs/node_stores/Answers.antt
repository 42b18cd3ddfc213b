-- `counts::node_stores`: the entry says free, in use, or neither.
use Prim.Native.Nat.{ℕ, ◌+◌}
use mathlib.Core.Path.{ap, sym, ◌∙◌}
use native.Mathlib.Omega.{arith}
use Rattle.mending.proofs.Counting.{entry_free, entry-used, entry-neither, blank-few}
use Rattle.counts.proofs.node_stores.Goals as goal

pub returns-then-is_free : goal.returns-then-is_free
returns-then-is_free g c =
    let s = c.args.s.now in
    c.record_wipes.ensures
    ∙ sym (entry_free s.layout (g.E.Form.words_in s.lent.now) c.args.entry c.args.c (sym c.is_free.ensures ∙ c.if-is_free.true))

pub overflow_add-result : goal.overflow_add-result
overflow_add-result g c =
    let s = c.args.s.now in
    omega (arith, c.record_wipes-then-in_use.ensures, blank-few s.layout (g.E.Form.words_in s.lent.now) s.laid.in_range c.args.c)

pub returns-then-in_use : goal.returns-then-in_use
returns-then-in_use g c =
    let s = c.args.s.now in
    ap (λ (n : ℕ). 1 + n) c.record_wipes-then-in_use.ensures
    ∙ sym (entry-used s.layout (g.E.Form.words_in s.lent.now) c.args.entry c.args.c (sym c.in_use.ensures ∙ c.if-in_use.true))

pub returns : goal.returns
returns g c =
    let s = c.args.s.now in
    sym (entry-neither s.layout (g.E.Form.words_in s.lent.now) c.args.entry c.args.c (sym c.is_free.ensures ∙ c.if-is_free.false) (sym c.in_use.ensures ∙ c.if-in_use.false))
