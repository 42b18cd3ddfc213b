-- `counts::row_wipes`: at word b those before it are counted, and the count with those left is all.
use Prim.Native.Nat.{ℕ, ◌+◌, ◌-◌}
use mathlib.Core.Path.{◌≡◌, ap, sym, ◌∙◌}
use native.Mathlib.Omega.{arith}
use lib.ListN.{length, replicate}
use Rattle.stores.specs.Stores.{in_row}
use Rattle.recovery.specs.Fits.{wrong}
use Rattle.mending.proofs.Wiping.{row_left, row_zero, row_other, row-none}
use Rattle.mending.proofs.Counting.{row-few}
use Rattle.counts.proofs.row_wipes.Goals.{then-word-ne0, else-word-ne0}
use Rattle.counts.proofs.row_wipes.Goals as goal

pub overflow_add-count : goal.overflow_add-count
overflow_add-count g c =
    let a = c.args in
    let w = g.E.Form.words_in a.s.now.lent.now in
    omega (
      arith,
      c.loop-b.invariant,
      row-few w a.a (a.a + a.n - a.a),
      ap length (row_other w c.loop-b.b (a.a + a.n) (omega arith) (λ z. c.if-word-ne0.true (c.word.ensures ∙ z))),
    )

pub loop-b-preserved : goal.loop-b-preserved
loop-b-preserved g c =
    let a = c.args in
    let w = g.E.Form.words_in a.s.now.lent.now in
    let e = a.a + a.n in
    elim c.if-word-ne0.branch [
      | then-word-ne0 o ↦
          omega (arith, c.loop-b.invariant, o.count-is, ap length (row_other w c.loop-b.b e (omega arith) (λ z. o.if-word-ne0.true (c.word.ensures ∙ z))))
      | else-word-ne0 o ↦
          omega (arith, c.loop-b.invariant, o.count-is, ap length (row_zero w c.loop-b.b e (omega arith) (sym c.word.ensures ∙ o.if-word-ne0.false)))
    ]

pub returns : goal.returns
returns g c =
    let a = c.args in
    let w = g.E.Form.words_in a.s.now.lent.now in
    let e : a.a + a.n - a.a ≡ a.n = omega arith in
    let all : c.loop-b.count ≡ length (row_left w a.a (a.a + a.n)) =
    omega (arith, c.loop-b.invariant, ap length (row-none w c.loop-b.b (a.a + a.n) (omega arith))) in
    all ∙ ap (λ (n : ℕ). length (wrong w (in_row a.a (replicate n 0)))) e
