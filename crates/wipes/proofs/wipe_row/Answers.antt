-- `wipes::wipe_row`: at word b the words before it are wiped.
use Prim.Native.Nat.{◌+◌, ◌-◌}
use mathlib.Core.Path.{◌≡◌, sym, ◌∙◌}
use mathlib.Core.List.{[], ◌∷◌}
use native.Mathlib.Omega.{arith}
use Rattle.stores.specs.Stores.{write, run}
use Rattle.mending.proofs.Making.{made-none, made-length, made-all, made-next, made-full}
use Rattle.mending.proofs.Wiping.{row_zero, row_one, row-none}
use Rattle.wipes.proofs.wipe_row.Goals.{then-word-ne0+else-made-allowance, else-word-ne0}
use Rattle.wipes.proofs.wipe_row.Goals as goal

pub loop-b-init : goal.loop-b-init
loop-b-init g c =
    let e : c.args.a + c.args.n - c.args.a ≡ c.args.n = omega arith in rw e (made-none g.met.E.Form.laws)

pub word-requires : goal.word-requires
word-requires g c = omega (arith, c.requires, made-length g.met.E.Form.laws c.loop-b.invariant)

pub returns-then-made-allowance : goal.returns-then-made-allowance
returns-then-made-allowance g c =
    let f = g.E.Form in
    let w = f.words_in c.loop-b.lent in
    let e = row_one w c.loop-b.b (c.args.a + c.args.n) (omega arith) (λ z. c.if-word-ne0.true (c.word.ensures ∙ z)) in
    let r = made-full g.met.E.Form.laws (write c.loop-b.b 0) _ (rw e at c.loop-b.invariant) c.if-made-allowance.true in
    record { outcome = r.0; lent = r.1 }

pub loop-b-preserved : goal.loop-b-preserved
unfolding run
loop-b-preserved g c =
    let f = g.E.Form in
    let w = f.words_in c.loop-b.lent in
    let b = c.loop-b.b in
    let e = c.args.a + c.args.n in
    elim c.if-word-ne0.branch [
      | then-word-ne0+else-made-allowance o ↦
          let q = row_one w b e (omega arith) (λ z. o.if-word-ne0.true (c.word.ensures ∙ z)) in
          let r = made-next g.met.E.Form.laws (write b 0) _ (rw q at c.loop-b.invariant) (omega (arith, c.loop-b.invariant.allowed, o.if-made-allowance.false)) in
          rw (o.lent-is, o.made-is, o.put.ensures, g.met.E.Form.laws.words (write b 0 ∷ []) c.loop-b.lent) r
      | else-word-ne0 o ↦
          rw (o.lent-is, o.made-is) (rw (row_zero w b e (omega arith) (sym c.word.ensures ∙ o.if-word-ne0.false)) at c.loop-b.invariant)
    ]

pub returns : goal.returns
returns g c =
    let n = row-none (g.E.Form.words_in c.loop-b.lent) c.loop-b.b (c.args.a + c.args.n) (omega arith) in
    let r = made-all g.met.E.Form.laws (rw n at c.loop-b.invariant) in
    record { outcome = r.0; lent = r.1 }
