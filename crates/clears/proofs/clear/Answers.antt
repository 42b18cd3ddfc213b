-- `clears::clear`: at cell i the clears of the cells before it are made.
use mathlib.Core.Path.{sym, ◌∙◌}
use native.Mathlib.Omega.{arith}
use Rattle.stores.specs.Stores.{write}
use Rattle.layout.specs.Words.{ident_at}
use Rattle.mending.proofs.Clearing.{clears-first, clears-one, clears-skip, clears-none}
use Rattle.mending.proofs.Making.{made-none, made-length, made-all, made-next, made-full}
use Rattle.clears.proofs.clear.Goals.{then-in_use+else-n-allowance, else-in_use}
use Rattle.clears.proofs.clear.Goals as goal

pub loop-i-init : goal.loop-i-init
loop-i-init g c = rw (c.first_node-i.ensures, clears-first) (made-none g.met.E.Form.laws)

pub returns-then-n-allowance : goal.returns-then-n-allowance
returns-then-n-allowance g c =
    let i = c.loop-i.i in
    let e = clears-one c.args.l c.args.idents.now i (omega arith) (sym (rw c.from.ensures at c.in_use.ensures) ∙ c.if-in_use.true) in
    let r = made-full g.met.E.Form.laws (write (ident_at c.args.l i) 0) _ (rw e at c.loop-i.invariant) c.if-n-allowance.true in
    record { outcome = r.0; lent = r.1 }

pub step-requires : goal.step-requires
step-requires g c = (
  record { in_range = c.requires.in_range; exact = made-length g.met.E.Form.laws c.loop-i.invariant ∙ c.requires.exact },
  record { low = omega arith; high = omega arith },
)

pub loop-i-preserved : goal.loop-i-preserved
loop-i-preserved g c =
    let i = c.loop-i.i in
    elim c.if-in_use.branch [
      | then-in_use+else-n-allowance o ↦
          let e = clears-one c.args.l c.args.idents.now i (omega arith) (sym (rw c.from.ensures at c.in_use.ensures) ∙ o.if-in_use.true) in
          rw (o.lent-is, o.n-is, o.step.ensures)
          (made-next g.met.E.Form.laws (write (ident_at c.args.l i) 0) _ (rw e at c.loop-i.invariant) (omega (arith, c.loop-i.invariant.allowed, o.if-n-allowance.false)))
      | else-in_use o ↦
          rw (o.lent-is, o.n-is) (rw (clears-skip c.args.l c.args.idents.now i (omega arith) (sym (rw c.from.ensures at c.in_use.ensures) ∙ o.if-in_use.false)) at c.loop-i.invariant)
    ]

pub returns : goal.returns
returns g c =
    let r = made-all g.met.E.Form.laws (rw (clears-none c.args.l c.args.idents.now c.loop-i.i (omega arith)) at c.loop-i.invariant) in
    record { outcome = r.0; lent = r.1 }
