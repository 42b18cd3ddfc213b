-- With the rest of the budget the walk from here comes to what the whole walk comes to.
use Rattle.std.proofs.Common.{◌≡◌, ◌+◌, ◌-◌, arith, ap, ◌∙◌, sym}
use mathlib.Core.Path.{subst⁻¹}
use Rattle.layout.specs.declared.Cell.{Cell}
use Rattle.lists.specs.Decide.{View, view_of}
use Rattle.spans.specs.Spans.{cell_in}
use Rattle.seeks.specs.Seeks.{stepped, run_with, Inside}
use Rattle.seeks.proofs.Walk.{run-arrived, run-spent, run_step, inside-here, inside-step}
use Rattle.seeks.proofs.run.Goals as goal

pub returns-then-t-eq0 : goal.returns-then-t-eq0
returns-then-t-eq0 g c =
    let v : View = view_of c.args.s.now.layout (g.E.Form.words_in c.args.s.now.lent.now) in
    sym (run-arrived v c.args.t c.args.budget c.if-t-eq0.true)

pub returns-then-budget-eq0 : goal.returns-then-budget-eq0
returns-then-budget-eq0 g c =
    let v : View = view_of c.args.s.now.layout (g.E.Form.words_in c.args.s.now.lent.now) in
    sym (run-spent v c.args.t c.args.budget (omega (arith, c.if-t-eq0.false)) c.if-budget-eq0.true)

-- the walk behind the header, with a step less, comes to what the whole one comes to
pub loop-init : goal.loop-init
loop-init g c =
    let l = c.args.s.now.layout in
    let v : View = view_of l (g.E.Form.words_in c.args.s.now.lent.now) in
    let t = c.args.t in (
      subst⁻¹ (Inside l v) c.step-t.ensures c.requires.nodes,
      omega arith,
      omega (arith, c.if-budget-eq0.false),
      ap (run_with v (c.args.budget - 1)) (c.step-t.ensures ∙ ap (λ (x : Cell). stepped x t) c.requires.header)
          ∙ sym (run_step v t c.args.budget (omega (arith, c.if-t-eq0.false)) (omega (arith, c.if-budget-eq0.false))),
    )

pub returns-then-t-eq0-2 : goal.returns-then-t-eq0-2
returns-then-t-eq0-2 g c =
    let v : View = view_of c.args.s.now.layout (g.E.Form.words_in c.args.s.now.lent.now) in
    sym (run-arrived v c.loop.t (c.args.budget - c.loop.counter) c.if-t-eq0-2.true) ∙ c.loop.invariant.3

pub node-requires : goal.node-requires
node-requires g c =
    let l = c.args.s.now.layout in
    let v : View = view_of l (g.E.Form.words_in c.args.s.now.lent.now) in
    inside-here v c.loop.t l c.loop.invariant.0 (omega (arith, c.if-t-eq0-2.false))

pub loop-preserved : goal.loop-preserved
loop-preserved g c =
    let l = c.args.s.now.layout in
    let v : View = view_of l (g.E.Form.words_in c.args.s.now.lent.now) in
    let t = c.loop.t in
    let i = c.loop.invariant in
    let n = c.loop.counter in
    let b = c.args.budget in
    let next : c.step-t-in-loop.result ≡ stepped (cell_in v t.at) t = c.step-t-in-loop.ensures ∙ ap (λ (x : Cell). stepped x t) c.node.ensures in
    let less : b - (n + 1) ≡ b - n - 1 = omega arith in (
      subst⁻¹ (Inside l v) next (inside-step v t l i.0),
      omega arith,
      omega (arith, i.2, c.loop-test.true),
      ap (run_with v (b - (n + 1))) next
          ∙ ap (λ x. run_with v x (stepped (cell_in v t.at) t)) less
          ∙ sym (run_step v t (b - n) (omega (arith, c.if-t-eq0-2.false)) (omega (arith, c.loop-test.true)))
          ∙ i.3,
    )

pub returns-then-t-eq0-3 : goal.returns-then-t-eq0-3
returns-then-t-eq0-3 g c =
    let v : View = view_of c.args.s.now.layout (g.E.Form.words_in c.args.s.now.lent.now) in
    sym (run-arrived v c.loop.t (c.args.budget - c.loop.counter) c.if-t-eq0-3.true) ∙ c.loop.invariant.3

pub returns-else-t-eq0-3 : goal.returns-else-t-eq0-3
returns-else-t-eq0-3 g c =
    let v : View = view_of c.args.s.now.layout (g.E.Form.words_in c.args.s.now.lent.now) in
    sym (run-spent v c.loop.t (c.args.budget - c.loop.counter) (omega (arith, c.if-t-eq0-3.false)) (omega (arith, c.loop-test.false)))
    ∙ c.loop.invariant.3
