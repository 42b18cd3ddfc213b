-- After i turns the first i stores are made.
use Rattle.std.proofs.Common.{◌≡◌, ◌<◌, [], ◌∷◌, length, take, get_or, arith, ap, ◌∙◌, sym, subst}
use Rattle.stores.specs.declared.Outcome.TheVariants.{Stopped}
use Rattle.stores.specs.Stores.{write, Inside}
use Rattle.stores.proofs.Outcomes.{outcome-stopped, outcome-done}
use Rattle.encoding.proofs.Runs.{length-after, after-more, after-all}
use Rattle.runs.proofs.run.Goals as goal

pub step-requires-clause-inside : goal.step-requires-clause-inside
step-requires-clause-inside g c =
    let f = g.E.Form in
    let ps = c.args.writes.now in
    let b = c.args.lent.now in
    let same : length (f.words_in b) ≡ length (f.words_in c.loop-i.lent) =
    sym (ap (λ x. length (f.words_in x)) c.loop-i.invariant.2 ∙ length-after g.met.E.Form.laws (take c.loop-i.i ps) b) in
    subst (λ n. Inside n ps) same c.requires.inside

pub loop-i-preserved : goal.loop-i-preserved
loop-i-preserved g c =
    let f = g.E.Form in
    let ps = c.args.writes.now in
    let i = c.loop-i.i in
    let few : i < length ps = omega arith in (
      omega arith,
      omega arith,
      c.step.ensures
          ∙ ap (λ n. f.after (get_or ps n (write 0 0) ∷ []) c.loop-i.lent) c.from.ensures
          ∙ ap (f.after (get_or ps i (write 0 0) ∷ [])) c.loop-i.invariant.2
          ∙ sym (after-more g.met.E.Form.laws ps i c.args.lent.now few),
    )

pub returns-then-i-allowance : goal.returns-then-i-allowance
returns-then-i-allowance g c =
    let f = g.E.Form in
    let ps = c.args.writes.now in record {
      outcome = ap Stopped c.if-i-allowance.true ∙ outcome-stopped ps c.args.allowance (omega arith);
      lent = c.loop-i.invariant.2 ∙ ap (λ n. f.after (take n ps) c.args.lent.now) c.if-i-allowance.true;
    }

pub returns : goal.returns
returns g c =
    let f = g.E.Form in
    let ps = c.args.writes.now in
    let b = c.args.lent.now in record {
      outcome = outcome-done ps c.args.allowance (omega arith);
      lent = c.loop-i.invariant.2
          ∙ after-all g.met.E.Form.laws ps c.loop-i.i b (omega arith)
          ∙ sym (after-all g.met.E.Form.laws ps c.args.allowance b (omega arith));
    }
