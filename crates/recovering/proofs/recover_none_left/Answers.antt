-- `recovering::recover_none_left`: the mends and the wipes of what they leave are one run.
use Rattle.std.proofs.Common.{length, arith, ap, ◌∙◌}
use Rattle.stores.specs.Stores.{made_in}
use Rattle.stores.proofs.Outcomes.{made-allowed}
use Rattle.mending.specs.Mending.{wipes, made_on}
use Rattle.mending.proofs.Making.{one_run}
use Rattle.recovering.proofs.Kept.{laid_after}
use Rattle.recovering.proofs.recover_none_left.Goals as goal

pub follow-requires : goal.follow-requires
follow-requires g c = (
  c.of.ensures,
  laid_after g.met.E.Form.laws _ c.requires.laid c.run-made.ensures.lent,
  omega (arith, ap made_in c.run-made.ensures.outcome, made-allowed (length c.args.mends.now) c.args.allowance),
)

pub returns-clause-lent : goal.returns-clause-lent
returns-clause-lent g c =
    let f = g.E.Form in
    let a = c.args in
    let e = c.run-made.ensures in
    c.follow.ensures.lent
    ∙ (λ i. f.after (made_on (e.outcome i) (wipes a.l (f.words_in (e.lent i))) a.allowance) (e.lent i))
    ∙ (one_run g.met.E.Form.laws a.mends.now (wipes a.l) a.allowance a.lent.now).1
