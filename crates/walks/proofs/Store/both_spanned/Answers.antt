-- `walks::both_spanned`: each span is spanned exactly if what the rounds have left of it is.
use Rattle.spans.proofs.Decided.{refused}
use Rattle.spans.proofs.Ends.{reduced-broken, reduced-next}
use Rattle.walks.proofs.Store.both_spanned.Goals as goal

pub returns-in_default : goal.returns-in_default
returns-in_default g c = refused (λ b. reduced-broken c.loop-s.invariant.0 c.loop-s-test.true c.in_default.ensures b.0)

pub returns-in_default-round : goal.returns-in_default-round
returns-in_default-round g c = refused (λ b. reduced-broken c.loop-s.invariant.1 c.if-t-gt1.true c.in_default-round.ensures b.1)

pub loop-s-preserved : goal.loop-s-preserved
loop-s-preserved g c = (
  reduced-next c.loop-s.invariant.0 c.loop-s-test.true c.in-Some.ensures,
  reduced-next c.loop-s.invariant.1 c.if-t-gt1.true c.in-Some-round.ensures,
)
