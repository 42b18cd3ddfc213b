-- `walks::spanned`: the span is spanned exactly if what the rounds have left of it is.
use Rattle.spans.proofs.Decided.{refused}
use Rattle.spans.proofs.Ends.{reduced-broken, reduced-next}
use Rattle.walks.proofs.Store.spanned.Goals as goal

pub returns-in_default : goal.returns-in_default
returns-in_default g c = refused (reduced-broken c.loop-s.invariant c.loop-s-test.true c.in_default.ensures)

pub loop-s-preserved : goal.loop-s-preserved
loop-s-preserved g c = reduced-next c.loop-s.invariant c.loop-s-test.true c.in-Some.ensures
