-- `spans::Span::is_closed` meets its contract.
use Rattle.spans.proofs.Decided.{refused, tested}
use Rattle.spans.proofs.Span.is_closed.Goals as goal

pub returns-then-self : goal.returns-then-self
returns-then-self c = refused (λ p. c.if-self.true p.0)

pub returns : goal.returns
returns c = tested (λ e. (c.if-self.false, e)) (λ p. p.1)
