-- `spans::Span::is_single` meets its contract.
use mathlib.Core.Path.{◌∙◌, sym}
use Rattle.spans.proofs.Decided.{refused, tested}
use Rattle.spans.proofs.Span.is_single.Goals as goal

pub returns-then-self : goal.returns-then-self
returns-then-self c = refused (λ p. c.if-self.true p.0)

pub returns-then-m-ident : goal.returns-then-m-ident
returns-then-m-ident c = refused (λ p. c.if-m-ident.true (p.1 ∙ sym c.ident.ensures))

pub returns-then-m-self : goal.returns-then-m-self
returns-then-m-self c = refused (λ p. c.if-m-self.true p.2)

pub returns : goal.returns
returns c =
    let b = c.before.before in
    let e = b.before.before.before in
    let i = e.before.before in
    tested (λ q. (i.if-self.false, e.if-m-ident.false ∙ i.ident.ensures, b.if-m-self.false, q)) (λ p. p.3)
