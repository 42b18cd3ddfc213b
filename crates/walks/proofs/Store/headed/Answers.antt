-- `walks::headed`: the identifiers are compared.
use mathlib.Core.Path.{ap, ◌∙◌, sym}
use Rattle.layout.specs.declared.Cell.{Cell}
use Rattle.spans.proofs.Decided.{tested}
use Rattle.walks.proofs.Store.headed.Goals as goal

pub returns : goal.returns
returns g c =
    let e = ap (λ (x : Cell). x.ident) c.header.ensures in
    tested (λ q. sym e ∙ q ∙ c.ident.ensures) (λ q. e ∙ q ∙ sym c.ident.ensures)
