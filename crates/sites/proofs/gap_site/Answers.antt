-- The cell in front of the position leads to the one behind it.
use Rattle.std.proofs.Common.{arith, ap, ◌∙◌}
use Rattle.layout.specs.declared.Cell.{Cell}
use Rattle.requests.specs.declared.Site.{Site}
use Rattle.requests.proofs.Sites.{gap-cell, gap-link, gap-found}
use Rattle.sites.proofs.gap_site.Goals as goal

pub overflow_cast-result : goal.overflow_cast-result
overflow_cast-result g c =
    omega (arith, c.args.s.now.laid.in_range, gap-cell c.requires.held c.args.p c.requires.position c.arrive-before.ensures.cell)

pub cell-requires : goal.cell-requires
cell-requires g c = gap-cell c.requires.held c.args.p c.requires.position c.arrive-before.ensures.cell

pub overflow_cast-result-2 : goal.overflow_cast-result-2
overflow_cast-result-2 g c =
    omega (
      arith,
      c.args.s.now.laid.in_range,
      ap (λ (x : Cell). x.forward) c.cell.ensures,
      gap-link c.requires.held c.args.p c.requires.position c.arrive-before.ensures.cell,
    )

pub returns : goal.returns
returns g c =
    let site : Cell → Site =
    λ (x : Cell). record { before = c.arrive-before.result; cell = c.args.cell; after = x.forward; count = c.args.n } in
    ap site c.cell.ensures ∙ gap-found c.requires.held c.args.p c.requires.position c.arrive-before.ensures.cell c.args.cell
