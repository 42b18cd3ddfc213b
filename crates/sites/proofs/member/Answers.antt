-- The member's own links say what stands before and after it.
use Rattle.std.proofs.Common.{arith, ap, ◌∙◌}
use Rattle.std.specs.Prelude.{Result, Ok}
use Rattle.layout.specs.declared.Refusal.{Refusal}
use Rattle.layout.specs.declared.Cell.{Cell}
use Rattle.requests.specs.declared.Site.{Site}
use Rattle.requests.proofs.Sites.{member-past, member-node, member-links, member-found}
use Rattle.sites.proofs.member.Goals as goal

pub returns-then-n-p : goal.returns-then-n-p
returns-then-n-p g c = member-past c.requires c.args.p c.if-n-p.true

pub node-m-requires : goal.node-m-requires
node-m-requires g c = member-node c.requires c.args.p (omega arith) c.arrive-c.ensures.cell

pub overflow_cast-result : goal.overflow_cast-result
overflow_cast-result g c =
    omega (
      arith,
      c.args.s.now.laid.in_range,
      ap (λ (m : Cell). m.back) c.node-m.ensures,
      member-links c.requires c.args.p (omega arith) c.arrive-c.ensures.cell,
    )

pub overflow_cast-result-2 : goal.overflow_cast-result-2
overflow_cast-result-2 g c =
    omega (arith, c.args.s.now.laid.in_range, member-node c.requires c.args.p (omega arith) c.arrive-c.ensures.cell)

pub overflow_cast-result-3 : goal.overflow_cast-result-3
overflow_cast-result-3 g c =
    omega (
      arith,
      c.args.s.now.laid.in_range,
      ap (λ (m : Cell). m.forward) c.node-m.ensures,
      member-links c.requires c.args.p (omega arith) c.arrive-c.ensures.cell,
    )

pub returns : goal.returns
returns g c =
    let site : Cell → Result Site Refusal =
    λ (m : Cell). Ok (record { before = m.back; cell = c.arrive-c.result; after = m.forward; count = c.args.n }) in
    ap site c.node-m.ensures ∙ member-found c.requires c.args.p (omega arith) c.arrive-c.ensures.cell
