-- `recovering::recover_left`: what is left of the identifiers tells the clears of recovery's plan, and what mends and clears leave tells the
-- wipes.
use Rattle.std.proofs.Common.{Ok, ◌++◌, length, arith, ap, ◌∙◌}
use Rattle.std.proofs.Math.Path.{subst₂}
use Rattle.calls.specs.Answers.{answer_of}
use Rattle.stores.specs.Stores.{Plan, made_in, left_by}
use Rattle.stores.proofs.Outcomes.{made-allowed}
use Rattle.mending.specs.Mending.{clears, wipes, outcome_on, made_on}
use Rattle.mending.proofs.Making.{one_run}
use Rattle.recovering.proofs.Kept.{laid_after, mended-inside, Left, left-planned}
use Rattle.recovering.proofs.recover_left.Goals as goal

pub make-made-requires-clause-inside : goal.make-made-requires-clause-inside
make-made-requires-clause-inside g c = mended-inside c.requires.0.in_range c.requires.1 c.as_slice.ensures.value

pub follow-requires : goal.follow-requires
follow-requires g c =
    let both = c.as_slice.result.now ++ clears c.args.l c.erase_all.new.idents in (
      c.of.ensures,
      laid_after g.met.E.Form.laws _ c.requires.0 c.make-made.ensures.lent,
      omega (arith, ap made_in c.make-made.ensures.outcome, made-allowed (length both) c.args.allowance),
    )

pub returns-clause-outcome : goal.returns-clause-outcome
returns-clause-outcome g c =
    let f = g.E.Form in
    let a = c.args in
    let e = c.make-made.ensures in
    let left : Left a.mends.now c.erase_all.new.idents a.l (f.words_in a.lent.now) =
    subst₂ (Left a.mends.now c.erase_all.new.idents) c.of-s.ensures.1 (ap (λ b. f.words_in b.now) c.of-s.ensures.0)
    (c.read_nodes.new.idents, c.read_nodes.ensures.room, c.read_nodes.ensures.nodes, c.erase_all.ensures) in
    ap Ok
    (c.follow.ensures.outcome
    ∙ (λ i. outcome_on (e.outcome i) (wipes a.l (f.words_in (e.lent i))) a.allowance)
    ∙ (one_run g.met.E.Form.laws (c.as_slice.result.now ++ clears a.l c.erase_all.new.idents) (wipes a.l) a.allowance a.lent.now).0)
    ∙ ap (λ (p : Plan). answer_of p a.allowance) (left-planned c.requires.0 c.requires.1 left c.as_slice.ensures.value)

pub returns-clause-lent : goal.returns-clause-lent
returns-clause-lent g c =
    let f = g.E.Form in
    let a = c.args in
    let e = c.make-made.ensures in
    let left : Left a.mends.now c.erase_all.new.idents a.l (f.words_in a.lent.now) =
    subst₂ (Left a.mends.now c.erase_all.new.idents) c.of-s.ensures.1 (ap (λ b. f.words_in b.now) c.of-s.ensures.0)
    (c.read_nodes.new.idents, c.read_nodes.ensures.room, c.read_nodes.ensures.nodes, c.erase_all.ensures) in
    c.follow.ensures.lent
    ∙ (λ i. f.after (made_on (e.outcome i) (wipes a.l (f.words_in (e.lent i))) a.allowance) (e.lent i))
    ∙ (one_run g.met.E.Form.laws (c.as_slice.result.now ++ clears a.l c.erase_all.new.idents) (wipes a.l) a.allowance a.lent.now).1
    ∙ ap (λ (p : Plan). left_by f.after p a.allowance a.lent.now) (left-planned c.requires.0 c.requires.1 left c.as_slice.ensures.value)
