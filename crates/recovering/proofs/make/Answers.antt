-- `recovering::make`: the mends and the clears are two segments of one run.
use Rattle.std.proofs.Common.{◌-◌, take, sym, ◌∙◌}
use Rattle.stores.proofs.Outcomes.{done-whole}
use Rattle.encoding.proofs.Runs.{after-append}
use Rattle.mending.specs.Mending.{clears}
use Rattle.recovering.proofs.Kept.{laid_after}
use Rattle.recovering.proofs.make.Goals as goal

pub clear-requires : goal.clear-requires
clear-requires g c = laid_after g.met.E.Form.laws _ c.requires.laid c.run.ensures.lent

pub returns-in_default-clear-clause-lent : goal.returns-in_default-clear-clause-lent
returns-in_default-clear-clause-lent g c =
    let a = c.args in
    let cs = clears a.l a.idents.now in
    let d = done-whole a.mends.now a.allowance c.in-Done.n (sym c.in-Done.ensures.outcome) in
    c.clear.ensures.lent
    ∙ (λ i. g.E.Form.after (take (a.allowance - d.1 i) cs) (c.run.ensures.lent i))
    ∙ sym (after-append g.met.E.Form.laws a.mends.now cs a.allowance a.lent.now)
