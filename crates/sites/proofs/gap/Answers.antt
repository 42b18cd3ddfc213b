-- Questions 7 to 9, and then question 10.
use Rattle.std.proofs.Common.{◌∙◌}
use Rattle.lists.specs.Decide.{view_of, sequence_of}
use Rattle.lists.proofs.Ring.{held-count}
use Rattle.requests.proofs.Laws.{gap-asked}
use Rattle.requests.proofs.Sites.{gap-shut, gap-open}
use Rattle.sites.proofs.Exits.{handed}
use Rattle.sites.proofs.gap.Goals as goal

pub returns-in_err-gap_asked-clause-site : goal.returns-in_err-gap_asked-clause-site
returns-in_err-gap_asked-clause-site g c =
    let a = c.args in
    let l = a.s.now.layout in
    let w = g.E.Form.words_in a.s.now.lent.now in
    handed c.from_residual.ensures.1
    ∙ gap-shut l (view_of l w).ident a.k a.p a.start (sequence_of l w a.k) (held-count c.requires) a.size c.gap_asked.ensures c.in_err-gap_asked.was

pub free_gap-requires-clause-start : goal.free_gap-requires-clause-start
free_gap-requires-clause-start g c =
    let a = c.args in (gap-asked a.s.now.layout a.n a.p a.start a.size c.gap_asked.ensures c.in_ok-gap_asked.was).1

pub free_gap-requires-clause-position : goal.free_gap-requires-clause-position
free_gap-requires-clause-position g c =
    let a = c.args in (gap-asked a.s.now.layout a.n a.p a.start a.size c.gap_asked.ensures c.in_ok-gap_asked.was).0

pub returns-clause-site : goal.returns-clause-site
returns-clause-site g c =
    let a = c.args in
    let l = a.s.now.layout in
    let w = g.E.Form.words_in a.s.now.lent.now in
    c.free_gap.ensures.site
    ∙ gap-open l (view_of l w).ident a.k a.p a.start (sequence_of l w a.k) (held-count c.requires) a.size c.gap_asked.ensures c.in_ok-gap_asked.was
