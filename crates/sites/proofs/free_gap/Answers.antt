-- No cell is free, or the site has the first that is.
use Rattle.std.proofs.Common.{ℕ, Ok, ap, ◌∙◌, sym}
use Rattle.std.specs.Result.{result_ok}
use Rattle.lists.specs.Decide.{view_of, sequence_of}
use Rattle.requests.specs.Requests.{around}
use Rattle.requests.proofs.Search.{nth-first}
use Rattle.requests.proofs.Sites.{gap-full, gap-free}
use Rattle.sites.proofs.Exits.{not_found}
use Rattle.sites.proofs.free_gap.Goals as goal

pub returns-in_err-cell-clause-site : goal.returns-in_err-cell-clause-site
returns-in_err-cell-clause-site g c =
    let a = c.args in
    let l = a.s.now.layout in
    let w = g.E.Form.words_in a.s.now.lent.now in
    let ident : ℕ → ℕ = (view_of l w).ident in
    let n = not_found c.from_residual.ensures.1 c.ok_or.ensures.value c.ok_or.ensures.ok_part c.in_err-cell.was in
    n.1
    ∙ gap-full l ident a.k a.p a.start (sequence_of l w a.k)
    (sym n.0 ∙ c.free_cell.ensures.found ∙ nth-first ident (around l a.start l.nodes))

pub returns-clause-site : goal.returns-clause-site
returns-clause-site g c =
    let a = c.args in
    let l = a.s.now.layout in
    let w = g.E.Form.words_in a.s.now.lent.now in
    let ident : ℕ → ℕ = (view_of l w).ident in
    ap Ok c.gap_site.ensures
    ∙ gap-free l ident a.k a.p a.start (sequence_of l w a.k)
    (sym (c.ok_or.ensures.ok_part ∙ ap result_ok c.in_ok-cell.was) ∙ c.free_cell.ensures.found ∙ nth-first ident (around l a.start l.nodes))
