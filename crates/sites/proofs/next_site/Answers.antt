-- No cell is free, or the site has the first that is.
use Rattle.std.proofs.Common.{ℕ, ap, ◌∙◌, sym}
use Rattle.lists.specs.Decide.{view_of}
use Rattle.requests.specs.Requests.{around, first_free}
use Rattle.requests.proofs.Laws.{next-node}
use Rattle.requests.proofs.Search.{nth-first}
use Rattle.requests.proofs.Sites.{next-full, next-found}
use Rattle.sites.proofs.next_site.Goals as goal

pub free_cell-requires : goal.free_cell-requires
free_cell-requires g c = rw c.next_cell.ensures (next-node c.args.s.now.layout c.args.t.cell c.args.s.now.laid.in_range c.requires.cell)

pub returns-in-None-clause-site : goal.returns-in-None-clause-site
returns-in-None-clause-site g c =
    let l = c.args.s.now.layout in
    let ident : ℕ → ℕ = (view_of l (g.E.Form.words_in c.args.s.now.lent.now)).ident in
    next-full l ident c.args.t
    (sym c.in-None.is
    ∙ c.free_cell.ensures.found
    ∙ nth-first ident (around l c.next_cell.result l.nodes)
    ∙ ap (λ (x : ℕ). first_free ident (around l x l.nodes)) c.next_cell.ensures)

pub returns-in-Some-clause-site : goal.returns-in-Some-clause-site
returns-in-Some-clause-site g c =
    let l = c.args.s.now.layout in
    let ident : ℕ → ℕ = (view_of l (g.E.Form.words_in c.args.s.now.lent.now)).ident in
    next-found l ident c.args.t
    (sym c.in-Some.is
    ∙ c.free_cell.ensures.found
    ∙ nth-first ident (around l c.next_cell.result l.nodes)
    ∙ ap (λ (x : ℕ). first_free ident (around l x l.nodes)) c.next_cell.ensures)
