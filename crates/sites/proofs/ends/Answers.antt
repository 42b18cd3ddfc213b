-- Questions 7 to 9, the first free cell, and the last of so many, searched from the first on: that search meets the same free cells.
use Rattle.std.proofs.Common.{◌≡◌, ℕ, ◌-◌, ◌/◌, List, ap, ◌∙◌, sym}
use Rattle.std.specs.Prelude.{Some}
use Rattle.std.specs.Result.{result_ok}
use Rattle.layout.specs.Words.{Node}
use Rattle.lists.specs.Decide.{view_of}
use Rattle.requests.specs.Requests.{around, free_cells, nth}
use Rattle.requests.proofs.Laws.{gaps_asked}
use Rattle.requests.proofs.Search.{free-node, free-again}
use Rattle.requests.proofs.Sites.{ends-shut, ends-none, ends-short, ends-cells}
use Rattle.sites.proofs.Exits.{handed, not_found}
use Rattle.sites.proofs.ends.Goals as goal

pub returns-in_err-gaps_asked-clause-cells : goal.returns-in_err-gaps_asked-clause-cells
returns-in_err-gaps_asked-clause-cells g c =
    let a = c.args in
    let l = a.s.now.layout in
    let ident : ℕ → ℕ = (view_of l (g.E.Form.words_in a.s.now.lent.now)).ident in
    handed c.from_residual.ensures.1 ∙ ends-shut l ident a.n a.p a.start a.size c.gaps_asked.ensures c.in_err-gaps_asked.was

pub free_cell-requires : goal.free_cell-requires
free_cell-requires g c =
    let a = c.args in (gaps_asked a.s.now.layout a.n a.p a.start a.size c.gaps_asked.ensures c.in_ok-gaps_asked.was).1

pub returns-in_err-first-clause-cells : goal.returns-in_err-first-clause-cells
returns-in_err-first-clause-cells g c =
    let a = c.args in
    let l = a.s.now.layout in
    let ident : ℕ → ℕ = (view_of l (g.E.Form.words_in a.s.now.lent.now)).ident in
    let n = not_found c.from_residual-in_err-first.ensures.1 c.ok_or.ensures.value c.ok_or.ensures.ok_part c.in_err-first.was in
    n.1 ∙ ends-none l ident a.n a.p a.start a.size c.gaps_asked.ensures c.in_ok-gaps_asked.was (sym c.free_cell.ensures.found ∙ n.0)

pub free_cell-requires-2 : goal.free_cell-requires-2
free_cell-requires-2 g c =
    let a = c.args in
    let l = a.s.now.layout in
    let ident : ℕ → ℕ = (view_of l (g.E.Form.words_in a.s.now.lent.now)).ident in
    free-node l ident a.start 0 _ (gaps_asked l a.n a.p a.start a.size c.gaps_asked.ensures c.in_ok-gaps_asked.was).1
    (sym c.free_cell.ensures.found ∙ c.ok_or.ensures.ok_part ∙ ap result_ok c.in_ok-first.was)

pub returns-in_err-last-clause-cells : goal.returns-in_err-last-clause-cells
returns-in_err-last-clause-cells g c =
    let a = c.args in
    let l = a.s.now.layout in
    let ident : ℕ → ℕ = (view_of l (g.E.Form.words_in a.s.now.lent.now)).ident in
    let start : Node l a.start = (gaps_asked l a.n a.p a.start a.size c.gaps_asked.ensures c.in_ok-gaps_asked.was).1 in
    let first : nth (free_cells ident (around l a.start l.nodes)) 0 ≡ Some c.in_ok-first.first =
    sym c.free_cell.ensures.found ∙ c.ok_or.ensures.ok_part ∙ ap result_ok c.in_ok-first.was in
    let n = not_found c.from_residual-in_err-last.ensures.1 c.ok_or-2.ensures.value c.ok_or-2.ensures.ok_part c.in_err-last.was in
    n.1
    ∙ ends-short l ident a.n a.p a.start a.size c.gaps_asked.ensures c.in_ok-gaps_asked.was
    (ap (λ (cells : List ℕ). nth cells (a.size / l.width - 1)) (sym (free-again l ident a.start _ start a.s.now.laid.in_range.some_nodes first))
    ∙ sym (rw c.from.ensures at c.free_cell-2.ensures.found)
    ∙ n.0)

pub returns-clause-cells : goal.returns-clause-cells
returns-clause-cells g c =
    let a = c.args in
    let l = a.s.now.layout in
    let ident : ℕ → ℕ = (view_of l (g.E.Form.words_in a.s.now.lent.now)).ident in
    let start : Node l a.start = (gaps_asked l a.n a.p a.start a.size c.gaps_asked.ensures c.in_ok-gaps_asked.was).1 in
    let first : nth (free_cells ident (around l a.start l.nodes)) 0 ≡ Some c.in_ok-first.first =
    sym c.free_cell.ensures.found ∙ c.ok_or.ensures.ok_part ∙ ap result_ok c.in_ok-first.was in
    ends-cells l ident a.n a.p a.start a.size c.gaps_asked.ensures c.in_ok-gaps_asked.was first
    (ap (λ (cells : List ℕ). nth cells (a.size / l.width - 1)) (sym (free-again l ident a.start _ start a.s.now.laid.in_range.some_nodes first))
    ∙ sym (rw c.from.ensures at c.free_cell-2.ensures.found)
    ∙ c.ok_or-2.ensures.ok_part
    ∙ ap result_ok c.in_ok-last.was)
