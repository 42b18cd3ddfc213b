-- Refused as the cells are, or the gap with the first of them.
use Rattle.std.proofs.Common.{ℕ, Ok, Err, ap, ◌∙◌, sym}
use Rattle.std.specs.Prelude.{Result}
use Rattle.layout.specs.declared.Refusal.{Refusal}
use Rattle.lists.specs.Decide.{view_of, sequence_of}
use Rattle.lists.proofs.Ring.{held-count}
use Rattle.requests.specs.declared.Ends.{Ends}
use Rattle.requests.specs.Requests.{ends_at, with_ends}
use Rattle.requests.specs.Sites.{gap_site}
use Rattle.requests.proofs.Sites.{ends-facts, gaps-ends}
use Rattle.sites.proofs.Exits.{handed}
use Rattle.sites.proofs.gaps.Goals as goal

pub returns-in_err-cells-clause-site : goal.returns-in_err-cells-clause-site
returns-in_err-cells-clause-site g c =
    let a = c.args in
    let l = a.s.now.layout in
    let w = g.E.Form.words_in a.s.now.lent.now in
    let ident : ℕ → ℕ = (view_of l w).ident in
    let told : Result Ends Refusal → _ = λ (x : Result Ends Refusal). with_ends x Err (λ i j. Ok (gap_site a.k a.p i (sequence_of l w a.k))) in
    handed c.from_residual.ensures.1
    ∙ ap told (sym c.in_err-cells.was ∙ c.ends.ensures.cells ∙ ap (λ (n : ℕ). ends_at l ident n a.p a.start a.size) (held-count c.requires))
    ∙ sym (gaps-ends l ident a.k a.p a.start a.size (sequence_of l w a.k))

pub gap_site-requires-clause-position : goal.gap_site-requires-clause-position
gap_site-requires-clause-position g c =
    let a = c.args in
    let l = a.s.now.layout in
    let w = g.E.Form.words_in a.s.now.lent.now in
    (ends-facts l (view_of l w).ident a.n a.p a.start a.size (sym c.ends.ensures.cells ∙ c.in_ok-cells.was)).0

pub returns-clause-site : goal.returns-clause-site
returns-clause-site g c =
    let a = c.args in
    let l = a.s.now.layout in
    let w = g.E.Form.words_in a.s.now.lent.now in
    let ident : ℕ → ℕ = (view_of l w).ident in
    let told : Result Ends Refusal → _ = λ (x : Result Ends Refusal). with_ends x Err (λ i j. Ok (gap_site a.k a.p i (sequence_of l w a.k))) in
    ap Ok c.gap_site.ensures
    ∙ ap told (sym c.in_ok-cells.was ∙ c.ends.ensures.cells ∙ ap (λ (n : ℕ). ends_at l ident n a.p a.start a.size) (held-count c.requires))
    ∙ sym (gaps-ends l ident a.k a.p a.start a.size (sequence_of l w a.k))
