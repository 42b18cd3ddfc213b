-- The links and the zeros over the record are two parts of one run.
use Rattle.std.proofs.Common.{◌≡◌, ℕ, ◌+◌, ◌-◌, ◌≤◌, List, length, take, replicate, arith, ap, ap₂, ◌∙◌}
use Rattle.std.proofs.lemmas.List.{length-take-le}
use Rattle.encoding.proofs.Runs.{length-after}
use Rattle.stores.specs.Stores.{in_row, outcome_of}
use Rattle.layout.specs.Words.{most_width}
use Rattle.lists.specs.Lists.{blank_asked}
use Rattle.edits.specs.Edits.{delete_links, delete_writes}
use Rattle.edits.proofs.Inside.{record-fits, blank-row}
use Rattle.editing.proofs.Parts.{first-stopped, both-made, second-stopped, second-done}
use Rattle.editing.proofs.delete_at.Goals as goal

pub returns-in_default : goal.returns-in_default
unfolding delete_writes
returns-in_default g c =
    let a = c.args in
    let ps = delete_links a.l a.list a.t in
    let qs = blank_asked a.l a.t.cell in
    let laws = g.met.E.Form.laws in
    let m = a.allowance in
    let e : c.run.result ≡ outcome_of ps m = rw c.delete_links-links.ensures.links at c.run.ensures.outcome in
    let f : c.run.new.lent ≡ g.E.Form.after (take m ps) a.lent.now = rw c.delete_links-links.ensures.links at c.run.ensures.lent in
    let both = first-stopped laws ps qs m e f c.in_default.not-Done in
    record { outcome = both.0; lent = both.1 }

pub overflow_add-row : goal.overflow_add-row
overflow_add-row g c = omega (arith, record-fits c.requires.placed, c.node-row.ensures)

pub put_row-requires-clause-inside : goal.put_row-requires-clause-inside
put_row-requires-clause-inside g c =
    let f = g.E.Form in
    let n = c.node_words-size.result - 3 in
    let e : length (f.words_in c.run.new.lent) ≡ length (f.words_in c.args.lent.now) =
    ap (λ x. length (f.words_in x)) c.run.ensures.lent ∙ length-after g.met.E.Form.laws _ c.args.lent.now in
    let zeros : List ℕ = replicate most_width 0 in
    let few : n ≤ most_width = omega (arith, c.node_words-size.ensures, c.requires.placed.in_range.tail) in
    omega (
      arith,
      e,
      c.requires.exact,
      c.node-row.ensures,
      c.node_words-size.ensures,
      record-fits c.requires.placed,
      length-take-le n zeros few,
    )

pub returns-in_default-put_row : goal.returns-in_default-put_row
unfolding delete_writes
returns-in_default-put_row g c =
    let a = c.args in
    let ps = delete_links a.l a.list a.t in
    let qs = blank_asked a.l a.t.cell in
    let laws = g.met.E.Form.laws in
    let m = a.allowance in
    let e : c.run.result ≡ outcome_of ps m = rw c.delete_links-links.ensures.links at c.run.ensures.outcome in
    let f : c.run.new.lent ≡ g.E.Form.after (take m ps) a.lent.now = rw c.delete_links-links.ensures.links at c.run.ensures.lent in
    let row : in_row (c.node-row.result + 3) (take (c.node_words-size.result - 3) (replicate most_width 0)) ≡ qs =
    ap₂ (λ x n. in_row (x + 3) (take n (replicate most_width 0))) c.node-row.ensures (omega (arith, c.node_words-size.ensures))
    ∙ blank-row c.requires.placed in
    let r : c.put_row.result ≡ outcome_of qs (m - c.in-Done.n) =
    c.put_row.ensures.outcome ∙ ap (λ ps. outcome_of ps (m - c.in-Done.n)) row in
    let s : c.put_row.new.lent ≡ g.E.Form.after (take (m - c.in-Done.n) qs) c.run.new.lent =
    c.put_row.ensures.lent ∙ ap (λ ps. g.E.Form.after (take (m - c.in-Done.n) ps) c.run.new.lent) row in record {
      outcome = second-stopped laws ps qs m e f c.in-Done.is r s c.in_default-put_row.not-Done;
      lent = both-made laws ps qs m e f c.in-Done.is r s;
    }

pub returns : goal.returns
unfolding delete_writes
returns g c =
    let a = c.args in
    let ps = delete_links a.l a.list a.t in
    let qs = blank_asked a.l a.t.cell in
    let laws = g.met.E.Form.laws in
    let m = a.allowance in
    let e : c.run.result ≡ outcome_of ps m = rw c.delete_links-links.ensures.links at c.run.ensures.outcome in
    let f : c.run.new.lent ≡ g.E.Form.after (take m ps) a.lent.now = rw c.delete_links-links.ensures.links at c.run.ensures.lent in
    let row : in_row (c.node-row.result + 3) (take (c.node_words-size.result - 3) (replicate most_width 0)) ≡ qs =
    ap₂ (λ x n. in_row (x + 3) (take n (replicate most_width 0))) c.node-row.ensures (omega (arith, c.node_words-size.ensures))
    ∙ blank-row c.requires.placed in
    let r : c.put_row.result ≡ outcome_of qs (m - c.in-Done.n) =
    c.put_row.ensures.outcome ∙ ap (λ ps. outcome_of ps (m - c.in-Done.n)) row in
    let s : c.put_row.new.lent ≡ g.E.Form.after (take (m - c.in-Done.n) qs) c.run.new.lent =
    c.put_row.ensures.lent ∙ ap (λ ps. g.E.Form.after (take (m - c.in-Done.n) ps) c.run.new.lent) row in record {
      outcome = second-done laws ps qs m e f c.in-Done.is r s c.in-Done-put_row.is;
      lent = both-made laws ps qs m e f c.in-Done.is r s;
    }
