-- The record and the links are two parts of one run.
use Rattle.std.proofs.Common.{◌≡◌, ◌-◌, length, take, arith, ap, ◌∙◌, sym}
use mathlib.Core.Path.{subst}
use Rattle.encoding.proofs.Runs.{length-after}
use Rattle.stores.specs.Stores.{in_row, outcome_of, Inside}
use Rattle.layout.specs.Words.{record_at, size_of}
use Rattle.edits.specs.Edits.{insert_links, insert_writes}
use Rattle.edits.proofs.Inside.{record-fits}
use Rattle.editing.proofs.Parts.{first-stopped, both-made, second-stopped, second-done}
use Rattle.editing.proofs.insert_at.Goals as goal

pub overflow_add-first : goal.overflow_add-first
overflow_add-first g c = omega (arith, record-fits c.requires.placed, c.node-first.ensures)

pub put_row-requires-clause-inside : goal.put_row-requires-clause-inside
put_row-requires-clause-inside g c = omega (arith, c.requires.given, c.requires.exact, record-fits c.requires.placed, c.node-first.ensures)

pub returns-in_default : goal.returns-in_default
unfolding insert_writes
returns-in_default g c =
    let a = c.args in
    let both =
    first-stopped g.met.E.Form.laws (in_row (record_at a.l a.t.cell) (g.E.Form.words_in a.rec.now)) (insert_links a.l a.list a.t) a.allowance
    (rw c.node-first.ensures at c.put_row.ensures.outcome) (rw c.node-first.ensures at c.put_row.ensures.lent) c.in_default.not-Done in
    record { outcome = both.0; lent = both.1 }

pub run-requires-clause-inside : goal.run-requires-clause-inside
run-requires-clause-inside g c =
    let f = g.E.Form in
    let e : length (f.words_in c.put_row.new.lent) ≡ size_of c.args.l =
    ap (λ x. length (f.words_in x)) c.put_row.ensures.lent ∙ length-after g.met.E.Form.laws _ c.args.lent.now ∙ c.requires.exact in
    subst (λ n. Inside n c.insert_links-links.result) (sym e) c.insert_links-links.ensures.inside

pub returns-in_default-run : goal.returns-in_default-run
unfolding insert_writes
returns-in_default-run g c =
    let a = c.args in
    let ps = in_row (record_at a.l a.t.cell) (g.E.Form.words_in a.rec.now) in
    let qs = insert_links a.l a.list a.t in
    let laws = g.met.E.Form.laws in
    let e : c.put_row.result ≡ outcome_of ps a.allowance = rw c.node-first.ensures at c.put_row.ensures.outcome in
    let f : c.put_row.new.lent ≡ g.E.Form.after (take a.allowance ps) a.lent.now = rw c.node-first.ensures at c.put_row.ensures.lent in
    let r : c.run.result ≡ outcome_of qs (a.allowance - c.in-Done.n) = rw c.insert_links-links.ensures.links at c.run.ensures.outcome in
    let s : c.run.new.lent ≡ g.E.Form.after (take (a.allowance - c.in-Done.n) qs) c.put_row.new.lent =
    rw c.insert_links-links.ensures.links at c.run.ensures.lent in record {
      outcome = second-stopped laws ps qs a.allowance e f c.in-Done.is r s c.in_default-run.not-Done;
      lent = both-made laws ps qs a.allowance e f c.in-Done.is r s;
    }

pub returns : goal.returns
unfolding insert_writes
returns g c =
    let a = c.args in
    let ps = in_row (record_at a.l a.t.cell) (g.E.Form.words_in a.rec.now) in
    let qs = insert_links a.l a.list a.t in
    let laws = g.met.E.Form.laws in
    let e : c.put_row.result ≡ outcome_of ps a.allowance = rw c.node-first.ensures at c.put_row.ensures.outcome in
    let f : c.put_row.new.lent ≡ g.E.Form.after (take a.allowance ps) a.lent.now = rw c.node-first.ensures at c.put_row.ensures.lent in
    let r : c.run.result ≡ outcome_of qs (a.allowance - c.in-Done.n) = rw c.insert_links-links.ensures.links at c.run.ensures.outcome in
    let s : c.run.new.lent ≡ g.E.Form.after (take (a.allowance - c.in-Done.n) qs) c.put_row.new.lent =
    rw c.insert_links-links.ensures.links at c.run.ensures.lent in record {
      outcome = second-done laws ps qs a.allowance e f c.in-Done.is r s c.in-Done-run.is;
      lent = both-made laws ps qs a.allowance e f c.in-Done.is r s;
    }
