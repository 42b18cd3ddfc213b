-- The records' stores are parts of one run: what is made and what is left is the plan (`Underway`).
use Rattle.std.proofs.Common.{◌≡◌, ◌*◌, ◌-◌, ◌/◌, ◌<◌, [], ◌++◌, length, take, drop, arith, refl, ap, ap₂, ◌∙◌, sym}
use native.Mathlib.Nat.{zero-mul}
use lib.ListN.{length-append}
use Rattle.encoding.proofs.Runs.{length-after, after-all}
use Rattle.stores.specs.Stores.{outcome_of}
use Rattle.stores.proofs.Outcomes.{outcome-stopped, done-whole, undone-short}
use Rattle.requests.proofs.Sites.{some-whole}
use Rattle.edits.specs.Edits.{insert_writes}
use Rattle.edits.proofs.Underway.{underway-start, underway-words, underway-short, underway-last, underway-next}
use Rattle.editing.proofs.Several.{several-stopped, several-next, several-worn, left-next, left-last, left-more}
use Rattle.editing.proofs.insert_all.Goals.{then-i-count, else-i-count}
use Rattle.editing.proofs.insert_all.Goals as goal

pub loop-i-init : goal.loop-i-init
loop-i-init g c =
    let a = c.args in
    let ws = g.E.Form.words_in a.records.now in
    let q = c.requires in
    let n : c.size.result / c.from-width.result ≡ length ws / a.l.width = ap₂ (λ x y. x / y) c.size.ensures c.from-width.ensures in (
      [],
      λ _. rw zero-mul (underway-start a.l a.list (g.E.Form.words_in a.lent.now) a.first ws q.room q.some q.whole),
      λ h. absurd (omega (arith, h, n, some-whole (length ws) a.l.width q.some q.whole)),
      refl,
      omega arith,
      sym (g.met.E.Form.laws.none a.lent.now),
      omega arith,
    )

pub insert_at-requires-clause-given : goal.insert_at-requires-clause-given
insert_at-requires-clause-given g c =
    let ws = g.E.Form.words_in c.args.records.now in
    ap length (c.part-rec.ensures ∙ ap (λ n. take n (drop (c.loop-i.i * n) ws)) c.from-width.ensures)
    ∙ underway-words (c.loop-i.invariant.1 c.loop-i-test.true)

pub returns-in_default : goal.returns-in_default
returns-in_default g c =
    let a = c.args in
    let f = g.E.Form in
    let l = a.l in
    let i = c.loop-i.i in
    let ws = f.words_in a.records.now in
    let inv = c.loop-i.invariant in
    let u = inv.1 c.loop-i-test.true in
    let m = a.allowance - c.loop-i.made in
    let first = insert_writes l a.list c.loop-i.t (take l.width (drop (i * l.width) ws)) in
    let part : f.words_in c.part-rec.result.now ≡ take l.width (drop (i * l.width) ws) =
    c.part-rec.ensures ∙ ap (λ n. take n (drop (i * n) ws)) c.from-width.ensures in
    let o : c.insert_at.result ≡ outcome_of first m =
    c.insert_at.ensures.outcome ∙ ap (λ vs. outcome_of (insert_writes l a.list c.loop-i.t vs) m) part in
    let d : c.insert_at.new.lent ≡ f.after (take m first) c.loop-i.lent =
    c.insert_at.ensures.lent ∙ ap (λ vs. f.after (take m (insert_writes l a.list c.loop-i.t vs)) c.loop-i.lent) part in
    let s = undone-short first m (λ n q. c.in_default.not-Done n (o ∙ q)) in
    let e = d ∙ several-stopped g.met.E.Form.laws u a.allowance inv.3 inv.4 a.lent.now inv.5 s in record {
      outcome = outcome-stopped _ a.allowance (underway-short u a.allowance inv.3 inv.4 s);
      lent = e;
      worn = several-worn g.met.E.Form.laws ws c.requires.room c.requires.whole a.allowance e;
    }

pub of-requires : goal.of-requires
of-requires g c =
    let f = g.E.Form in
    let u = c.loop-i.invariant.1 c.loop-i-test.true in record {
      in_range = u.room.placed.in_range;
      exact = ap (λ x. length (f.words_in x)) c.insert_at.ensures.lent ∙ length-after g.met.E.Form.laws _ c.loop-i.lent ∙ u.room.exact;
    }

pub loop-i-preserved : goal.loop-i-preserved
loop-i-preserved g c =
    let a = c.args in
    let f = g.E.Form in
    let l = a.l in
    let i = c.loop-i.i in
    let ws = f.words_in a.records.now in
    let inv = c.loop-i.invariant in
    let u = inv.1 c.loop-i-test.true in
    let m = a.allowance - c.loop-i.made in
    let first = insert_writes l a.list c.loop-i.t (take l.width (drop (i * l.width) ws)) in
    let part : f.words_in c.part-rec.result.now ≡ take l.width (drop (i * l.width) ws) =
    c.part-rec.ensures ∙ ap (λ n. take n (drop (i * n) ws)) c.from-width.ensures in
    let o : c.insert_at.result ≡ outcome_of first m =
    c.insert_at.ensures.outcome ∙ ap (λ vs. outcome_of (insert_writes l a.list c.loop-i.t vs) m) part in
    let d : c.insert_at.new.lent ≡ f.after (take m first) c.loop-i.lent =
    c.insert_at.ensures.lent ∙ ap (λ vs. f.after (take m (insert_writes l a.list c.loop-i.t vs)) c.loop-i.lent) part in
    let w = done-whole first m c.in-Done.n (sym o ∙ c.in-Done.is) in
    let next = several-next g.met.E.Form.laws u a.allowance inv.3 inv.4 a.lent.now inv.5 w.0 d in
    let n : c.size.result / c.from-width.result ≡ length ws / l.width = ap₂ (λ x y. x / y) c.size.ensures c.from-width.ensures in
    let some : 0 < l.width = u.room.placed.in_range.some_width in (
      inv.0 ++ first,
      λ h.
          elim c.if-i-count.branch [
            | then-i-count w ↦
                underway-next u (left-more (length ws / l.width) i l.width ws some c.requires.whole (omega (arith, h, n))) next.0
                (w.t-is ∙ rw (w.of.ensures.0, w.of.ensures.1) at w.next_site-t.ensures.site) (left-next i l.width ws)
            | else-i-count w ↦ absurd (omega (arith, h, w.if-i-count.false))
          ],
      λ h. underway-last u (left-last (length ws / l.width) i l.width ws c.requires.whole (omega (arith, h, n, c.loop-i-test.true))),
      omega (arith, w, inv.3, length-append inv.0 first),
      omega (arith, w, inv.4),
      next.1,
      omega (arith, c.loop-i-test.true),
    )

pub returns-clause-worn : goal.returns-clause-worn
returns-clause-worn g c =
    let a = c.args in
    let f = g.E.Form in
    let laws = g.met.E.Form.laws in
    let inv = c.loop-i.invariant in
    let all = inv.2 (omega arith) in
    several-worn laws (f.words_in a.records.now) c.requires.room c.requires.whole a.allowance
    (inv.5 ∙ ap (λ ps. f.after ps a.lent.now) (sym all) ∙ sym (after-all laws _ a.allowance a.lent.now (omega (arith, inv.3, inv.4, ap length all))))
