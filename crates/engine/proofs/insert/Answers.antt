-- The stores of the plan are made.
use Rattle.std.proofs.Common.{◌≡◌, ℕ, ◌*◌, ◌/◌, ◌≤◌, ◌<◌, List, length, take, Ok, Err, arith, ap, sym, subst, ◌∙◌}
use Rattle.layout.specs.declared.Refusal.TheVariants.{Size}
use Rattle.layout.specs.Words.{layout_of}
use Rattle.layout.proofs.Laws.{opened-open}
use Rattle.stores.specs.Stores.{refuse, stores, left_by}
use Rattle.requests.proofs.First.{asked-yes, first-refused, first-at}
use Rattle.layout.specs.Words.{ask}
use Rattle.requests.specs.declared.Request.TheVariants.{Gap}
use Rattle.requests.specs.Requests.{look_of}
use Rattle.edits.specs.Edits.{insert_writes}
use Rattle.calls.specs.Calls.{insert_plan}
use Rattle.calls.proofs.Worn.{insert-worn}
use Rattle.calls.proofs.Cases.{insert-refused, insert-at}
use Rattle.calls.proofs.Sites.{gap-placed}
use Rattle.sites.proofs.Exits.{handed}
use Rattle.engine.specs.Lent.{planned, record_in}
use Rattle.engine.proofs.Laws.{lent-refused, lent-run, lent-kept, kept-first, record-words}
use Rattle.engine.proofs.insert.Goals as goal

pub returns-in_err-look-clause-answer : goal.returns-in_err-look-clause-answer
returns-in_err-look-clause-answer g c =
    let f = g.E.Form in
    let a = c.args in
    let b = a.lent.now in
    let w = f.words_in b in
    let rec = record_in (f.whole a.rec.now) (f.words_in a.rec.now) in
    let look : c.look.result ≡ ask (f.whole b) (Err Size) (look_of w (Gap a.list a.position a.start (length rec))) =
    c.look.ensures.outcome ∙ ap (λ n. ask (f.whole b) (Err Size) (look_of w (Gap a.list a.position a.start n))) c.record_size.ensures in
    let e = first-refused refuse (f.whole b) (λ m h. insert-refused w a.list a.position a.start rec h) (sym look ∙ c.in_err-look.was) in
    handed c.from_residual.ensures.1 ∙ (lent-refused f.after a.allowance b e).0

pub returns-in_err-look-clause-lent : goal.returns-in_err-look-clause-lent
returns-in_err-look-clause-lent g c =
    let f = g.E.Form in
    let a = c.args in
    let b = a.lent.now in
    let w = f.words_in b in
    let rec = record_in (f.whole a.rec.now) (f.words_in a.rec.now) in
    let look : c.look.result ≡ ask (f.whole b) (Err Size) (look_of w (Gap a.list a.position a.start (length rec))) =
    c.look.ensures.outcome ∙ ap (λ n. ask (f.whole b) (Err Size) (look_of w (Gap a.list a.position a.start n))) c.record_size.ensures in
    let e = first-refused refuse (f.whole b) (λ m h. insert-refused w a.list a.position a.start rec h) (sym look ∙ c.in_err-look.was) in
    (lent-refused f.after a.allowance b e).1

pub insert_at-requires-clause-placed : goal.insert_at-requires-clause-placed
insert_at-requires-clause-placed g c =
    let f = g.E.Form in
    let a = c.args in
    let b = a.lent.now in
    let w = f.words_in b in
    let rec = record_in (f.whole a.rec.now) (f.words_in a.rec.now) in
    let l = c.in_ok-look.look.layout in
    let t = c.in_ok-look.look.site in
    let look : c.look.result ≡ ask (f.whole b) (Err Size) (look_of w (Gap a.list a.position a.start (length rec))) =
    c.look.ensures.outcome ∙ ap (λ n. ask (f.whole b) (Err Size) (look_of w (Gap a.list a.position a.start n))) c.record_size.ensures in
    let x = first-at (f.whole b) (sym look ∙ c.in_ok-look.was) in
    let p = gap-placed w a.list a.position l t a.start (length rec) x.1 in
    p.0

pub insert_at-requires-clause-given : goal.insert_at-requires-clause-given
insert_at-requires-clause-given g c =
    let f = g.E.Form in
    let a = c.args in
    let b = a.lent.now in
    let w = f.words_in b in
    let rec = record_in (f.whole a.rec.now) (f.words_in a.rec.now) in
    let l = c.in_ok-look.look.layout in
    let t = c.in_ok-look.look.site in
    let look : c.look.result ≡ ask (f.whole b) (Err Size) (look_of w (Gap a.list a.position a.start (length rec))) =
    c.look.ensures.outcome ∙ ap (λ n. ask (f.whole b) (Err Size) (look_of w (Gap a.list a.position a.start n))) c.record_size.ensures in
    let x = first-at (f.whole b) (sym look ∙ c.in_ok-look.was) in
    let p = gap-placed w a.list a.position l t a.start (length rec) x.1 in
    let same : rec ≡ f.words_in a.rec.now = record-words (f.whole a.rec.now) (f.words_in a.rec.now) (omega (arith, p.1, p.0.in_range.some_width)) in
    ap length (sym same) ∙ p.1

pub insert_at-requires-clause-exact : goal.insert_at-requires-clause-exact
insert_at-requires-clause-exact g c =
    let f = g.E.Form in
    let a = c.args in
    let b = a.lent.now in
    let w = f.words_in b in
    let rec = record_in (f.whole a.rec.now) (f.words_in a.rec.now) in
    let l = c.in_ok-look.look.layout in
    let t = c.in_ok-look.look.site in
    let look : c.look.result ≡ ask (f.whole b) (Err Size) (look_of w (Gap a.list a.position a.start (length rec))) =
    c.look.ensures.outcome ∙ ap (λ n. ask (f.whole b) (Err Size) (look_of w (Gap a.list a.position a.start n))) c.record_size.ensures in
    let x = first-at (f.whole b) (sym look ∙ c.in_ok-look.was) in
    let p = gap-placed w a.list a.position l t a.start (length rec) x.1 in
    p.2

pub returns-clause-answer : goal.returns-clause-answer
returns-clause-answer g c =
    let f = g.E.Form in
    let a = c.args in
    let b = a.lent.now in
    let w = f.words_in b in
    let rec = record_in (f.whole a.rec.now) (f.words_in a.rec.now) in
    let l = c.in_ok-look.look.layout in
    let t = c.in_ok-look.look.site in
    let look : c.look.result ≡ ask (f.whole b) (Err Size) (look_of w (Gap a.list a.position a.start (length rec))) =
    c.look.ensures.outcome ∙ ap (λ n. ask (f.whole b) (Err Size) (look_of w (Gap a.list a.position a.start n))) c.record_size.ensures in
    let x = first-at (f.whole b) (sym look ∙ c.in_ok-look.was) in
    let p = gap-placed w a.list a.position l t a.start (length rec) x.1 in
    let same : rec ≡ f.words_in a.rec.now = record-words (f.whole a.rec.now) (f.words_in a.rec.now) (omega (arith, p.1, p.0.in_range.some_width)) in
    let e =
    asked-yes (f.whole b) (refuse Size) (insert_plan w a.list a.position a.start rec) x.0
    ∙ insert-at w a.list a.position a.start rec x.1
    ∙ ap (λ x. stores (insert_writes l a.list t x)) same in
    (lent-run f.after a.allowance b e c.insert_at.ensures.outcome c.insert_at.ensures.lent).0

pub returns-clause-lent : goal.returns-clause-lent
returns-clause-lent g c =
    let f = g.E.Form in
    let a = c.args in
    let b = a.lent.now in
    let w = f.words_in b in
    let rec = record_in (f.whole a.rec.now) (f.words_in a.rec.now) in
    let l = c.in_ok-look.look.layout in
    let t = c.in_ok-look.look.site in
    let look : c.look.result ≡ ask (f.whole b) (Err Size) (look_of w (Gap a.list a.position a.start (length rec))) =
    c.look.ensures.outcome ∙ ap (λ n. ask (f.whole b) (Err Size) (look_of w (Gap a.list a.position a.start n))) c.record_size.ensures in
    let x = first-at (f.whole b) (sym look ∙ c.in_ok-look.was) in
    let p = gap-placed w a.list a.position l t a.start (length rec) x.1 in
    let same : rec ≡ f.words_in a.rec.now = record-words (f.whole a.rec.now) (f.words_in a.rec.now) (omega (arith, p.1, p.0.in_range.some_width)) in
    let e =
    asked-yes (f.whole b) (refuse Size) (insert_plan w a.list a.position a.start rec) x.0
    ∙ insert-at w a.list a.position a.start rec x.1
    ∙ ap (λ x. stores (insert_writes l a.list t x)) same in
    (lent-run f.after a.allowance b e c.insert_at.ensures.outcome c.insert_at.ensures.lent).1

pub returns-clause-worn : goal.returns-clause-worn
returns-clause-worn g c =
    let f = g.E.Form in
    let a = c.args in
    let b = a.lent.now in
    let w = f.words_in b in
    let rec = record_in (f.whole a.rec.now) (f.words_in a.rec.now) in
    let l = c.in_ok-look.look.layout in
    let t = c.in_ok-look.look.site in
    let look : c.look.result ≡ ask (f.whole b) (Err Size) (look_of w (Gap a.list a.position a.start (length rec))) =
    c.look.ensures.outcome ∙ ap (λ n. ask (f.whole b) (Err Size) (look_of w (Gap a.list a.position a.start n))) c.record_size.ensures in
    let x = first-at (f.whole b) (sym look ∙ c.in_ok-look.was) in
    let p = gap-placed w a.list a.position l t a.start (length rec) x.1 in
    let same : rec ≡ f.words_in a.rec.now = record-words (f.whole a.rec.now) (f.words_in a.rec.now) (omega (arith, p.1, p.0.in_range.some_width)) in
    let e =
    asked-yes (f.whole b) (refuse Size) (insert_plan w a.list a.position a.start rec) x.0
    ∙ insert-at w a.list a.position a.start rec x.1
    ∙ ap (λ x. stores (insert_writes l a.list t x)) same in
    lent-kept g.met.E.Form.laws (planned (f.whole b) (insert_plan w a.list a.position a.start rec)) a.allowance b
    (kept-first (f.whole b) (insert_plan w a.list a.position a.start rec) a.allowance w (insert-worn w a.list a.position a.start rec a.allowance))
    (lent-run f.after a.allowance b e c.insert_at.ensures.outcome c.insert_at.ensures.lent).1
