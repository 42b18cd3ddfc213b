-- The stores of the plan are made.
use Rattle.std.proofs.Common.{◌≡◌, ℕ, ◌*◌, ◌/◌, ◌≤◌, ◌<◌, List, length, take, Ok, Err, arith, ap, sym, subst, ◌∙◌}
use Rattle.layout.specs.declared.Refusal.TheVariants.{Size}
use Rattle.layout.specs.Words.{layout_of}
use Rattle.layout.proofs.Laws.{opened-open}
use Rattle.stores.specs.Stores.{refuse, stores, left_by}
use Rattle.requests.proofs.First.{asked-yes, first-refused, first-at}
use Rattle.layout.specs.Words.{ask}
use Rattle.requests.specs.declared.Request.TheVariants.{Gaps}
use Rattle.requests.specs.Requests.{look_of}
use Rattle.edits.specs.Edits.{chain, chain_from, Room}
use Rattle.edits.proofs.Room.{several-room}
use Rattle.calls.specs.Calls.{several_plan}
use Rattle.calls.proofs.Worn.{several-worn}
use Rattle.calls.proofs.Cases.{several-refused, several-at}
use Rattle.sites.proofs.Exits.{handed}
use Rattle.engine.specs.Lent.{planned, record_in}
use Rattle.engine.proofs.Laws.{lent-refused, lent-run, lent-kept, kept-first, record-words}
use Rattle.engine.proofs.insert_several.Goals as goal

pub returns-in_err-look-clause-answer : goal.returns-in_err-look-clause-answer
returns-in_err-look-clause-answer g c =
    let f = g.E.Form in
    let a = c.args in
    let b = a.lent.now in
    let w = f.words_in b in
    let rec = record_in (f.whole a.records.now) (f.words_in a.records.now) in
    let look : c.look.result ≡ ask (f.whole b) (Err Size) (look_of w (Gaps a.list a.position a.start (length rec))) =
    c.look.ensures.outcome ∙ ap (λ n. ask (f.whole b) (Err Size) (look_of w (Gaps a.list a.position a.start n))) c.record_size.ensures in
    let e = first-refused refuse (f.whole b) (λ m h. several-refused w a.list a.position a.start rec h) (sym look ∙ c.in_err-look.was) in
    handed c.from_residual.ensures.1 ∙ (lent-refused f.after a.allowance b e).0

pub returns-in_err-look-clause-lent : goal.returns-in_err-look-clause-lent
returns-in_err-look-clause-lent g c =
    let f = g.E.Form in
    let a = c.args in
    let b = a.lent.now in
    let w = f.words_in b in
    let rec = record_in (f.whole a.records.now) (f.words_in a.records.now) in
    let look : c.look.result ≡ ask (f.whole b) (Err Size) (look_of w (Gaps a.list a.position a.start (length rec))) =
    c.look.ensures.outcome ∙ ap (λ n. ask (f.whole b) (Err Size) (look_of w (Gaps a.list a.position a.start n))) c.record_size.ensures in
    let e = first-refused refuse (f.whole b) (λ m h. several-refused w a.list a.position a.start rec h) (sym look ∙ c.in_err-look.was) in
    (lent-refused f.after a.allowance b e).1

pub insert_all-requires-clause-room : goal.insert_all-requires-clause-room
insert_all-requires-clause-room g c =
    let f = g.E.Form in
    let a = c.args in
    let b = a.lent.now in
    let w = f.words_in b in
    let rec = record_in (f.whole a.records.now) (f.words_in a.records.now) in
    let l = c.in_ok-look.look.layout in
    let t = c.in_ok-look.look.site in
    let look : c.look.result ≡ ask (f.whole b) (Err Size) (look_of w (Gaps a.list a.position a.start (length rec))) =
    c.look.ensures.outcome ∙ ap (λ n. ask (f.whole b) (Err Size) (look_of w (Gaps a.list a.position a.start n))) c.record_size.ensures in
    let x = first-at (f.whole b) (sym look ∙ c.in_ok-look.was) in
    let r = several-room w a.list a.position a.start (length rec) l t x.1 in
    let same : rec ≡ f.words_in a.records.now = record-words (f.whole a.records.now) (f.words_in a.records.now) r.some in
    subst (λ x. Room l w a.list t (length x / l.width)) same r.room

pub insert_all-requires-clause-some : goal.insert_all-requires-clause-some
insert_all-requires-clause-some g c =
    let f = g.E.Form in
    let a = c.args in
    let b = a.lent.now in
    let w = f.words_in b in
    let rec = record_in (f.whole a.records.now) (f.words_in a.records.now) in
    let l = c.in_ok-look.look.layout in
    let t = c.in_ok-look.look.site in
    let look : c.look.result ≡ ask (f.whole b) (Err Size) (look_of w (Gaps a.list a.position a.start (length rec))) =
    c.look.ensures.outcome ∙ ap (λ n. ask (f.whole b) (Err Size) (look_of w (Gaps a.list a.position a.start n))) c.record_size.ensures in
    let x = first-at (f.whole b) (sym look ∙ c.in_ok-look.was) in
    let r = several-room w a.list a.position a.start (length rec) l t x.1 in
    let same : rec ≡ f.words_in a.records.now = record-words (f.whole a.records.now) (f.words_in a.records.now) r.some in
    subst (λ x. 0 < length x) same r.some

pub insert_all-requires-clause-whole : goal.insert_all-requires-clause-whole
insert_all-requires-clause-whole g c =
    let f = g.E.Form in
    let a = c.args in
    let b = a.lent.now in
    let w = f.words_in b in
    let rec = record_in (f.whole a.records.now) (f.words_in a.records.now) in
    let l = c.in_ok-look.look.layout in
    let t = c.in_ok-look.look.site in
    let look : c.look.result ≡ ask (f.whole b) (Err Size) (look_of w (Gaps a.list a.position a.start (length rec))) =
    c.look.ensures.outcome ∙ ap (λ n. ask (f.whole b) (Err Size) (look_of w (Gaps a.list a.position a.start n))) c.record_size.ensures in
    let x = first-at (f.whole b) (sym look ∙ c.in_ok-look.was) in
    let r = several-room w a.list a.position a.start (length rec) l t x.1 in
    let same : rec ≡ f.words_in a.records.now = record-words (f.whole a.records.now) (f.words_in a.records.now) r.some in
    subst (λ x. length x ≡ length x / l.width * l.width) same r.whole

pub returns-clause-answer : goal.returns-clause-answer
returns-clause-answer g c =
    let f = g.E.Form in
    let a = c.args in
    let b = a.lent.now in
    let w = f.words_in b in
    let rec = record_in (f.whole a.records.now) (f.words_in a.records.now) in
    let l = c.in_ok-look.look.layout in
    let t = c.in_ok-look.look.site in
    let look : c.look.result ≡ ask (f.whole b) (Err Size) (look_of w (Gaps a.list a.position a.start (length rec))) =
    c.look.ensures.outcome ∙ ap (λ n. ask (f.whole b) (Err Size) (look_of w (Gaps a.list a.position a.start n))) c.record_size.ensures in
    let x = first-at (f.whole b) (sym look ∙ c.in_ok-look.was) in
    let r = several-room w a.list a.position a.start (length rec) l t x.1 in
    let same : rec ≡ f.words_in a.records.now = record-words (f.whole a.records.now) (f.words_in a.records.now) r.some in
    let e =
    asked-yes (f.whole b) (refuse Size) (several_plan w a.list a.position a.start rec) x.0
    ∙ several-at w a.list a.position a.start rec x.1
    ∙ ap (λ cs. stores (chain l a.list t.before t.after t.count (take (length rec / l.width) cs) rec)) r.cells
    ∙ ap (λ x. stores (chain_from l w a.list t (length x / l.width) x)) same in
    (lent-run f.after a.allowance b e c.insert_all.ensures.outcome c.insert_all.ensures.lent).0

pub returns-clause-lent : goal.returns-clause-lent
returns-clause-lent g c =
    let f = g.E.Form in
    let a = c.args in
    let b = a.lent.now in
    let w = f.words_in b in
    let rec = record_in (f.whole a.records.now) (f.words_in a.records.now) in
    let l = c.in_ok-look.look.layout in
    let t = c.in_ok-look.look.site in
    let look : c.look.result ≡ ask (f.whole b) (Err Size) (look_of w (Gaps a.list a.position a.start (length rec))) =
    c.look.ensures.outcome ∙ ap (λ n. ask (f.whole b) (Err Size) (look_of w (Gaps a.list a.position a.start n))) c.record_size.ensures in
    let x = first-at (f.whole b) (sym look ∙ c.in_ok-look.was) in
    let r = several-room w a.list a.position a.start (length rec) l t x.1 in
    let same : rec ≡ f.words_in a.records.now = record-words (f.whole a.records.now) (f.words_in a.records.now) r.some in
    let e =
    asked-yes (f.whole b) (refuse Size) (several_plan w a.list a.position a.start rec) x.0
    ∙ several-at w a.list a.position a.start rec x.1
    ∙ ap (λ cs. stores (chain l a.list t.before t.after t.count (take (length rec / l.width) cs) rec)) r.cells
    ∙ ap (λ x. stores (chain_from l w a.list t (length x / l.width) x)) same in
    (lent-run f.after a.allowance b e c.insert_all.ensures.outcome c.insert_all.ensures.lent).1

pub returns-clause-worn : goal.returns-clause-worn
returns-clause-worn g c =
    let f = g.E.Form in
    let a = c.args in
    let b = a.lent.now in
    let w = f.words_in b in
    let rec = record_in (f.whole a.records.now) (f.words_in a.records.now) in
    let l = c.in_ok-look.look.layout in
    let t = c.in_ok-look.look.site in
    let look : c.look.result ≡ ask (f.whole b) (Err Size) (look_of w (Gaps a.list a.position a.start (length rec))) =
    c.look.ensures.outcome ∙ ap (λ n. ask (f.whole b) (Err Size) (look_of w (Gaps a.list a.position a.start n))) c.record_size.ensures in
    let x = first-at (f.whole b) (sym look ∙ c.in_ok-look.was) in
    let r = several-room w a.list a.position a.start (length rec) l t x.1 in
    let same : rec ≡ f.words_in a.records.now = record-words (f.whole a.records.now) (f.words_in a.records.now) r.some in
    let e =
    asked-yes (f.whole b) (refuse Size) (several_plan w a.list a.position a.start rec) x.0
    ∙ several-at w a.list a.position a.start rec x.1
    ∙ ap (λ cs. stores (chain l a.list t.before t.after t.count (take (length rec / l.width) cs) rec)) r.cells
    ∙ ap (λ x. stores (chain_from l w a.list t (length x / l.width) x)) same in
    lent-kept g.met.E.Form.laws (planned (f.whole b) (several_plan w a.list a.position a.start rec)) a.allowance b
    (kept-first (f.whole b) (several_plan w a.list a.position a.start rec) a.allowance w (several-worn w a.list a.position a.start rec a.allowance))
    (lent-run f.after a.allowance b e c.insert_all.ensures.outcome c.insert_all.ensures.lent).1
