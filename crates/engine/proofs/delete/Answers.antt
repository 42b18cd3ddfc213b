-- The stores of the plan are made.
use Rattle.std.proofs.Common.{◌≡◌, ℕ, ◌*◌, ◌/◌, ◌≤◌, ◌<◌, List, length, take, Ok, Err, arith, ap, sym, subst, ◌∙◌}
use Rattle.layout.specs.declared.Refusal.TheVariants.{Size}
use Rattle.layout.specs.Words.{layout_of}
use Rattle.stores.specs.Stores.{refuse, stores, left_by}
use Rattle.requests.specs.declared.Request.TheVariants.{Gap, Gaps, Member}
use Rattle.requests.specs.Requests.{look_of}
use Rattle.requests.proofs.First.{asked-yes, first-refused, first-at}
use Rattle.edits.specs.Edits.{delete_writes}
use Rattle.calls.specs.Calls.{delete_plan}
use Rattle.calls.proofs.Cases.{delete-refused, delete-at}
use Rattle.calls.proofs.Sites.{member-placed}
use Rattle.sites.proofs.Exits.{handed}
use Rattle.engine.proofs.Laws.{lent-refused, lent-run}
use Rattle.engine.proofs.delete.Goals as goal

pub returns-in_err-look-clause-answer : goal.returns-in_err-look-clause-answer
returns-in_err-look-clause-answer g c =
    let f = g.E.Form in
    let a = c.args in
    let b = a.lent.now in
    let e = first-refused refuse (f.whole b) (λ m h. delete-refused (f.words_in b) a.list a.position h) (sym c.look.ensures.outcome ∙ c.in_err-look.was) in
    handed c.from_residual.ensures.1 ∙ (lent-refused f.after a.allowance b e).0

pub returns-in_err-look-clause-lent : goal.returns-in_err-look-clause-lent
returns-in_err-look-clause-lent g c =
    let f = g.E.Form in
    let a = c.args in
    let b = a.lent.now in
    let e = first-refused refuse (f.whole b) (λ m h. delete-refused (f.words_in b) a.list a.position h) (sym c.look.ensures.outcome ∙ c.in_err-look.was) in
    (lent-refused f.after a.allowance b e).1

pub delete_at-requires-clause-placed : goal.delete_at-requires-clause-placed
delete_at-requires-clause-placed g c =
    let a = c.args in
    let x = first-at (g.E.Form.whole a.lent.now) (sym c.look.ensures.outcome ∙ c.in_ok-look.was) in
    (member-placed (g.E.Form.words_in a.lent.now) a.list a.position _ _ x.1).0

pub delete_at-requires-clause-exact : goal.delete_at-requires-clause-exact
delete_at-requires-clause-exact g c =
    let a = c.args in
    let x = first-at (g.E.Form.whole a.lent.now) (sym c.look.ensures.outcome ∙ c.in_ok-look.was) in
    (member-placed (g.E.Form.words_in a.lent.now) a.list a.position _ _ x.1).1

pub returns-clause-answer : goal.returns-clause-answer
returns-clause-answer g c =
    let f = g.E.Form in
    let a = c.args in
    let b = a.lent.now in
    let x = first-at (f.whole b) (sym c.look.ensures.outcome ∙ c.in_ok-look.was) in
    let e = asked-yes (f.whole b) (refuse Size) (delete_plan (f.words_in b) a.list a.position) x.0 ∙ delete-at (f.words_in b) a.list a.position x.1 in
    (lent-run f.after a.allowance b e c.delete_at.ensures.outcome c.delete_at.ensures.lent).0

pub returns-clause-lent : goal.returns-clause-lent
returns-clause-lent g c =
    let f = g.E.Form in
    let a = c.args in
    let b = a.lent.now in
    let x = first-at (f.whole b) (sym c.look.ensures.outcome ∙ c.in_ok-look.was) in
    let e = asked-yes (f.whole b) (refuse Size) (delete_plan (f.words_in b) a.list a.position) x.0 ∙ delete-at (f.words_in b) a.list a.position x.1 in
    (lent-run f.after a.allowance b e c.delete_at.ensures.outcome c.delete_at.ensures.lent).1
