-- The store of the plan is made.
use Rattle.std.proofs.Common.{◌≡◌, [], ◌∷◌, Ok, Err, arith, refl, ap, sym, ◌∙◌}
use Rattle.layout.specs.declared.Refusal.TheVariants.{Size}
use Rattle.layout.specs.Words.{worn_ident}
use Rattle.layout.proofs.Laws.{node-fits, cell-node}
use Rattle.stores.specs.Stores.{refuse, write}
use Rattle.requests.proofs.First.{asked-yes, first-refused, first-at}
use Rattle.edits.specs.Edits.{mark_stores}
use Rattle.calls.specs.Calls.{mark_plan}
use Rattle.calls.proofs.Cases.{mark-refused, mark-at}
use Rattle.calls.proofs.Sites.{mark-placed}
use Rattle.sites.proofs.Exits.{handed}
use Rattle.engine.proofs.Laws.{lent-refused, lent-run}
use Rattle.engine.proofs.mark_worn.Goals as goal

pub returns-in_err-look-clause-answer : goal.returns-in_err-look-clause-answer
returns-in_err-look-clause-answer g c =
    let f = g.E.Form in
    let b = c.args.lent.now in
    let e = first-refused refuse (f.whole b) (λ m h. mark-refused (f.words_in b) c.args.cell h) (sym c.look.ensures.outcome ∙ c.in_err-look.was) in
    handed c.from_residual.ensures.1 ∙ (lent-refused f.after mark_stores b e).0

pub returns-in_err-look-clause-lent : goal.returns-in_err-look-clause-lent
returns-in_err-look-clause-lent g c =
    let f = g.E.Form in
    let b = c.args.lent.now in
    let e = first-refused refuse (f.whole b) (λ m h. mark-refused (f.words_in b) c.args.cell h) (sym c.look.ensures.outcome ∙ c.in_err-look.was) in
    (lent-refused f.after mark_stores b e).1

pub node-requires : goal.node-requires
node-requires g c =
    let w = g.E.Form.words_in c.args.lent.now in
    let x = first-at (g.E.Form.whole c.args.lent.now) (sym c.look.ensures.outcome ∙ c.in_ok-look.was) in
    (mark-placed w c.args.cell _ _ x.1).1.low

pub put-requires : goal.put-requires
put-requires g c =
    let w = g.E.Form.words_in c.args.lent.now in
    let x = first-at (g.E.Form.whole c.args.lent.now) (sym c.look.ensures.outcome ∙ c.in_ok-look.was) in
    let h = mark-placed w c.args.cell c.in_ok-look.look.layout c.in_ok-look.look.site x.1 in
    omega (arith, c.node.ensures, h.0.exact, node-fits c.in_ok-look.look.layout c.in_ok-look.look.site.cell h.1)

pub returns-clause-answer : goal.returns-clause-answer
returns-clause-answer g c =
    let f = g.E.Form in
    let b = c.args.lent.now in
    let w = f.words_in b in
    let x = first-at (f.whole b) (sym c.look.ensures.outcome ∙ c.in_ok-look.was) in
    let e = asked-yes (f.whole b) (refuse Size) (mark_plan w c.args.cell) x.0 ∙ mark-at w c.args.cell x.1 in
    (lent-run f.after mark_stores b e refl refl).0

pub returns-clause-lent : goal.returns-clause-lent
returns-clause-lent g c =
    let f = g.E.Form in
    let b = c.args.lent.now in
    let w = f.words_in b in
    let l = c.in_ok-look.look.layout in
    let t = c.in_ok-look.look.site in
    let x = first-at (f.whole b) (sym c.look.ensures.outcome ∙ c.in_ok-look.was) in
    let e = asked-yes (f.whole b) (refuse Size) (mark_plan w c.args.cell) x.0 ∙ mark-at w c.args.cell x.1 in
    (lent-run f.after mark_stores b e refl
    (c.put.ensures
    ∙ ap (λ i. f.after (write i worn_ident ∷ []) b) (c.node.ensures ∙ sym (cell-node l t.cell (mark-placed w c.args.cell l t x.1).1.low)))).1
