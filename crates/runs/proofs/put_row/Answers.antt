-- After n turns the row's first n words are stored.
use Rattle.std.proofs.Common.{◌≡◌, ◌+◌, ◌<◌, [], ◌∷◌, length, take, get_or, arith, ap, ◌∙◌, sym}
use Rattle.stores.specs.declared.Outcome.TheVariants.{Done, Stopped}
use Rattle.stores.specs.Stores.{write, in_row}
use Rattle.stores.proofs.Laws.{length-row, row_write}
use Rattle.stores.proofs.Outcomes.{outcome-stopped, outcome-done}
use Rattle.encoding.proofs.Runs.{length-after, after-more, after-all}
use Rattle.runs.proofs.put_row.Goals as goal

pub put-requires : goal.put-requires
put-requires g c =
    let f = g.E.Form in
    let vs = g.F.Form.words_in c.args.values.now in
    let b = c.args.lent.now in
    let inside : length (f.words_in c.loop-n.lent) ≡ length (f.words_in b) =
    ap (λ x. length (f.words_in x)) c.loop-n.invariant.2 ∙ length-after g.met.E.Form.laws (take c.loop-n.n (in_row c.args.a vs)) b in
    omega (arith, inside, c.size-whole.ensures, c.requires.inside)

pub loop-n-preserved : goal.loop-n-preserved
loop-n-preserved g c =
    let f = g.E.Form in
    let vs = g.F.Form.words_in c.args.values.now in
    let b = c.args.lent.now in
    let n = c.loop-n.n in
    let ps = in_row c.args.a vs in
    let few : n < length vs = omega (arith, c.size-whole.ensures) in (
      omega arith,
      omega arith,
      c.put.ensures
          ∙ ap (λ x. f.after (write (c.args.a + x) c.word.result ∷ []) c.loop-n.lent) c.from.ensures
          ∙ ap (λ v. f.after (write (c.args.a + n) v ∷ []) c.loop-n.lent) (c.word.ensures ∙ ap (λ x. get_or vs x 0) c.from-in-loop-n.ensures)
          ∙ ap (f.after (write (c.args.a + n) (get_or vs n 0) ∷ [])) c.loop-n.invariant.2
          ∙ ap (λ p. f.after (p ∷ []) (f.after (take n ps) b)) (sym (row_write c.args.a n vs few))
          ∙ sym (after-more g.met.E.Form.laws ps n b (omega (arith, few, length-row c.args.a vs))),
    )

pub returns-then-n-allowance : goal.returns-then-n-allowance
returns-then-n-allowance g c =
    let f = g.E.Form in
    let vs = g.F.Form.words_in c.args.values.now in
    let ps = in_row c.args.a vs in record {
      outcome = ap Stopped c.if-n-allowance.true ∙ outcome-stopped ps c.args.allowance (omega (arith, c.size-whole.ensures, length-row c.args.a vs));
      lent = c.loop-n.invariant.2 ∙ ap (λ n. f.after (take n ps) c.args.lent.now) c.if-n-allowance.true;
    }

pub returns : goal.returns
returns g c =
    let f = g.E.Form in
    let vs = g.F.Form.words_in c.args.values.now in
    let b = c.args.lent.now in
    let ps = in_row c.args.a vs in
    let e : c.size-whole.result ≡ length ps = omega (arith, c.size-whole.ensures, length-row c.args.a vs) in record {
      outcome = ap Done e ∙ outcome-done ps c.args.allowance (omega (arith, e));
      lent = c.loop-n.invariant.2
          ∙ after-all g.met.E.Form.laws ps c.loop-n.n b (omega (arith, e))
          ∙ sym (after-all g.met.E.Form.laws ps c.args.allowance b (omega (arith, e)));
    }
