-- `recovering::recover_in`: what is found of the store is a refusal, the mends with clears and wipes, with the wipes, or alone.
use Rattle.std.proofs.Common.{Ok, Err, ap, sym, subst, ◌∙◌}
use Rattle.std.proofs.lemmas.Result.{err_from_is_err_and}
use Prim.Native.Nat.{ℕ}
use Rattle.calls.specs.Answers.{answer_of}
use Rattle.stores.specs.Stores.{Plan, Inside, left_by}
use Rattle.mending.proofs.Recovered.{recover-refused}
use Rattle.recovering.proofs.Kept.{found-of, mended-inside, wipes-planned, mends-planned}
use Rattle.recovering.proofs.recover_in.Goals as goal

pub returns-in_err-found-clause-answer : goal.returns-in_err-found-clause-answer
returns-in_err-found-clause-answer g c =
    let a = c.args in
    let p = err_from_is_err_and c.from_residual.result c.from_residual.ensures.1 in
    let t = found-of (Err c.in_err-found.field-0.0) c.of-store.ensures.1 (ap (λ b. g.E.Form.words_in b.now) c.of-store.ensures.0) c.in_err-found.ensures in
    rw (p.1, p.2) (ap (λ (p : Plan). answer_of p a.allowance) (sym (recover-refused a.l (g.E.Form.words_in a.lent.now) _ t)))

pub returns-in_err-found-clause-lent : goal.returns-in_err-found-clause-lent
returns-in_err-found-clause-lent g c =
    let a = c.args in
    let t = found-of (Err c.in_err-found.field-0.0) c.of-store.ensures.1 (ap (λ b. g.E.Form.words_in b.now) c.of-store.ensures.0) c.in_err-found.ensures in
    ap (λ (p : Plan). left_by g.E.Form.after p a.allowance a.lent.now) (sym (recover-refused a.l (g.E.Form.words_in a.lent.now) _ t))

pub recover_none_left-requires-clause-inside : goal.recover_none_left-requires-clause-inside
recover_none_left-requires-clause-inside g c =
    let t = found-of (Ok c.in_ok-found.found) c.of-store.ensures.1 (ap (λ b. g.E.Form.words_in b.now) c.of-store.ensures.0) c.in_ok-found.ensures in
    mended-inside c.requires.in_range t.mends c.as_slice.ensures.value

pub returns-then-found-2-clause-answer : goal.returns-then-found-2-clause-answer
returns-then-found-2-clause-answer g c =
    let t = found-of (Ok c.in_ok-found.found) c.of-store.ensures.1 (ap (λ b. g.E.Form.words_in b.now) c.of-store.ensures.0) c.in_ok-found.ensures in
    ap Ok c.recover_none_left.ensures.outcome
    ∙ ap (λ (p : Plan). answer_of p c.args.allowance) (wipes-planned c.requires t c.if-found.false c.as_slice.ensures.value)

pub returns-then-found-2-clause-lent : goal.returns-then-found-2-clause-lent
returns-then-found-2-clause-lent g c =
    let t = found-of (Ok c.in_ok-found.found) c.of-store.ensures.1 (ap (λ b. g.E.Form.words_in b.now) c.of-store.ensures.0) c.in_ok-found.ensures in
    c.recover_none_left.ensures.lent
    ∙ ap (λ (p : Plan). left_by g.E.Form.after p c.args.allowance c.args.lent.now)
    (wipes-planned c.requires t c.if-found.false c.as_slice.ensures.value)

pub run-requires-clause-inside : goal.run-requires-clause-inside
run-requires-clause-inside g c =
    let t = found-of (Ok c.in_ok-found.found) c.of-store.ensures.1 (ap (λ b. g.E.Form.words_in b.now) c.of-store.ensures.0) c.in_ok-found.ensures in
    subst (λ (n : ℕ). Inside n c.as_slice-2.result.now) (sym c.requires.exact) (mended-inside c.requires.in_range t.mends c.as_slice-2.ensures.value)

pub returns-clause-answer : goal.returns-clause-answer
returns-clause-answer g c =
    let t = found-of (Ok c.in_ok-found.found) c.of-store.ensures.1 (ap (λ b. g.E.Form.words_in b.now) c.of-store.ensures.0) c.in_ok-found.ensures in
    ap Ok c.run.ensures.outcome
    ∙ ap (λ (p : Plan). answer_of p c.args.allowance)
    (mends-planned c.requires t c.if-found.false c.as_slice-2.ensures.value c.if-found-2.false)

pub returns-clause-lent : goal.returns-clause-lent
returns-clause-lent g c =
    let t = found-of (Ok c.in_ok-found.found) c.of-store.ensures.1 (ap (λ b. g.E.Form.words_in b.now) c.of-store.ensures.0) c.in_ok-found.ensures in
    c.run.ensures.lent
    ∙ ap (λ (p : Plan). left_by g.E.Form.after p c.args.allowance c.args.lent.now)
    (mends-planned c.requires t c.if-found.false c.as_slice-2.ensures.value c.if-found-2.false)
