-- `recovering::stores_in`: what is found of the store tells a refusal, or how many stores recovery makes.
use Rattle.std.proofs.Common.{Ok, ◌+◌, arith, ap, sym, ◌∙◌}
use Rattle.layout.specs.Words.{first_node}
use Rattle.mending.proofs.Finding.{none_left, none-unwiped}
use Rattle.mending.proofs.Counting.{wipes-few}
use Rattle.mending.proofs.Counted.{needed-refused, needed-wipes, needed-mends}
use Rattle.recovering.proofs.stores_in.Goals as goal

pub returns-in-Err : goal.returns-in-Err
returns-in-Err g c =
    let s = c.args.s.now in
    sym (needed-refused s.layout (g.E.Form.words_in s.lent.now) c.in-Err.refusal c.in-Err.ensures)

pub returns-then-not-found : goal.returns-then-not-found
returns-then-not-found g c =
    let s = c.args.s.now in
    let l = s.layout in
    let w = g.E.Form.words_in s.lent.now in
    let f = c.in-Ok.found in
    let t = c.in-Ok.ensures in
    ap Ok c.len-mends.ensures.value
    ∙ sym (needed-mends l w f.mends t.mends s.laid.exact s.laid.in_range (none_left l w f t c.if-found.false) (none-unwiped l w f t c.if-not-found.true))

pub overflow_add-result : goal.overflow_add-result
overflow_add-result g c =
    let s = c.args.s.now in
    let l = s.layout in
    omega (arith, c.len-mends.ensures.fits, c.free_wipes.ensures, wipes-few l (g.E.Form.words_in s.lent.now) s.laid.in_range (first_node l) l.nodes, s.laid.in_range.nodes)

pub returns : goal.returns
returns g c =
    let s = c.args.s.now in
    let l = s.layout in
    let w = g.E.Form.words_in s.lent.now in
    let f = c.in-Ok.found in
    let t = c.in-Ok.ensures in
    (λ i. Ok (c.len-mends.ensures.value i + c.free_wipes.ensures i))
    ∙ sym (needed-wipes l w f.mends t.mends s.laid.exact s.laid.in_range (none_left l w f t c.if-found.false))
