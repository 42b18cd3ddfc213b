-- `counts::node_wipes`: a node that is not free needs none.
use mathlib.Core.Path.{ap, sym, ◌∙◌}
use lib.ListN.{length}
use Rattle.layout.specs.declared.Cell.{Cell}
use Rattle.layout.specs.Words.{is_free}
use Rattle.layout.proofs.Laws.{answered-yes, answered-no}
use Rattle.mending.proofs.Wiping.{wipes-skip, wipes-free}
use Rattle.counts.proofs.node_wipes.Goals as goal

pub returns-then-not-is_free : goal.returns-then-not-is_free
returns-then-not-is_free g c =
    let s = c.args.s.now in
    sym (ap length (wipes-skip s.layout (g.E.Form.words_in s.lent.now) c.args.c
    (answered-no (c.is_free.ensures ∙ ap (λ (x : Cell). is_free x.ident) c.node.ensures) c.if-not-is_free.true)))

pub returns : goal.returns
returns g c =
    let s = c.args.s.now in
    c.record_wipes.ensures
    ∙ sym (ap length (wipes-free s.layout (g.E.Form.words_in s.lent.now) c.args.c
    (answered-yes (c.is_free.ensures ∙ ap (λ (x : Cell). is_free x.ident) c.node.ensures) c.if-not-is_free.false)))
