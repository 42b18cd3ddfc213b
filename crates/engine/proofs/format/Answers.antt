-- The questions in their order, then every word.
use Rattle.std.proofs.Common.{◌≡◌, true, sym, ◌∙◌}
use Rattle.layout.specs.declared.Layout.{Layout}
use Rattle.layout.specs.declared.Refusal.TheVariants.{Size}
use Rattle.layout.specs.Words.{layout_for}
use Rattle.layout.proofs.Laws.{answered-no, answered-yes, in-range}
use Rattle.stores.specs.Stores.{refuse}
use Rattle.requests.proofs.First.{asked-no, asked-yes}
use Rattle.calls.specs.Calls.{format_plan}
use Rattle.calls.proofs.Cases.{format-range, format-exact, format-done}
use Rattle.engine.proofs.Laws.{format-refused, format-run}
use Rattle.engine.proofs.format.Goals as goal

pub returns-then-not-is_whole : goal.returns-then-not-is_whole
returns-then-not-is_whole g c =
    let f = g.E.Form in
    let b = c.args.lent.now in
    let l = layout_for c.args.lists c.args.nodes c.args.width in
    let both = format-refused f.after b (asked-no (f.whole b) (refuse Size) (format_plan l (f.words_in b)) (answered-no c.is_whole.ensures c.if-not-is_whole.true)) in
    record { answer = both.0; lent = both.1 }

pub returns-then-not-in_range : goal.returns-then-not-in_range
returns-then-not-in_range g c =
    let f = g.E.Form in
    let b = c.args.lent.now in
    let l = layout_for c.args.lists c.args.nodes c.args.width in
    let both =
    format-refused f.after b
    (asked-yes (f.whole b) (refuse Size) (format_plan l (f.words_in b)) (answered-yes c.is_whole.ensures c.if-not-is_whole.false)
    ∙ format-range l (f.words_in b) (answered-no c.in_range.ensures c.if-not-in_range.true)) in
    record { answer = both.0; lent = both.1 }

pub returns-then-size : goal.returns-then-size
returns-then-size g c =
    let f = g.E.Form in
    let b = c.args.lent.now in
    let l = layout_for c.args.lists c.args.nodes c.args.width in
    let both =
    format-refused f.after b
    (asked-yes (f.whole b) (refuse Size) (format_plan l (f.words_in b)) (answered-yes c.is_whole.ensures c.if-not-is_whole.false)
    ∙ format-exact l (f.words_in b) (answered-yes c.in_range.ensures c.if-not-in_range.false)
    (λ e. c.if-size.true (c.size.ensures ∙ e ∙ sym c.size-2.ensures))) in
    record { answer = both.0; lent = both.1 }

pub fill-requires : goal.fill-requires
fill-requires g c =
    record {
      in_range = in-range _ (answered-yes c.in_range.ensures c.if-not-in_range.false);
      exact = sym c.size.ensures ∙ c.if-size.false ∙ c.size-2.ensures;
    }

pub returns : goal.returns
returns g c =
    let f = g.E.Form in
    let b = c.args.lent.now in
    let l = layout_for c.args.lists c.args.nodes c.args.width in
    let both =
    format-run f.after b
    (asked-yes (f.whole b) (refuse Size) (format_plan l (f.words_in b)) (answered-yes c.is_whole.ensures c.if-not-is_whole.false)
    ∙ format-done l (f.words_in b) (answered-yes c.in_range.ensures c.if-not-in_range.false)
    (sym c.size.ensures ∙ c.if-size.false ∙ c.size-2.ensures))
    c.fill.ensures in
    record { answer = both.0; lent = both.1 }
