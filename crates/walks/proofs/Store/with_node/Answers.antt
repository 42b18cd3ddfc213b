-- `Store::with_node` meets its contract.
use Prim.Native.Nat.{◌+◌}
use mathlib.Core.Path.{ap, ◌∙◌, sym}
use mathlib.Core.Bool.{true, false}
use lib.ListN.{get_or}
use Rattle.layout.specs.Words.{link_words, is_free}
use Rattle.lists.specs.Decide.{blank_from}
use Rattle.spans.specs.Spans.{with_free, with_other}
use Rattle.spans.proofs.Counts.{tallied-as}
use Rattle.walks.proofs.Store.with_node.Goals as goal

pub returns-then-is_free : goal.returns-then-is_free
returns-then-is_free g c =
    let a = c.args in
    let w = g.E.Form.words_in a.self.now.lent.now in
    c.with_free.ensures
    ∙ ap (with_free a.t) c.blank.ensures
    ∙ tallied-as a.t (get_or w a.a 0) (blank_from w (a.a + link_words) a.n) true
    (sym (c.is_free.ensures ∙ ap is_free c.word-ident.ensures) ∙ c.if-is_free.true)

pub returns : goal.returns
returns g c =
    let a = c.args in
    let w = g.E.Form.words_in a.self.now.lent.now in
    c.with_other.ensures
    ∙ ap (with_other a.t) c.word-ident.ensures
    ∙ tallied-as a.t (get_or w a.a 0) (blank_from w (a.a + link_words) a.n) false
    (sym (c.is_free.ensures ∙ ap is_free c.word-ident.ensures) ∙ c.if-is_free.false)
