-- `wipes::wipe_node`: the wipes of a node are those of its record, if it is free and has one.
use Prim.Native.Nat.{ℕ, ◌+◌}
use mathlib.Core.Path.{ap, ap₂, sym, ◌∙◌}
use mathlib.Core.List.{List}
use native.Mathlib.Omega.{arith}
use lib.ListN.{get_or, replicate, take}
use Rattle.stores.specs.Stores.{Write, in_row, outcome_of}
use Rattle.layout.specs.Words.{link_words, is_free}
use Rattle.layout.proofs.Laws.{answered-yes, answered-no}
use Rattle.layout.proofs.Places.{tail-words, words-few}
use Rattle.lists.specs.Decide.{blank_from}
use Rattle.recovery.specs.Fits.{wrong}
use Rattle.mending.proofs.Making.{none_made}
use Rattle.mending.proofs.Wiping.{wipes-skip, wipes-free, wipes-blank}
use Rattle.wipes.proofs.wipe_node.Goals as goal

pub word-requires : goal.word-requires
word-requires g c =
    let t = tail-words c.requires.1 c.args.c c.requires.2 in omega (arith, t.0, t.1, c.place-place.ensures)

pub returns-then-not-is_free : goal.returns-then-not-is_free
returns-then-not-is_free g c =
    let a = c.args in
    let w = g.E.Form.words_in a.lent.now in
    let free = c.is_free.ensures ∙ ap is_free (c.word.ensures ∙ ap (λ (b : ℕ). get_or w b 0) c.place-place.ensures) in
    let r = none_made g.met.E.Form.laws _ a.allowance a.lent.now (wipes-skip a.l w a.c (answered-no free c.if-not-is_free.true)) in
    record { outcome = r.0; lent = r.1 }

pub overflow_add-a : goal.overflow_add-a
overflow_add-a g c = omega (arith, tail-words c.requires.1 c.args.c c.requires.2, c.place-place.ensures, words-few c.requires.1)

pub blank-requires : goal.blank-requires
blank-requires g c =
    let t = tail-words c.requires.1 c.args.c c.requires.2 in
    (omega (arith, c.tail-n.ensures, c.requires.1.in_range.tail), omega (arith, t.0, t.1, c.place-place.ensures, c.tail-n.ensures))

pub returns-then-blank : goal.returns-then-blank
returns-then-blank g c =
    let a = c.args in
    let w = g.E.Form.words_in a.lent.now in
    let at = ap (λ (n : ℕ). n + link_words) c.place-place.ensures ∙ (tail-words c.requires.1 a.c c.requires.2).0 in
    let blank = sym (c.blank.ensures ∙ ap₂ (blank_from w) at c.tail-n.ensures) ∙ c.if-blank.true in
    let r = none_made g.met.E.Form.laws _ a.allowance a.lent.now (wipes-blank a.l w a.c blank) in
    record { outcome = r.0; lent = r.1 }

pub wipe_row-requires : goal.wipe_row-requires
wipe_row-requires g c =
    let t = tail-words c.requires.1 c.args.c c.requires.2 in omega (arith, t.0, t.1, c.place-place.ensures, c.tail-n.ensures)

pub returns : goal.returns
returns g c =
    let a = c.args in
    let w = g.E.Form.words_in a.lent.now in
    let free = c.is_free.ensures ∙ ap is_free (c.word.ensures ∙ ap (λ (b : ℕ). get_or w b 0) c.place-place.ensures) in
    let at = ap (λ (n : ℕ). n + link_words) c.place-place.ensures ∙ (tail-words c.requires.1 a.c c.requires.2).0 in
    let row = ap₂ (λ (b n : ℕ). wrong w (in_row b (replicate n 0))) at c.tail-n.ensures ∙ sym (wipes-free a.l w a.c (answered-yes free c.if-not-is_free.false)) in
    record {
      outcome = c.wipe_row.ensures.outcome ∙ ap (λ (ps : List Write). outcome_of ps a.allowance) row;
      lent = c.wipe_row.ensures.lent ∙ ap (λ (ps : List Write). g.E.Form.after (take a.allowance ps) a.lent.now) row;
    }
