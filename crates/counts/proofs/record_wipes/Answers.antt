-- `counts::record_wipes`: a record that is blank needs none, any other is counted word by word.
use Prim.Native.Nat.{ℕ, ◌+◌}
use mathlib.Core.Path.{ap, ap₂, sym, ◌∙◌}
use native.Mathlib.Omega.{arith}
use lib.ListN.{length, replicate}
use Rattle.stores.specs.Stores.{in_row}
use Rattle.layout.specs.Words.{link_words}
use Rattle.layout.proofs.Places.{tail-words, words-few}
use Rattle.lists.specs.Lists.{blank_asked}
use Rattle.lists.specs.Decide.{blank_from}
use Rattle.lists.proofs.Blank.{blank-words, blank-agrees}
use Rattle.recovery.specs.Fits.{wrong}
use Rattle.recovery.proofs.Required.{agrees-wrong}
use Rattle.counts.proofs.record_wipes.Goals as goal

pub overflow_add-a : goal.overflow_add-a
overflow_add-a g c =
    let s = c.args.s.now in
    omega (arith, tail-words s.laid c.args.c c.requires, c.place-a.ensures, words-few s.laid)

pub blank-requires : goal.blank-requires
blank-requires g c =
    let s = c.args.s.now in
    let t = tail-words s.laid c.args.c c.requires in
    (omega (arith, c.tail-n.ensures, s.laid.in_range.tail), omega (arith, t.0, t.1, c.place-a.ensures, c.tail-n.ensures))

pub returns-then-blank : goal.returns-then-blank
returns-then-blank g c =
    let s = c.args.s.now in
    let w = g.E.Form.words_in s.lent.now in
    let a = ap (λ (n : ℕ). n + link_words) c.place-a.ensures ∙ (tail-words s.laid c.args.c c.requires).0 in
    let e = sym (c.blank.ensures ∙ ap₂ (blank_from w) a c.tail-n.ensures) ∙ c.if-blank.true in
    sym (ap length (agrees-wrong w (blank_asked s.layout c.args.c) (blank-agrees s.layout w c.args.c (blank-words s.layout w c.args.c e))))

pub row_wipes-requires : goal.row_wipes-requires
row_wipes-requires g c =
    let t = tail-words c.args.s.now.laid c.args.c c.requires in omega (arith, t.0, t.1, c.place-a.ensures, c.tail-n.ensures)

pub returns : goal.returns
returns g c =
    let s = c.args.s.now in
    let a = ap (λ (n : ℕ). n + link_words) c.place-a.ensures ∙ (tail-words s.laid c.args.c c.requires).0 in
    c.row_wipes.ensures ∙ ap₂ (λ (b n : ℕ). length (wrong (g.E.Form.words_in s.lent.now) (in_row b (replicate n 0)))) a c.tail-n.ensures
