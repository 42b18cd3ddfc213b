-- `decode`: the next word is that of the bytes, and at the end all are.
use Rattle.std.proofs.Common.{List, ℕ, set, ap₂, ◌∙◌, arith}
use Rattle.listing_text.proofs.Over.{over-next, over-all}
use Rattle.encoding.specs.Bytes.{words_in}
use Rattle.encoding.proofs.Laws.{length-words}
use Rattle.listing_text.proofs.decode.Goals as goal

pub word-requires : goal.word-requires
word-requires c = omega (arith, length-words c.args.bytes.now)

pub loop-i-preserved : goal.loop-i-preserved
loop-i-preserved c =
    let h = c.loop-i in
    let s = c.args in
    ap₂ (λ (x : List ℕ) (v : ℕ). set x h.i v) h.invariant c.word.ensures
    ∙ over-next (words_in s.bytes.now) s.words.now h.i (omega (arith, length-words s.bytes.now)) (omega arith)

pub returns : goal.returns
returns c =
    let s = c.args in
    let n = length-words s.bytes.now in
    c.loop-i.invariant ∙ over-all (words_in s.bytes.now) s.words.now c.loop-i.i (omega (arith, n)) (omega (arith, n))
