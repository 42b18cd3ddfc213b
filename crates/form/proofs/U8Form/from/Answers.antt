-- `form::from`: the words stand within the bytes.
use Prim.Native.Nat.{◌*◌, ◌-◌}
use mathlib.Core.Path.{ap, ◌∙◌}
use native.Mathlib.Omega.{arith}
use lib.ListN.{length, drop, length-drop}
use lib.Seq.{take_all}
use Rattle.encoding.specs.Bytes.{words_in}
use Rattle.encoding.proofs.Laws.{length-words, words-drop}
use Rattle.form.proofs.U8Form.from.Goals as goal

pub overflow_mul-at : goal.overflow_mul-at
overflow_mul-at c = omega (arith, length-words c.args.bytes.now)

pub slice_bounds-result-count : goal.slice_bounds-result-count
slice_bounds-result-count c = omega (arith, length-words c.args.bytes.now)

pub slice_bounds-result-start : goal.slice_bounds-result-start
slice_bounds-result-start c = omega (arith, length-words c.args.bytes.now)

pub returns : goal.returns
returns c =
    let b = c.args.bytes.now in
    let a = c.args.a in
    ap words_in (take_all (length b - 2 * a) (drop (2 * a) b) (omega (arith, length-drop (2 * a) b))) ∙ words-drop a b
