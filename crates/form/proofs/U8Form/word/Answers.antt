-- `form::word`: the word stands within the bytes.
use Prim.Native.Nat.{◌+◌, ◌*◌}
use mathlib.Core.Path.{◌≡◌, ◌∙◌}
use native.Mathlib.Omega.{arith}
use lib.ListN.{get_or}
use Rattle.encoding.proofs.Laws.{word-inside, word_at}
use Rattle.form.proofs.U8Form.word.Goals as goal

pub overflow_mul-i : goal.overflow_mul-i
overflow_mul-i c = omega (arith, word-inside c.args.bytes.now c.args.i c.requires)

pub bounds-bytes-i : goal.bounds-bytes-i
bounds-bytes-i c = omega (arith, word-inside c.args.bytes.now c.args.i c.requires)

pub overflow_mul-i-2 : goal.overflow_mul-i-2
overflow_mul-i-2 c = omega (arith, word-inside c.args.bytes.now c.args.i c.requires)

pub overflow_add-i : goal.overflow_add-i
overflow_add-i c = omega (arith, word-inside c.args.bytes.now c.args.i c.requires)

pub bounds-bytes-i-2 : goal.bounds-bytes-i-2
bounds-bytes-i-2 c = omega (arith, word-inside c.args.bytes.now c.args.i c.requires)

pub returns : goal.returns
returns c =
    let b = c.args.bytes.now in
    let i = c.args.i in
    let e : get_or b (2 * i) 0 + get_or b (2 * i + 1) 0 * 256 ≡ get_or b (2 * i) 0 + 256 * get_or b (2 * i + 1) 0 = omega arith in
    c.from_le_bytes.ensures ∙ e ∙ word_at b i c.requires
