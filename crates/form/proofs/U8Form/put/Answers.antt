-- `form::put`: the word stands within the bytes.
use Prim.Native.Nat.{◌+◌, ◌*◌, ◌/◌, ◌%◌}
use mathlib.Core.Path.{◌≡◌, ap, ap₂, ◌∙◌}
use native.Mathlib.Omega.{arith}
use lib.ListN.{length-set, get_or, set}
use Rattle.stores.specs.Stores.{run}
use Rattle.encoding.specs.Bytes.{byte_writes}
use Rattle.encoding.proofs.Laws.{word-inside}
use Rattle.form.proofs.U8Form.put.Goals as goal

pub overflow_mul-bytes : goal.overflow_mul-bytes
overflow_mul-bytes c = omega (arith, word-inside c.args.bytes.now c.args.i c.requires)

pub bounds-bytes-i : goal.bounds-bytes-i
bounds-bytes-i c = omega (arith, word-inside c.args.bytes.now c.args.i c.requires)

pub overflow_mul-bytes-2 : goal.overflow_mul-bytes-2
overflow_mul-bytes-2 c = omega (arith, word-inside c.args.bytes.now c.args.i c.requires)

pub overflow_add-bytes : goal.overflow_add-bytes
overflow_add-bytes c = omega (arith, word-inside c.args.bytes.now c.args.i c.requires)

pub bounds-bytes-i-2 : goal.bounds-bytes-i-2
bounds-bytes-i-2 c = simp length-set (omega (arith, word-inside c.args.bytes.now c.args.i c.requires))

pub returns : goal.returns
unfolding run byte_writes
returns c =
    let b = c.args.bytes.now in
    let i = c.args.i in
    let low : get_or c.to_le_bytes.result 0 0 ≡ c.args.v % 256 = ap (λ x. get_or x 0 0) c.to_le_bytes.ensures ∙ omega arith in
    let high : get_or c.to_le_bytes.result 1 0 ≡ c.args.v / 256 = ap (λ x. get_or x 1 0) c.to_le_bytes.ensures ∙ omega (arith, c.ranges.v.fits) in
    ap₂ (λ x y. set (set b (2 * i) x) (2 * i + 1) y) low high
