-- `form::part`: the words stand within the bytes.
use Prim.Native.Nat.{ℕ, ◌+◌, ◌*◌, ◌-◌}
use mathlib.Core.Path.{◌≡◌, ap, ◌∙◌}
use native.Mathlib.Omega.{arith}
use lib.ListN.{take, drop}
use Rattle.encoding.specs.Bytes.{words_in}
use Rattle.encoding.proofs.Laws.{length-words, words_take, words-drop}
use Rattle.form.proofs.U8Form.part.Goals as goal

pub overflow_mul-at : goal.overflow_mul-at
overflow_mul-at c = omega (arith, length-words c.args.bytes.now)

pub overflow_mul-e : goal.overflow_mul-e
overflow_mul-e c = omega (arith, length-words c.args.bytes.now)

pub overflow_add-e : goal.overflow_add-e
overflow_add-e c = omega (arith, length-words c.args.bytes.now)

pub slice_bounds-result-end : goal.slice_bounds-result-end
slice_bounds-result-end c = omega (arith, length-words c.args.bytes.now)

pub returns : goal.returns
returns c =
    let b = c.args.bytes.now in
    let a = c.args.a in
    let n = c.args.n in
    let e : 2 * a + 2 * n - 2 * a ≡ 2 * n = omega arith in
    ap (λ (m : ℕ). words_in (take m (drop (2 * a) b))) e ∙ words_take n (drop (2 * a) b) ∙ ap (take n) (words-drop a b)
