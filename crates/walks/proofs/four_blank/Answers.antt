-- `walks::four_blank` meets its contract.
use Prim.Native.Nat.{◌+◌}
use mathlib.Core.Path.{◌≡◌}
use native.Mathlib.Nat.{add-zero}
use native.Mathlib.Omega.{arith}
use Rattle.spans.proofs.Sums.{four-blank}
use Rattle.walks.proofs.four_blank.Goals as goal

pub returns : goal.returns
returns g c =
    let s = c.args in
    let t : s.a + 2 + 1 ≡ s.a + 3 = omega arith in
    four-blank (g.E.Form.words_in s.lent.now) s.a c.from.result c.from-2.result
    (rw (c.from.ensures, c.two.ensures, add-zero))
    (rw (c.from-2.ensures, c.two-2.ensures, t))
