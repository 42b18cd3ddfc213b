-- `seeks::Seek::toward` meets its contract: the shorter way is ahead or behind.
use Prim.Native.Nat.{ℕ}
use mathlib.Core.Path.{ap, ◌∙◌, sym}
use mathlib.Core.Bool.{false}
use native.Mathlib.Omega.{arith}
use Rattle.seeks.specs.declared.Seek.{Seek}
use Rattle.seeks.proofs.Walk.{nearer-ahead, nearer-behind}
use Rattle.seeks.proofs.Seek.toward.Goals as goal

pub returns-then-q-n : goal.returns-then-q-n
returns-then-q-n c = let a = c.args in sym (nearer-ahead a.k a.n a.q (omega (arith, c.if-q-n.true)))

pub returns : goal.returns
returns c =
    let a = c.args in
    let back : ℕ → Seek = λ (x : ℕ). record { at = a.k; left = x; ahead = false } in
    ap back (omega arith) ∙ sym (nearer-behind a.k a.n a.q (omega arith))
