-- `form::part`: the words of a part are those from its start on.
use Prim.Native.Nat.{ℕ}
use mathlib.Core.Path.{ap}
use native.Mathlib.Nat.{add-sub_cancel_left}
use lib.ListN.{take, drop}
use Rattle.form.proofs.U16Form.part.Goals as goal

pub returns : goal.returns
returns c =
    let s = c.args in
    ap (λ (m : ℕ). take m (drop s.a s.words.now)) (add-sub_cancel_left s.a s.n)
