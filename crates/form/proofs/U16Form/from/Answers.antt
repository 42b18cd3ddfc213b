-- `form::from`: the words of a part are those from its start on.
use Prim.Native.Nat.{◌-◌}
use native.Mathlib.Omega.{arith}
use lib.ListN.{length, drop, length-drop}
use lib.Seq.{take_all}
use Rattle.form.proofs.U16Form.from.Goals as goal

pub returns : goal.returns
returns c =
    let w = c.args.words.now in
    let a = c.args.a in
    take_all (length w - a) (drop a w) (omega (arith, length-drop a w))
