use Prim.Native.Nat.{◌*◌}
use mathlib.Core.Path.{◌≡◌}
use mathlib.Core.Bool.{true}
use Rattle.lists.specs.Decide.{blank_from}
use Rattle.walks.proofs.blank.Given as goal

abbrev pub invariant-loop-i : goal.invariant-loop-i
invariant-loop-i g l = blank_from (g.E.Form.words_in l.lent) l.a (4 * l.i) ≡ true
