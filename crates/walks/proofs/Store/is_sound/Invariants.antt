use Prim.Native.Nat.{◌*◌}
use mathlib.Core.Path.{◌≡◌}
use mathlib.Core.Bool.{true}
use Rattle.lists.specs.Decide.{view_of, count_in, all_hold}
use Rattle.walks.proofs.Store.is_sound.Given as goal

abbrev pub invariant-loop-i : goal.invariant-loop-i
invariant-loop-i g l =
    let w = g.E.Form.words_in l.self.lent.now in
    all_hold l.self.layout (view_of l.self.layout w) (count_in l.self.layout w) (2 * l.i) ≡ true
