use Rattle.std.proofs.Common.{◌≡◌, ◌*◌, ◌≤◌, ◌<◌, IfSome}
use Rattle.lists.specs.Decide.{view_of, count_in}
use Rattle.fitting.specs.Fitting.{fit_in}
use Rattle.mending.specs.Mending.{writes_in}
use Rattle.mending.proofs.AllLists.{Searched}
use Rattle.mends.proofs.all_mends.Given as goal

abbrev pub invariant-loop-k : goal.invariant-loop-k
invariant-loop-k g l =
    let t = l.s.layout in
    let v = view_of t (g.E.Form.words_in l.s.lent.now) in
    let n = count_in t (g.E.Form.words_in l.s.lent.now) in record {
      searched : Searched t l.s.laid.in_range v n l.members l.whole l.back (writes_in l.writes) l.k;
      few : l.members ≤ 65535 * l.k;
      known : l.k < t.lists → IfSome l.known (λ f. f ≡ fit_in t v l.k (n l.k));
    }
