use Rattle.std.proofs.Common.{◌≡◌, ◌*◌, ◌/◌, ◌<◌, ◌≤◌, List, length, drop}
use Rattle.stores.specs.declared.Write.{Write}
use Rattle.edits.specs.Edits.{chain_from}
use Rattle.edits.proofs.Underway.{Underway}
use Rattle.editing.proofs.insert_all.Given as goal

abbrev pub invariant-loop-i : goal.invariant-loop-i
invariant-loop-i g l =
    let f = g.E.Form in
    let ws = f.words_in l.records in
    let plan = chain_from l.l (f.words_in l.initial.lent) l.list l.fn.first (length ws / l.l.width) ws in
    (ps : List Write)
    × (l.i < l.count → Underway l.l l.list plan ps (f.words_in l.lent) l.t (drop (l.i * l.l.width) ws))
    × (l.count ≤ l.i → plan ≡ ps)
    × (l.made ≡ length ps) × (l.made ≤ l.allowance) × (l.lent ≡ f.after ps l.initial.lent) × (l.i ≤ l.count)
