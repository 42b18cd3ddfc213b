use Rattle.std.proofs.Common.{◌≡◌, ◌≤◌}
use Rattle.stores.proofs.Formatting.{left}
use Rattle.layout.specs.Words.{Laid, head_words, header_at, nodes_at, size_of}
use Rattle.formats.proofs.fill.Given as goal

abbrev pub invariant-loop-k : goal.invariant-loop-k
invariant-loop-k g l =
    let f = g.E.Form in
    (Laid l.l (f.words_in l.lent)) × (l.k ≤ l.l.lists) × (f.after (left l.l (header_at l.l l.k)) l.lent ≡ f.after (left l.l head_words) l.initial.lent)

abbrev pub invariant-loop-i : goal.invariant-loop-i
invariant-loop-i g l =
    let f = g.E.Form in
    let s = l.fn.l in
    (Laid s (f.words_in l.lent)) × (nodes_at s ≤ l.i) × (l.i ≤ size_of s) × (l.i-end ≡ size_of s)
    × (f.after (left s l.i) l.lent ≡ f.after (left s (nodes_at s)) l.initial.lent)
