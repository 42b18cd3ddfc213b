use Rattle.spans.proofs.Sums.{Adding}
use Rattle.walks.proofs.few_blank.Given as goal

abbrev pub invariant-loop-i : goal.invariant-loop-i
invariant-loop-i g l = Adding (g.E.Form.words_in l.lent) l.a l.n l.i l.sum
