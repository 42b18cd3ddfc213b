-- The store goes to a word, since each of the list does.
use Rattle.std.proofs.Common.{◌<◌, length, arith}
use Rattle.sequences.proofs.Members.{all-nth}
use Rattle.stores.specs.Stores.{write}
use Rattle.runs.proofs.step.Goals as goal

pub put-requires : goal.put-requires
put-requires g c =
    let n = length (g.E.Form.words_in c.args.lent.now) in
    let p = all-nth (λ p. p.at < n) c.args.writes.now c.args.i (write 0 0) c.requires.inside c.requires.some in
    omega (arith, p, c.from.ensures)
