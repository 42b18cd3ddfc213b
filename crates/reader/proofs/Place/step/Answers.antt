-- `reader::Place::step`: the position is stepped below the last one, which stays.
use Rattle.std.proofs.Common.{arith}
use Rattle.std.proofs.lemmas.Grind.{common_steps}
use Rattle.reader.specs.Reader.{next_at}
use Rattle.reader.proofs.Place.step.Goals as goal

pub returns : goal.returns
unfolding next_at
returns c = grind (arith, common_steps)
