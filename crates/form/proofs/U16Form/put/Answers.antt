-- `form::put`: the store of one word.
use mathlib.Core.Path.{refl}
use Rattle.stores.specs.Stores.{run}
use Rattle.form.proofs.U16Form.put.Goals as goal

pub returns : goal.returns
unfolding run
returns c = refl
