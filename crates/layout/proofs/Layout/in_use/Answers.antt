-- `layout::Layout::in_use` meets its contract.
use mathlib.Core.Path.{ap}
use mathlib.Core.Bool.{Bool, not, ◌||◌}
use Rattle.layout.specs.Words.{is_worn}
use Rattle.layout.proofs.Layout.in_use.Goals as goal

pub returns : goal.returns
returns c = ap (λ (b : Bool). not (b || is_worn c.args.ident)) c.is_free.ensures
