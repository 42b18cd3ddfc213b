-- `layout::Layout::check_words` meets its contract.
use mathlib.Core.Path.{refl}
use Rattle.layout.specs.Words.{check_words}
use Rattle.layout.proofs.Layout.check_words.Goals as goal

pub returns : goal.returns
unfolding check_words
returns c = refl
