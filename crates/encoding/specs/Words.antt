-- Lent words as they are: a word is one element, and a word store is one store.
use Rattle.std.specs.Prelude.{ℕ, List, Bool, true}
use Rattle.stores.specs.declared.Write.{Write}
use Rattle.stores.specs.Stores.{run}

abbrev pub words_in : List ℕ → List ℕ
words_in w = w

-- they are always whole words, so that nothing is asked before a call
abbrev pub whole : List ℕ → Bool
whole words = true

abbrev pub after : List Write → List ℕ → List ℕ
after ps w = run ps w
