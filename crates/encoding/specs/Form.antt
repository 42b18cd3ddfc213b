-- What holds of either form: a run of word stores leaves what it leaves in the words.
use Rattle.std.specs.Prelude.{ℕ, ◌≤◌, ◌≡◌, List, [], ◌++◌, length}
use Rattle.stores.specs.declared.Write.{Write}
use Rattle.stores.specs.Stores.{run}

pub record FormLaws {A : Type 0} (words_in : List A → List ℕ) (after : List Write → List A → List A) : Type 0 where
  -- there are no more words than elements
  pub short : (b : List A) → length (words_in b) ≤ length b
  -- no store, and stores one after the other
  pub none : (b : List A) → after [] b ≡ b
  pub append : (ps qs : List Write) (b : List A) → after (ps ++ qs) b ≡ after qs (after ps b)
  -- read as words, the elements are what the words become
  pub words : (ps : List Write) (b : List A) → words_in (after ps b) ≡ run ps (words_in b)
