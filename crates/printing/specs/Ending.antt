-- How a call ended, as text.
use Rattle.std.specs.Prelude.{ℕ, List, ◌++◌, codes, Ok, Err}
use Rattle.std.specs.Fmt.{decimal}
use Rattle.layout.specs.Words.{number_of}
use Rattle.stores.specs.declared.Outcome.TheVariants.{Done, Stopped}
use Rattle.calls.specs.Answers.{Answer}

abbrev pub ending_text : Answer → List ℕ
ending_text (Ok (Done n)) = codes "done " ++ decimal n
ending_text (Ok (Stopped n)) = codes "stopped " ++ decimal n
ending_text (Err n) = codes "refused " ++ decimal (number_of n)
