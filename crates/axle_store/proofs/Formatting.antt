-- Format on words: its plan, carried out, answers and leaves what the definitions say.
use Rattle.std.proofs.Common.{◌≡◌, ℕ, List, length, Bool, true, false, Ok, Err, refl, sym, ◌∙◌}
use lib.Dec.{eqb}
use borrow.Author.Tests.{eqb-true}
use Rattle.layout.specs.declared.Layout.{Layout}
use Rattle.layout.specs.declared.Refusal.TheVariants.{Range, Size}
use Rattle.layout.specs.Words.{ask, in_range, size_of, formatted}
use Rattle.layout.proofs.Laws.{length-formatted}
use Rattle.stores.specs.Stores.{refuse, stores, run, in_row, whole_by}
use Rattle.stores.proofs.Formatting.{row-all}
use Rattle.calls.specs.Answers.{formatted_words, formatted_of}
use Rattle.calls.specs.Calls.{format_plan, format_answer, format_words}

module _ (l : Layout) (w : List ℕ) where
  pub format-answer : formatted_of (format_plan l w) ≡ format_answer l w
  unfolding format_plan format_answer
  format-answer = by (in_range l) (eqb (length w) (size_of l))
    where
      by : (r e : Bool)
          → formatted_of (ask r (refuse Range) (ask e (refuse Size) (stores (in_row 0 (formatted l))))) ≡ ask r (Err Range) (ask e (Err Size) (Ok tt))
      by true true = refl
      by true false = refl
      by false e = refl

  pub format-words : whole_by run (format_plan l w) w ≡ format_words l w
  unfolding format_plan format_answer
  format-words = by (in_range l) (eqb (length w) (size_of l)) refl
    where
      by : (r e : Bool) → eqb (length w) (size_of l) ≡ e
          → whole_by run (ask r (refuse Range) (ask e (refuse Size) (stores (in_row 0 (formatted l))))) w
          ≡ formatted_words l w (ask r (Err Range) (ask e (Err Size) (Ok tt)))
      by true true z = row-all (formatted l) w (length-formatted l ∙ sym (eqb-true _ _ z))
      by true false z = refl
      by false e z = refl
