-- Format is the same plan as that of the words: it answers and leaves what the definitions of crate calls say.
use Prim.Native.Nat.{ℕ}
use mathlib.Core.Path.{◌≡◌, refl, ap, ◌∙◌, sym}
use mathlib.Core.List.{List}
use mathlib.Core.Bool.{Bool, true, false}
use lib.Dec.{eqb}
use lib.ListN.{length}
use borrow.Author.Tests.{eqb-true}
use Rattle.std.specs.Prelude.{Ok, Err}
use Rattle.stores.specs.declared.Write.{Write}
use Rattle.stores.specs.Stores.{Plan, refuse, stores, run, in_row}
use Rattle.stores.proofs.Formatting.{row-all}
use Rattle.encoding.specs.Bytes.{words_in, whole, byte_writes}
use Rattle.encoding.proofs.Laws.{words-run}
use Rattle.layout.specs.declared.Layout.{Layout}
use Rattle.layout.specs.declared.Refusal.{Refusal}
use Rattle.layout.specs.declared.Refusal.TheVariants.{Range, Size}
use Rattle.layout.specs.Words.{ask, in_range, size_of, formatted}
use Rattle.layout.proofs.Laws.{length-formatted}
use Rattle.requests.proofs.First.{asked-yes}
use Rattle.calls.specs.Answers.{formatted_words, formatted_of}
use Rattle.calls.specs.Calls.{format_plan, format_answer, format_words}
use Rattle.byte_calls.specs.Plans.{whole_bytes, byte_format}

-- a refusal, and all stores of a plan
pub format-refused : {p : Plan} {n : Refusal} (b : List ℕ) → p ≡ refuse n → (Err n ≡ formatted_of p) × (b ≡ whole_bytes p b)
format-refused b e = rw e (refl, refl)

pub format-run
    : {p : Plan} {ps : List Write} {b' : List ℕ} (b : List ℕ) → p ≡ stores ps → b' ≡ run (byte_writes ps) b
    → (Ok tt ≡ formatted_of p) × (b' ≡ whole_bytes p b)
format-run b e f = (ap formatted_of (sym e), f ∙ ap (λ (p : Plan). whole_bytes p b) (sym e))

module _ (l : Layout) (b : List ℕ) (h : whole b ≡ true) where
  pub whole-plan : byte_format l b ≡ format_plan l (words_in b)
  unfolding byte_format
  whole-plan = asked-yes (whole b) (refuse Size) (format_plan l (words_in b)) h

  -- the answer
  pub format-answer : formatted_of (byte_format l b) ≡ format_answer l (words_in b)
  unfolding format_plan format_answer
  format-answer = ap formatted_of whole-plan ∙ by (in_range l) (eqb (length (words_in b)) (size_of l))
    where
      by : (r e : Bool)
          → formatted_of (ask r (refuse Range) (ask e (refuse Size) (stores (in_row 0 (formatted l))))) ≡ ask r (Err Range) (ask e (Err Size) (Ok tt))
      by true true = refl
      by true false = refl
      by false e = refl

  -- the words
  pub format-words : words_in (whole_bytes (byte_format l b) b) ≡ format_words l (words_in b)
  unfolding format_plan format_answer
  format-words = ap (λ (p : Plan). words_in (whole_bytes p b)) whole-plan ∙ by (in_range l) (eqb (length (words_in b)) (size_of l)) refl
    where
      by : (r e : Bool) → eqb (length (words_in b)) (size_of l) ≡ e
          → words_in (whole_bytes (ask r (refuse Range) (ask e (refuse Size) (stores (in_row 0 (formatted l))))) b)
          ≡ formatted_words l (words_in b) (ask r (Err Range) (ask e (Err Size) (Ok tt)))
      by true true z = words-run (in_row 0 (formatted l)) b ∙ row-all (formatted l) (words_in b) (length-formatted l ∙ sym (eqb-true _ _ z))
      by true false z = refl
      by false e z = refl
