-- The calls' definitions, case by case: which question decided, or what the look found.
use Prim.Native.Nat.{ℕ, ◌/◌}
use mathlib.Core.Path.{◌≡◌, refl}
use mathlib.Core.List.{List, []}
use mathlib.Core.Bool.{true, false}
use lib.ListN.{length, take, drop}
use borrow.Author.Tests.{eq-eqb, ne_eqb}
use Rattle.stores.specs.Stores.{refuse, stores, in_row}
use Rattle.std.specs.Prelude.{Ok, Err}
use Rattle.layout.specs.declared.Refusal.{Refusal}
use Rattle.layout.specs.declared.Refusal.TheVariants.{Range, Size}
use Rattle.layout.specs.declared.Layout.{Layout}
use Rattle.layout.specs.Words.{opened, in_range, size_of, formatted, record_at, number_of}
use Rattle.requests.specs.declared.Site.{Site}
use Rattle.requests.specs.declared.Request.TheVariants.{Check, Whole, Member, Gap, Gaps, Mark}
use Rattle.requests.specs.Requests.{look_of, at_site}
use Rattle.edits.specs.Edits.{insert_writes, chain, delete_writes, mark_writes, free_from}
use Rattle.recovery.specs.Plan.{recover_of, recover_plan}
use Rattle.calls.specs.Calls.{format_plan, check_answer, length_answer, read_number, read_words, read_start, insert_plan, several_plan, delete_plan, mark_plan}

-- format: the numbers are out of range, the length is not exact, done
module _ (l : Layout) (w : List ℕ) where
  pub format-range : in_range l ≡ false → format_plan l w ≡ refuse Range
  unfolding format_plan
  format-range e = rw e

  pub format-exact : in_range l ≡ true → (length w ≡ size_of l → ⊥) → format_plan l w ≡ refuse Size
  unfolding format_plan
  format-exact e h = rw (e, ne_eqb _ _ h)

  pub format-done : in_range l ≡ true → length w ≡ size_of l → format_plan l w ≡ stores (in_row 0 (formatted l))
  unfolding format_plan
  format-done e h = rw (e, eq-eqb _ _ h)

module _ (w : List ℕ) where
  pub check-refused : {n : Refusal} → look_of w Check ≡ Err n → Err n ≡ check_answer w
  unfolding check_answer
  check-refused e = rw e

  pub check-at : {l : Layout} {t : Site} → look_of w Check ≡ at_site l t → Ok tt ≡ check_answer w
  unfolding check_answer
  check-at e = rw e

  module _ (k : ℕ) where
    pub length-refused : {n : Refusal} → look_of w (Whole k) ≡ Err n → Err n ≡ length_answer w k
    unfolding length_answer
    length-refused e = rw e

    pub length_at : {l : Layout} {t : Site} → look_of w (Whole k) ≡ at_site l t → Ok t.count ≡ length_answer w k
    unfolding length_answer
    length_at e = rw e

    module _ (p : ℕ) where
      pub number-refused : {n : Refusal} → look_of w (Member k p) ≡ Err n → number_of n ≡ read_number w k p
      unfolding read_number
      number-refused e = rw e

      pub number_at : {l : Layout} {t : Site} → look_of w (Member k p) ≡ at_site l t → 0 ≡ read_number w k p
      unfolding read_number
      number_at e = rw e

      pub read-refused : {n : Refusal} → look_of w (Member k p) ≡ Err n → ([] ≡ read_words w k p) × (0 ≡ read_start w k p)
      unfolding read_words read_start
      read-refused e = rw e (refl, refl)

      pub read_at : {l : Layout} {t : Site} → look_of w (Member k p) ≡ at_site l t
          → (take l.width (drop (record_at l t.cell) w) ≡ read_words w k p) × (record_at l t.cell ≡ read_start w k p)
      unfolding read_words read_start
      read_at e = rw e (refl, refl)

      pub delete-refused : {n : Refusal} → look_of w (Member k p) ≡ Err n → delete_plan w k p ≡ refuse n
      unfolding delete_plan
      delete-refused e = rw e

      pub delete-at : {l : Layout} {t : Site} → look_of w (Member k p) ≡ at_site l t → delete_plan w k p ≡ stores (delete_writes l k t)
      unfolding delete_plan
      delete-at e = rw e

      module _ (c : ℕ) (words : List ℕ) where
        pub insert-refused : {n : Refusal} → look_of w (Gap k p c (length words)) ≡ Err n → insert_plan w k p c words ≡ refuse n
        unfolding insert_plan
        insert-refused e = rw e

        pub insert-at : {l : Layout} {t : Site} → look_of w (Gap k p c (length words)) ≡ at_site l t → insert_plan w k p c words ≡ stores (insert_writes l k t words)
        unfolding insert_plan
        insert-at e = rw e

        pub several-refused : {n : Refusal} → look_of w (Gaps k p c (length words)) ≡ Err n → several_plan w k p c words ≡ refuse n
        unfolding several_plan
        several-refused e = rw e

        pub several-at : {l : Layout} {t : Site} → look_of w (Gaps k p c (length words)) ≡ at_site l t
            → several_plan w k p c words ≡ stores (chain l k t.before t.after t.count (free_from l w c (length words / l.width)) words)
        unfolding several_plan
        several-at e = rw e

  module _ (c : ℕ) where
    pub mark-refused : {n : Refusal} → look_of w (Mark c) ≡ Err n → mark_plan w c ≡ refuse n
    unfolding mark_plan
    mark-refused e = rw e

    pub mark-at : {l : Layout} {t : Site} → look_of w (Mark c) ≡ at_site l t → mark_plan w c ≡ stores (mark_writes l t.cell)
    unfolding mark_plan
    mark-at e = rw e

  -- recover: a store that is not opened, or a plan by its layout
  pub recover-shut : {n : Refusal} → opened w ≡ Err n → recover_plan w ≡ refuse n
  unfolding recover_plan
  recover-shut e = rw e

  pub recover-open : {l : Layout} → opened w ≡ Ok l → recover_plan w ≡ recover_of l w
  unfolding recover_plan
  recover-open e = rw e
