-- "Space and stores told beforehand. The box wants to warn the driver before a twelve-axle trailer rolls on. For an insert of several records, give
-- the first and the last cell in order of use and the number of word stores; for a recovery, the number of stores it will make. Nothing is written.
-- From C each figure is a call of its own, answered 65,536 plus it. The figures are those of the call on the same words with full allowance; where
-- it would refuse, its number is given."
--
-- All is said of the calls: of what they answer, plan and leave. "Nothing is written": the calls that tell a figure are lent the words, or the bytes,
-- to be read alone, so no contract has to say what they leave.
use Rattle.std.specs.Prelude.{ℕ, ◌+◌, ◌-◌, ◌*◌, ◌<◌, ◌≤◌, ◌≡◌, List, length, get_or, Result, Ok, Err}
use Rattle.calls.specs.Answers.{answer_of, Answer}
use Rattle.stores.specs.declared.Outcome.TheVariants.{Done}
use Rattle.stores.specs.Stores.{Write, write, refuse, stores, words_after}
use Rattle.encoding.specs.Bytes.{words_in, bytes_after}
use Rattle.layout.specs.declared.Refusal.{Refusal}
use Rattle.layout.specs.Words.{tail_words, layout_of, record_at, number_of}
use Rattle.lists.specs.Lists.{Sound}
use Rattle.edits.specs.Edited.{splice_at, FreeNodes, records_of}
use Rattle.recovery.specs.Plan.{most_stores, recover_plan, differing}
use Rattle.calls.specs.declared.Figures.{Figures}
use Rattle.calls.specs.Calls.{several_plan, several_figures, recover_needed}
use Rattle.demands.specs.Demand2.{records_in, Leaves}
use Rattle.byte_calls.specs.Plans.{record_words, byte_several, byte_figures, byte_recover, byte_needed}
use Rattle.byte_calls.specs.Interface.{code_of, first_code, last_code, stores_code, needed_code}

-- "an allowance, 0 to 65,535": the full one
abbrev pub full : ℕ
full = 65535

-- the answer of a call of which so many stores are told: it is done with them; "where it would refuse, its number is given"
abbrev pub answer_by : Result ℕ Refusal → Answer
answer_by (Ok n) = Ok (Done n)
answer_by (Err n) = Err n

abbrev pub needed_by : Result Figures Refusal → Result ℕ Refusal
needed_by (Ok f) = Ok f.stores
needed_by (Err n) = Err n

-- An insert of several records into list k of the words w, of which the cells a and b and n stores are told.
pub record Uses (w : List ℕ) (k p c : ℕ) (words : List ℕ) (a b n : ℕ) : Type 0 where
  pub sound : Sound w
  -- the cells that it uses, one for each record, P words each; a is the first and b the last
  pub cells : List ℕ
  pub some : 0 < length cells
  pub records : length words ≡ length cells * (layout_of w).width
  pub first : get_or cells 0 0 ≡ a
  pub last : get_or cells (length cells - 1) 0 ≡ b
  pub number : n ≡ length cells * (tail_words (layout_of w) + 6)
  -- they are free
  pub free : FreeNodes (layout_of w) w cells
  -- "in order of use": its stores of each next record, P + 6 of them, begin at the record of the next cell
  pub order : (ps : List Write) → several_plan w k p c words ≡ stores ps
      → (i : ℕ) → i < length cells → (get_or ps (i * (tail_words (layout_of w) + 6)) (write 0 0)).at ≡ record_at (layout_of w) (get_or cells i 0)
  -- and with full allowance it links just these in, from the position on
  pub linked : Leaves w sound k (splice_at p cells (sound.ordered.lists.sequence k))
      (splice_at p (records_of (length cells) (layout_of w).width words) (records_in w sound k)) (words_after (several_plan w k p c words) full w)

pub record Beforehand : Type 0 where
  -- "The figures are those of the call on the same words with full allowance; where it would refuse, its number is given."
  pub several : (w : List ℕ) (k p c : ℕ) (words : List ℕ)
      → answer_by (needed_by (several_figures w k p c words)) ≡ answer_of (several_plan w k p c words) full
  pub recovery : (w : List ℕ) → answer_by (recover_needed w) ≡ answer_of (recover_plan w) full
  -- "the first and the last cell in order of use and the number of word stores"
  pub uses : (w : List ℕ) (k p c : ℕ) (words : List ℕ) (f : Figures) → several_figures w k p c words ≡ Ok f → Uses w k p c words f.first f.last f.stores
  -- "for a recovery, the number of stores it will make": as many words as it changes, at most 2L + N + P × N, and none in a sound store. Where a
  -- recovery was cut after m of them, the rest is told.
  pub changes : (w : List ℕ) (n : ℕ) → recover_needed w ≡ Ok n → differing w (words_after (recover_plan w) full w) ≡ n
  pub most : (w : List ℕ) (n : ℕ) → recover_needed w ≡ Ok n → n ≤ most_stores (layout_of w)
  pub none : (w : List ℕ) → Sound w → recover_needed w ≡ Ok 0
  pub rest : (w : List ℕ) (n : ℕ) → recover_needed w ≡ Ok n → (m : ℕ) → recover_needed (words_after (recover_plan w) m w) ≡ Ok (n - m)
  -- "From C each figure is a call of its own, answered 65,536 plus it": the numbers of stores are answered as the calls themselves answer,
  pub several_in_bytes : (bytes : List ℕ) (k p c : ℕ) (records : List ℕ)
      → stores_code (byte_figures bytes k p c records) ≡ code_of (answer_of (byte_several bytes k p c records) full)
  pub recovery_in_bytes : (bytes : List ℕ) → needed_code (byte_needed bytes) ≡ code_of (answer_of (byte_recover bytes) full)
  -- a refusal by each of the three of an insert,
  pub refused_in_bytes : (bytes : List ℕ) (k p c : ℕ) (records : List ℕ) (n : Refusal) → byte_several bytes k p c records ≡ refuse n
      → let told : Result Figures Refusal = byte_figures bytes k p c records in
      (first_code told ≡ number_of n) × (last_code told ≡ number_of n) × (stores_code told ≡ number_of n)
  -- and else the cells are those that the call links in: it leaves the bytes of the words that it would leave.
  pub uses_in_bytes : (bytes : List ℕ) (k p c : ℕ) (records : List ℕ) (ps : List Write) → byte_several bytes k p c records ≡ stores ps
      → let told : Result Figures Refusal = byte_figures bytes k p c records in
      let w : List ℕ = words_in bytes in
      let words : List ℕ = record_words records in
      (a : ℕ) × (b : ℕ) × (n : ℕ) × (first_code told ≡ 65536 + a) × (last_code told ≡ 65536 + b) × (stores_code told ≡ 65536 + n)
      × Uses w k p c words a b n
      × (words_in (bytes_after (byte_several bytes k p c records) full bytes) ≡ words_after (several_plan w k p c words) full w)
