-- What each call answers, with which number, and what it leaves in the lent words: its questions in order, the first no decides.
use Rattle.std.specs.Prelude.{ℕ, ◌/◌, List, [], eqb, length, take, drop, Result, Ok, Err}
use Rattle.stores.specs.Stores.{Plan, refuse, stores, in_row}
use Rattle.layout.specs.declared.Layout.{Layout}
use Rattle.layout.specs.declared.Refusal.{Refusal}
use Rattle.layout.specs.declared.Refusal.TheVariants.{Range, Size}
use Rattle.layout.specs.Words.{ask, in_range, size_of, record_at, formatted, number_of}
use Rattle.requests.specs.declared.Look.{Look}
use Rattle.requests.specs.declared.Request.TheVariants.{Check, Whole, Member, Gap, Gaps, Mark}
use Rattle.requests.specs.Requests.{look_of, with_look}
use Rattle.calls.specs.declared.Figures.{Figures}
use Rattle.edits.specs.Edits.{insert_writes, chain, free_from, delete_writes, mark_writes}
use Rattle.recovery.specs.Plan.{recover_plan}
use Rattle.calls.specs.Answers.{formatted_words, needed_of, figures_of}

-- format: 3 of the numbers given to it, 4
unfoldable pub format_answer : Layout → List ℕ → Result (Unit {0}) Refusal
format_answer l w =
    ask (in_range l) (Err Range)
    (ask (eqb (length w) (size_of l)) (Err Size)
    (Ok tt))

-- its number, 0 for done
unfoldable pub format_number : Layout → List ℕ → ℕ
format_number l w =
    ask (in_range l) (number_of Range)
    (ask (eqb (length w) (size_of l)) (number_of Size)
    0)

-- the words that format leaves
abbrev pub format_words : Layout → List ℕ → List ℕ
format_words l w = formatted_words l w (format_answer l w)

-- format as a list of stores: every word of the formatted store, from the front
unfoldable pub format_plan : Layout → List ℕ → Plan
format_plan l w =
    ask (in_range l) (refuse Range)
    (ask (eqb (length w) (size_of l)) (refuse Size)
    (stores (in_row 0 (formatted l))))

-- the number of the first no, 0 for none
abbrev pub look_number : Result Look Refusal → ℕ
look_number x = with_look x (λ n. number_of n) (λ l t. 0)

-- check: 1 to 4, 6
unfoldable pub check_answer : List ℕ → Result (Unit {0}) Refusal
check_answer w = with_look (look_of w Check) Err (λ l t. Ok tt)

-- its number, 0 for sound
unfoldable pub check_number : List ℕ → ℕ
check_number w = look_number (look_of w Check)

-- length of list k: 1 to 4, 5, 6
unfoldable pub length_answer : List ℕ → ℕ → Result ℕ Refusal
length_answer w k = with_look (look_of w (Whole k)) Err (λ l t. Ok t.count)

-- its number, 0 for none, and the length, 0 if refused
unfoldable pub length_number : List ℕ → ℕ → ℕ
length_number w k = look_number (look_of w (Whole k))

unfoldable pub length_value : List ℕ → ℕ → ℕ
length_value w k = with_look (look_of w (Whole k)) (λ n. 0) (λ l t. t.count)

-- read of list k at position p: 1 to 4, 5, 6, 7. "Read's questions can also be put by a call that returns the number alone, 0
-- for none."
unfoldable pub read_number : List ℕ → ℕ → ℕ → ℕ
read_number w k p = look_number (look_of w (Member k p))

-- "Read returns a part of the lent words, starting at the record and P words long", refused an empty one at their start
unfoldable pub read_words : List ℕ → ℕ → ℕ → List ℕ
read_words w k p = with_look (look_of w (Member k p)) (λ n. []) (λ l t. take l.width (drop (record_at l t.cell) w))

unfoldable pub read_start : List ℕ → ℕ → ℕ → ℕ
read_start w k p = with_look (look_of w (Member k p)) (λ n. 0) (λ l t. record_at l t.cell)

-- insert into list k at position p from cell c: 1 to 4, 5, 6, 7, 8, 9, 10
unfoldable pub insert_plan : List ℕ → ℕ → ℕ → ℕ → List ℕ → Plan
insert_plan w k p c words =
    with_look (look_of w (Gap k p c (length words))) refuse (λ l t. stores (insert_writes l k t words))

-- insert of several records into list k from position p on, from cell c: 1 to 4, 5, 6, 7, 8, 9, 10. The stores of one record after another, in
-- the first free cells met
unfoldable pub several_plan : List ℕ → ℕ → ℕ → ℕ → List ℕ → Plan
several_plan w k p c words =
    with_look (look_of w (Gaps k p c (length words))) refuse
    (λ l t. stores (chain l k t.before t.after t.count (free_from l w c (length words / l.width)) words))

-- "For an insert of several records, give the first and the last cell in order of use and the number of word stores" of this plan; "where it
-- would refuse, its number is given"
unfoldable pub several_figures : List ℕ → ℕ → ℕ → ℕ → List ℕ → Result Figures Refusal
several_figures w k p c words =
    with_look (look_of w (Gaps k p c (length words))) Err
    (λ l t.
    let cells = free_from l w c (length words / l.width) in
    Ok (figures_of cells (length (chain l k t.before t.after t.count cells words))))

-- delete from list k at position p: 1 to 4, 5, 6, 7
unfoldable pub delete_plan : List ℕ → ℕ → ℕ → Plan
delete_plan w k p = with_look (look_of w (Member k p)) refuse (λ l t. stores (delete_writes l k t))

-- mark cell c worn: 1 to 4, 6, 8, 13. "A new exported call marks a free node with one store, answered done": it has no allowance, and makes its
-- `mark_stores`
unfoldable pub mark_plan : List ℕ → ℕ → Plan
mark_plan w c = with_look (look_of w (Mark c)) refuse (λ l t. stores (mark_writes l t.cell))

-- "for a recovery, the number of stores it will make"
abbrev pub recover_needed : List ℕ → Result ℕ Refusal
recover_needed w = needed_of (recover_plan w)
