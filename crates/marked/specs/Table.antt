-- The marked store: L = 1, N = 3, P = 1 (24 words, nodes 1 to 3 at words 12, 16, 20), as a table of calls and outcomes.
use Rattle.std.specs.Prelude.{ℕ, List, [], ◌∷◌, ◌++◌, replicate, Ok, Err}
use Rattle.stores.specs.declared.Outcome.TheVariants.{Done, Stopped}
use Rattle.stores.specs.Stores.{Write, write, Plan, words_after, made_by}
use Rattle.layout.specs.declared.Layout.{Layout}
use Rattle.layout.specs.Words.{number_of, layout_for}
use Rattle.recovery.specs.Plan.{recover_plan}
use Rattle.calls.specs.Answers.{formatted_number, checked_number, counted_number, counted_length, Answer, answer_of}
use Rattle.calls.specs.Calls.{format_answer, format_words, check_answer, length_answer, read_number, read_words, insert_plan, delete_plan}

abbrev pub small : Layout
small = layout_for 1 3 1

-- a call with its arguments; an allowance last
pub data Call : Type 0 where
  format : Layout → Call
  check : Call
  length_of : ℕ → Call
  read : ℕ → ℕ → Call
  insert : ℕ → ℕ → ℕ → List ℕ → ℕ → Call
  delete : ℕ → ℕ → ℕ → Call
  recover : ℕ → Call

-- how a call ends: a refusal's number or 0, done or stopped after so many stores
pub data End : Type 0 where
  number : ℕ → End
  done : ℕ → End
  stopped : ℕ → End

abbrev pub end_of : Answer → End
end_of (Err n) = number (number_of n)
end_of (Ok (Done n)) = done n
end_of (Ok (Stopped n)) = stopped n

-- its end, the values that it gives, the stores that it makes, and the words that it leaves
pub record Outcome : Type 0 where
  pub ended : End
  pub values : List ℕ
  pub stores : List Write
  pub words : List ℕ

abbrev pub planned : Plan → ℕ → List ℕ → Outcome
planned p m w = record { ended = end_of (answer_of p m); values = []; stores = made_by p m; words = words_after p m w }

abbrev pub outcome : Call → List ℕ → Outcome
outcome (format l) w = record { ended = number (formatted_number (format_answer l w)); values = []; stores = []; words = format_words l w }
outcome check w = record { ended = number (checked_number (check_answer w)); values = []; stores = []; words = w }
outcome (length_of k) w =
    record { ended = number (counted_number (length_answer w k)); values = counted_length (length_answer w k) ∷ []; stores = []; words = w }
outcome (read k p) w = record { ended = number (read_number w k p); values = read_words w k p; stores = []; words = w }
outcome (insert k p c words m) w = planned (insert_plan w k p c words) m w
outcome (delete k p m) w = planned (delete_plan w k p) m w
outcome (recover m) w = planned (recover_plan w) m w

pub record Row : Type 0 where
  pub words : List ℕ
  pub call : Call
  pub outcome : Outcome

-- words 0 to 7, then the header, then nodes 1 to 3
abbrev pub store : List ℕ → List ℕ → List ℕ → List ℕ → List ℕ
store header node1 node2 node3 = 82 ∷ 66 ∷ 83 ∷ 1 ∷ 1 ∷ 3 ∷ 1 ∷ 0 ∷ (header ++ (node1 ++ (node2 ++ node3)))

abbrev pub cell : ℕ → ℕ → ℕ → ℕ → List ℕ
cell a b c d = a ∷ b ∷ c ∷ d ∷ []

-- the words of each row: when cut, and when done or recovered
abbrev pub c1 : List ℕ
c1 = 82 ∷ 66 ∷ 83 ∷ 1 ∷ 1 ∷ 3 ∷ 1 ∷ 0 ∷ 42400 ∷ 0 ∷ 0 ∷ 0 ∷ replicate 12 0

abbrev pub c2 : List ℕ
c2 = store (cell 42400 2 2 1) (cell 0 0 0 0) (cell 42400 0 0 700) (cell 0 0 0 0)

abbrev pub c3 : List ℕ
c3 = store (cell 42400 2 3 2) (cell 0 0 0 0) (cell 42400 3 0 700) (cell 42400 0 2 512)

abbrev pub c4cut : List ℕ
c4cut = store (cell 42400 2 2 2) (cell 0 0 0 0) (cell 42400 0 0 700) (cell 42400 0 2 512)

abbrev pub c4 : List ℕ
c4 = store (cell 42400 2 2 1) (cell 0 0 0 0) (cell 42400 0 0 700) (cell 0 0 2 0)

abbrev pub c5cut : List ℕ
c5cut = store (cell 42400 2 2 2) (cell 0 0 0 0) (cell 42400 3 0 700) (cell 42400 0 2 512)

abbrev pub c6 : List ℕ
c6 = store (cell 42400 3 3 1) (cell 0 0 0 0) (cell 0 3 0 0) (cell 42400 0 0 512)

abbrev pub c6old : List ℕ
c6old = store (cell 42400 3 3 1) (cell 0 0 0 0) (cell 0 3 0 700) (cell 42400 0 0 512)

abbrev pub c6cut : List ℕ
c6cut = store (cell 42400 2 3 2) (cell 0 0 0 0) (cell 42400 3 0 700) (cell 42400 0 0 512)

abbrev pub c7cut : List ℕ
c7cut = store (cell 42400 3 3 2) (cell 0 0 0 0) (cell 42400 3 0 700) (cell 42400 0 0 512)

abbrev pub c9 : List ℕ
c9 = store (cell 42400 1 2 1) (cell 42400 0 0 0) (cell 42400 0 0 700) (cell 0 0 0 0)

-- with the count n: the forward links lead through cell 1, the back links through 2 and 3
abbrev pub apart : ℕ → List ℕ
apart n = store (cell 42400 1 3 n) (cell 42400 0 0 900) (cell 42400 3 0 700) (cell 42400 0 2 512)

abbrev pub apart1 : List ℕ
apart1 = store (cell 42400 1 1 1) (cell 42400 0 0 900) (cell 0 3 0 0) (cell 0 0 2 0)

abbrev pub apart2 : List ℕ
apart2 = store (cell 42400 2 3 2) (cell 0 0 0 0) (cell 42400 3 0 700) (cell 42400 0 2 512)

-- C3 with another count and another identifier of cell 2
abbrev pub c3both : List ℕ
c3both = store (cell 42400 2 3 9) (cell 0 0 0 0) (cell 7 3 0 700) (cell 42400 0 2 512)

abbrev pub c3count : List ℕ
c3count = store (cell 42400 2 3 9) (cell 0 0 0 0) (cell 42400 3 0 700) (cell 42400 0 2 512)

abbrev pub c10 : List ℕ
c10 = store (cell 42400 9 9 2) (cell 0 0 0 0) (cell 42400 3 0 700) (cell 42400 0 2 512)

-- C1. "Formatted: 82 66 83 1 1 3 1 0 42400 0 0 0, then twelve zeros."
abbrev pub rows1 : List Row
rows1 =
    record { words = replicate 24 7; call = format small; outcome = record { ended = number 0; values = []; stores = []; words = c1 } }
    ∷ record { words = c1; call = check; outcome = record { ended = number 0; values = []; stores = []; words = c1 } }
    ∷ record { words = c1; call = length_of 0; outcome = record { ended = number 0; values = 0 ∷ []; stores = []; words = c1 } }
    ∷ record { words = c1; call = read 0 0; outcome = record { ended = number 7; values = []; stores = []; words = c1 } }
    ∷ []

-- C2. "C1, insert record 700 at position 0 from cell 2: seven stores, word 19 = 700, 17 = 0, 18 = 0, 16 = 42400, 11 = 1, 9 = 2,
-- 10 = 2."
abbrev pub row2 : Row
row2 =
    record {
      words = c1;
      call = insert 0 0 2 (700 ∷ []) 65535;
      outcome =
          record {
            ended = done 7;
            values = [];
            stores = write 19 700 ∷ write 17 0 ∷ write 18 0 ∷ write 16 42400 ∷ write 11 1 ∷ write 9 2 ∷ write 10 2 ∷ [];
            words = c2;
          };
    }

-- C3. "C2, insert 512 at position 1 from cell 2: cell 3 is used; 23 = 512, 21 = 0, 22 = 2, 20 = 42400, 11 = 2, 17 = 3, 10 = 3."
abbrev pub rows3 : List Row
rows3 =
    record {
      words = c2;
      call = insert 0 1 2 (512 ∷ []) 7;
      outcome =
          record {
            ended = done 7;
            values = [];
            stores = write 23 512 ∷ write 21 0 ∷ write 22 2 ∷ write 20 42400 ∷ write 11 2 ∷ write 17 3 ∷ write 10 3 ∷ [];
            words = c3;
          };
    }
    ∷ record { words = c3; call = check; outcome = record { ended = number 0; values = []; stores = []; words = c3 } }
    ∷ record { words = c3; call = read 0 1; outcome = record { ended = number 0; values = 512 ∷ []; stores = []; words = c3 } }
    ∷ []

-- C4. "C3 cut after 5 stores: recovery gives 700 alone; it stores 11 = 1, 20 = 0." "C4 gains the store 23 = 0"
abbrev pub rows4 : List Row
rows4 =
    record {
      words = c2;
      call = insert 0 1 2 (512 ∷ []) 5;
      outcome =
          record {
            ended = stopped 5;
            values = [];
            stores = write 23 512 ∷ write 21 0 ∷ write 22 2 ∷ write 20 42400 ∷ write 11 2 ∷ [];
            words = c4cut;
          };
    }
    ∷ record {
      words = c4cut;
      call = recover 65535;
      outcome = record { ended = done 3; values = []; stores = write 11 1 ∷ write 20 0 ∷ write 23 0 ∷ []; words = c4 };
    }
    ∷ record { words = c4; call = check; outcome = record { ended = number 0; values = []; stores = []; words = c4 } }
    ∷ record { words = c4; call = length_of 0; outcome = record { ended = number 0; values = 1 ∷ []; stores = []; words = c4 } }
    ∷ record { words = c4; call = read 0 0; outcome = record { ended = number 0; values = 700 ∷ []; stores = []; words = c4 } }
    ∷ []

-- C5. "C3 cut after 6: recovery gives 700, 512; it stores 10 = 3."
abbrev pub rows5 : List Row
rows5 =
    record {
      words = c2;
      call = insert 0 1 2 (512 ∷ []) 6;
      outcome =
          record {
            ended = stopped 6;
            values = [];
            stores = write 23 512 ∷ write 21 0 ∷ write 22 2 ∷ write 20 42400 ∷ write 11 2 ∷ write 17 3 ∷ [];
            words = c5cut;
          };
    }
    ∷ record {
      words = c5cut;
      call = recover 65535;
      outcome = record { ended = done 1; values = []; stores = write 10 3 ∷ []; words = c3 };
    }
    ∷ record { words = c3; call = length_of 0; outcome = record { ended = number 0; values = 2 ∷ []; stores = []; words = c3 } }
    ∷ record { words = c3; call = read 0 0; outcome = record { ended = number 0; values = 700 ∷ []; stores = []; words = c3 } }
    ∷ []

-- C6. "From C3, delete position 0: 22 = 0, 9 = 3, 11 = 1, 16 = 0. Cut after 1: both records stay, one store, 22 = 2." "C6's delete .. 19 = 0".
-- Without that store it is an older store, "older stores get so by recovery".
abbrev pub rows6 : List Row
rows6 =
    record {
      words = c3;
      call = delete 0 0 5;
      outcome =
          record { ended = done 5; values = []; stores = write 22 0 ∷ write 9 3 ∷ write 11 1 ∷ write 16 0 ∷ write 19 0 ∷ []; words = c6 };
    }
    ∷ record {
      words = c3;
      call = delete 0 0 4;
      outcome =
          record { ended = stopped 4; values = []; stores = write 22 0 ∷ write 9 3 ∷ write 11 1 ∷ write 16 0 ∷ []; words = c6old };
    }
    ∷ record { words = c6old; call = check; outcome = record { ended = number 6; values = []; stores = []; words = c6old } }
    ∷ record {
      words = c6old;
      call = recover 65535;
      outcome = record { ended = done 1; values = []; stores = write 19 0 ∷ []; words = c6 };
    }
    ∷ record { words = c3; call = delete 0 0 1; outcome = record { ended = stopped 1; values = []; stores = write 22 0 ∷ []; words = c6cut } }
    ∷ record {
      words = c6cut;
      call = recover 65535;
      outcome = record { ended = done 1; values = []; stores = write 22 2 ∷ []; words = c3 };
    }
    ∷ []

-- C7. "The same cut after 2: 512 alone; stores 11 = 1, 16 = 0." "C7's recovery 19 = 0"
abbrev pub rows7 : List Row
rows7 =
    record {
      words = c3;
      call = delete 0 0 2;
      outcome = record { ended = stopped 2; values = []; stores = write 22 0 ∷ write 9 3 ∷ []; words = c7cut };
    }
    ∷ record {
      words = c7cut;
      call = recover 65535;
      outcome = record { ended = done 3; values = []; stores = write 11 1 ∷ write 16 0 ∷ write 19 0 ∷ []; words = c6 };
    }
    ∷ record { words = c6; call = check; outcome = record { ended = number 0; values = []; stores = []; words = c6 } }
    ∷ record { words = c6; call = length_of 0; outcome = record { ended = number 0; values = 1 ∷ []; stores = []; words = c6 } }
    ∷ record { words = c6; call = read 0 0; outcome = record { ended = number 0; values = 512 ∷ []; stores = []; words = c6 } }
    ∷ []

-- C8. "From C3, position 3 for insert: 7. Position 2: accepted as a position."
abbrev pub rows8 : List Row
rows8 =
    record { words = c3; call = insert 0 3 1 (9 ∷ []) 7; outcome = record { ended = number 7; values = []; stores = []; words = c3 } }
    ∷ record {
      words = c3;
      call = insert 0 2 1 (9 ∷ []) 0;
      outcome = record { ended = stopped 0; values = []; stores = []; words = c3 };
    }
    ∷ []

-- C9. "From C2, cell 1 given identifier 42400, forward 0, back 0, and word 9 = 1: two sequences fit, refused 12."
abbrev pub row9 : Row
row9 = record { words = c9; call = recover 65535; outcome = record { ended = number 12; values = []; stores = []; words = c9 } }

-- "If several fit, the one whose length equals the stored count is taken. Number 12 then means that several fit and the count is the length of none
-- or of more than one."
abbrev pub rows_counted : List Row
rows_counted =
    record { words = apart 0; call = recover 65535; outcome = record { ended = number 12; values = []; stores = []; words = apart 0 } }
    ∷ record {
      words = apart 1;
      call = recover 65535;
      outcome =
          record {
            ended = done 5;
            values = [];
            stores = write 10 1 ∷ write 16 0 ∷ write 20 0 ∷ write 19 0 ∷ write 23 0 ∷ [];
            words = apart1;
          };
    }
    ∷ record {
      words = apart 2;
      call = recover 65535;
      outcome = record { ended = done 3; values = []; stores = write 9 2 ∷ write 12 0 ∷ write 15 0 ∷ []; words = apart2 };
    }
    ∷ record { words = apart 3; call = recover 65535; outcome = record { ended = number 12; values = []; stores = []; words = apart 3 } }
    ∷ []

-- "The other word is stored before the count", "and a list with its count and one identifier altered comes back whole."
abbrev pub rows_whole : List Row
rows_whole =
    record {
      words = c3both;
      call = recover 65535;
      outcome = record { ended = done 2; values = []; stores = write 16 42400 ∷ write 11 2 ∷ []; words = c3 };
    }
    ∷ record { words = c3both; call = recover 1; outcome = record { ended = stopped 1; values = []; stores = write 16 42400 ∷ []; words = c3count } }
    ∷ record { words = c3count; call = recover 65535; outcome = record { ended = done 1; values = []; stores = write 11 2 ∷ []; words = c3 } }
    ∷ []

-- C10. "C3 with words 9 and 10 both 9: refused 11."
abbrev pub row10 : Row
row10 = record { words = c10; call = recover 65535; outcome = record { ended = number 11; values = []; stores = []; words = c10 } }

abbrev pub rows : List Row
rows =
    rows1 ++ (row2 ∷ rows3 ++ (rows4 ++ (rows5 ++ (rows6 ++ (rows7 ++ (rows8 ++ (row9 ∷ row10 ∷ (rows_counted ++ rows_whole))))))))
