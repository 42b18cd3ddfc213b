-- Demand 3 for the calls from C. Read as words, the bytes go through the course of the calls on words.
use Prim.Native.Nat.{ℕ, ◌%◌, ◌≤◌}
use mathlib.Core.Path.{◌≡◌, refl, ap, ap₂, ◌∙◌, sym, subst}
use mathlib.Core.List.{List, [], ◌∷◌, ◌++◌, map}
use lib.ListN.{length}
use borrow.Author.Tests.{eq-eqb}
use Rattle.std.specs.Prelude.{Ok}
use Rattle.sequences.specs.Sequence.{All}
use Rattle.calls.specs.Answers.{answer_of, Answer}
use Rattle.stores.specs.declared.Outcome.TheVariants.{Done}
use Rattle.stores.specs.Stores.{Write, Plan, run, words_after, made_by}
use Rattle.stores.proofs.Laws.{run-append}
use Rattle.encoding.specs.Bytes.{words_in, byte_writes, bytes_after}
use Rattle.encoding.proofs.Laws.{words-after, length-after, byte-append, bytes-made}
use Rattle.layout.specs.Words.{layout_of}
use Rattle.lists.specs.Lists.{Ordered}
use Rattle.recovery.specs.Plan.{recover_plan}
use Rattle.courses.specs.Course.{Edit, insert, several, delete, named, edit_plan, all_stores, needed, due_words, Alteration, AllowedBut, altered_below, found, words_through, answers_through, stores_through, NotRefused}
use Rattle.courses.specs.Demand3.{Course}
use Rattle.courses.proofs.Demand3.{demand3}
use Rattle.byte_calls.specs.Plans.{byte_insert, byte_several, byte_delete, byte_recover}
use Rattle.byte_calls.specs.Interface.{code_of}
use Rattle.byte_courses.specs.ByteCourse.{byte_edit, in_words, Found, bytes_through, codes_through}
use Rattle.byte_courses.specs.ByteDemand3.{NotRefusal, ByteCourse, ByteDemand3}

-- on an even number of bytes the plans are those of the words
edit-plan : (b : List ℕ) (e : Edit) → length b % 2 ≡ 0 → byte_edit b e ≡ edit_plan (words_in b) (in_words e)
unfolding byte_insert byte_several byte_delete
edit-plan b (insert k p c rec) h = rw (eq-eqb (length b % 2) 0 h)
edit-plan b (several k p c rec) h = rw (eq-eqb (length b % 2) 0 h)
edit-plan b (delete k p) h = rw (eq-eqb (length b % 2) 0 h)

pub recover-plan : (y : List ℕ) → length y % 2 ≡ 0 → byte_recover y ≡ recover_plan (words_in y)
unfolding byte_recover
recover-plan y h = rw (eq-eqb (length y % 2) 0 h)

-- one call
pub edit-words : (b : List ℕ) (e : Edit) (m : ℕ) → length b % 2 ≡ 0 → words_in (bytes_after (byte_edit b e) m b) ≡ words_after (edit_plan (words_in b) (in_words e)) m (words_in b)
edit-words b e m h = words-after (byte_edit b e) m b ∙ ap (λ (p : Plan). words_after p m (words_in b)) (edit-plan b e h)

pub recover-words : (y : List ℕ) (m : ℕ) → length y % 2 ≡ 0 → words_in (bytes_after (byte_recover y) m y) ≡ words_after (recover_plan (words_in y)) m (words_in y)
recover-words y m h = words-after (byte_recover y) m y ∙ ap (λ (p : Plan). words_after p m (words_in y)) (recover-plan y h)

even-after : (y : List ℕ) (m : ℕ) → length y % 2 ≡ 0 → length (bytes_after (byte_recover y) m y) % 2 ≡ 0
even-after y m h = ap (λ (n : ℕ). n % 2) (length-after (byte_recover y) m y) ∙ h

-- several
even-through : (ms y : List ℕ) → length y % 2 ≡ 0 → length (bytes_through ms y) % 2 ≡ 0
unfolding bytes_through
even-through [] y h = h
even-through (m ∷ ms) y h = even-through ms (bytes_after (byte_recover y) m y) (even-after y m h)

words-through : (ms y : List ℕ) → length y % 2 ≡ 0 → words_in (bytes_through ms y) ≡ words_through ms (words_in y)
unfolding bytes_through words_through
words-through [] y h = refl
words-through (m ∷ ms) y h =
    words-through ms (bytes_after (byte_recover y) m y) (even-after y m h) ∙ ap (λ (w : List ℕ). words_through ms w) (recover-words y m h)

codes-through : (ms y : List ℕ) → length y % 2 ≡ 0 → codes_through ms y ≡ map code_of (answers_through ms (words_in y))
unfolding codes_through answers_through
codes-through [] y h = refl
codes-through (m ∷ ms) y h =
    ap₂ (λ (n : ℕ) (ns : List ℕ). n ∷ ns) (ap (λ (p : Plan). code_of (answer_of p m)) (recover-plan y h))
    (codes-through ms (bytes_after (byte_recover y) m y) (even-after y m h)
    ∙ ap (λ (w : List ℕ). map code_of (answers_through ms w)) (recover-words y m h))

-- their stores are those of the calls on words
bytes_run : (ms y : List ℕ) → length y % 2 ≡ 0 → bytes_through ms y ≡ run (byte_writes (stores_through ms (words_in y))) y
unfolding bytes_through stores_through run byte_writes
bytes_run [] y h = refl
bytes_run (m ∷ ms) y h =
    let p = recover_plan (words_in y) in
    let y₁ = bytes_after (byte_recover y) m y in
    let qs = stores_through ms (words_after p m (words_in y)) in
    bytes_run ms y₁ (even-after y m h)
    ∙ ap₂ (λ (w v : List ℕ). run (byte_writes (stores_through ms w)) v) (recover-words y m h)
    (bytes-made (byte_recover y) m y ∙ ap (λ (q : Plan). run (byte_writes (made_by q m)) y) (recover-plan y h))
    ∙ sym (run-append (byte_writes (made_by p m)) (byte_writes qs) y) ∙ ap (λ (v : List Write). run v y) (sym (byte-append (made_by p m) qs))

-- the numbers of answers that are not refused
not-refusals : (answers : List Answer) → All NotRefused answers → All NotRefusal (map code_of answers)
not-refusals [] h = tt
not-refusals (a ∷ answers) h = ((a, h.0, refl), not-refusals answers h.1)

module _ (b : List ℕ) (h : length b % 2 ≡ 0) (s : Ordered (words_in b)) (e : Edit) (m : ℕ) (alts : ℕ → Alteration)
    (allowed : AllowedBut (named (in_words e)) (layout_of (words_in b)).lists s.lists.sequence alts)
    (y : List ℕ) (f : Found b e m alts y) (ms : List ℕ) (last : ℕ) (enough : needed (byte_recover (bytes_through ms y)) ≤ last) where
  abbrev runs : List ℕ
  runs = ms ++ last ∷ []

  found-words : words_in y ≡ found (words_in b) (in_words e) m alts
  found-words =
      f.words
      ∙ ap (λ (w : List ℕ). altered_below (layout_of (words_in b)) (named (in_words e)) alts (layout_of (words_in b)).lists w) (edit-words b e m h)

  last-plan : byte_recover (bytes_through ms y) ≡ recover_plan (words_through ms (words_in y))
  last-plan = recover-plan (bytes_through ms y) (even-through ms y f.even) ∙ ap recover_plan (words-through ms y f.even)

  -- the course of the words
  abbrev Ends : List ℕ → Answer → Type 0
  Ends z r = Course (words_in b) s (named (in_words e)) (due_words (words_in b) (in_words e) m) (words_in y) ms last z r

  course : Ends (words_through runs (words_in y)) (answer_of (recover_plan (words_through ms (words_in y))) last)
  course = demand3 (words_in y) ms last (words_in b) s (in_words e) m alts allowed found-words (subst (λ (p : Plan). needed p ≤ last) last-plan enough)

  done : answer_of (recover_plan (words_through ms (words_in y))) last ≡ Ok (Done (needed (byte_recover (bytes_through ms y))))
  done = course.done ∙ ap (λ (p : Plan). Ok (Done (needed p))) (sym last-plan)

  byte-course
      : ByteCourse b s (named (in_words e)) (due_words (words_in b) (in_words e) m) y ms last (bytes_through runs y)
      (code_of (answer_of (byte_recover (bytes_through ms y)) last))
  byte-course =
      record {
        accepted =
            subst (All NotRefusal) (sym (codes-through ms y f.even)) (not-refusals (answers_through ms (words_in y)) course.accepted);
        done = ap code_of (ap (λ (p : Plan). answer_of p last) last-plan ∙ done);
        words =
            subst (Ends (words_in (bytes_through runs y))) done
            (subst (λ (z : List ℕ). Ends z (answer_of (recover_plan (words_through ms (words_in y))) last)) (sym (words-through runs y f.even)) course);
        numbers = codes-through ms y f.even;
        same =
            bytes_run runs y f.even
            ∙ ap (λ (ps : List Write). run (byte_writes ps) y) (course.made ∙ ap all_stores (sym (recover-plan y f.even)));
      }

pub byte-demand3 : ByteDemand3
byte-demand3 = byte-course
