-- The statement on counts holds, for the calls on words and from C; and a count and a link altered together can be lost, by calculation.
use Prim.Native.Nat.{ℕ, ◌≤◌}
use mathlib.Core.Path.{◌≡◌, refl, ap, ◌∙◌, sym, subst}
use mathlib.Core.List.{List, [], ◌∷◌}
use lib.ListN.{drop}
use borrow.Author.Tests.{le-ltb}
use Rattle.std.specs.Prelude.{Ok}
use Rattle.sequences.specs.Sequence.{steps, trail, range, filter}
use Rattle.calls.specs.Answers.{answer_of}
use Rattle.stores.specs.declared.Outcome.TheVariants.{Done}
use Rattle.stores.specs.Stores.{Write, write, run, Plan, stores, applied, in_row, words_after}
use Rattle.stores.proofs.Laws.{applied-all}
use Rattle.encoding.specs.Bytes.{words_in}
use Rattle.layout.specs.Words.{is_node, check_words, node_at, cell_at, size_of, marked, in_range, opened_by, layout_of}
use Rattle.layout.proofs.Laws.{opened-open}
use Rattle.lists.specs.Lists.{asked}
use Rattle.lists.specs.Decide.{turn, holds, all_hold, members, blank_from, ordered_in, sound_in}
use Rattle.requests.specs.Requests.{site_in, look_of}
use Rattle.recovery.specs.Fits.{wrong, few_wrong, same, has_count, fit_of}
use Rattle.recovery.specs.Plan.{joined, is_in, blanks_asked, recover_stores, fitting_of, refusal_from, recover_of, recover_plan, differing}
use Rattle.recovery.proofs.Whole.{accepted-plan}
use Rattle.calls.specs.Calls.{check_answer}
use Rattle.calls.proofs.Calls.{check_sound}
use Rattle.courses.proofs.Single.{planned, recover-few}
use Rattle.courses.proofs.Standing.{Standing, standing-plan, standing-after}
use Rattle.byte_calls.specs.Interface.{code_of}
use Rattle.byte_courses.proofs.ByteCourse.{recover-plan, recover-words}
use Rattle.counting.specs.Counting.{single, unlinked, emptied, Counting}
use Rattle.counting.proofs.Decided.{refuses, before, several-before}
use Rattle.counting.proofs.Whole.{comes_back}

-- after any number of its stores a plan is the rest of it
later : (w : List ℕ) (ps : List Write) → recover_plan w ≡ stores ps → (m : ℕ) → recover_plan (applied ps m w) ≡ stores (drop m ps)
later w ps e m =
    let l = layout_of w in
    let t = fitting_of l w in
    let p = planned w ps e in
    let s : Standing l t w = record { opens = p.0; size = (opened-open w l p.0).3; accepted = p.1 } in
    let a = standing-after l t w s m in
    subst (λ (qs : List Write). recover_plan (applied qs m w) ≡ stores (drop m qs)) (sym p.2)
    (standing-plan l t (applied (recover_stores l w t) m w) a.0 ∙ ap stores a.1)

-- the store that is lost
single-check : check_answer single ≡ Ok tt
unfolding range filter trail is_node check_words node_at cell_at size_of marked in_range opened_by turn holds all_hold members blank_from ordered_in sound_in site_in look_of check_answer
single-check = refl

abbrev lost : List Write
lost = write 10 0 ∷ write 12 0 ∷ write 15 0 ∷ []

unlinked-plan : recover_plan unlinked ≡ stores lost
unfolding range filter steps trail in_row is_node check_words node_at cell_at size_of marked in_range opened_by asked wrong few_wrong same has_count fit_of joined is_in blanks_asked refusal_from recover_of recover_plan
unlinked-plan = refl

lost-whole : (m : ℕ) → 3 ≤ m → (answer_of (stores lost) m ≡ Ok (Done 3)) × (words_after (stores lost) m unlinked ≡ emptied)
unfolding run
lost-whole m h = (rw (le-ltb m 3 h), applied-all lost m unlinked h)

pub counting : Counting
counting =
    record {
      chooses = λ w l o s a. accepted-plan l w s o a;
      chosen = λ w ps e. let p = planned w ps e in (layout_of w, p.0, (fitting_of (layout_of w) w, p.1, p.2));
      refuses = refuses;
      bound = recover-few;
      before = before;
      several = several-before;
      later = later;
      whole = comes_back;
      whole_in_bytes =
          λ b s b' even k c v n h i e m g.
          let r = subst (λ (y : List ℕ). (answer_of (recover_plan y) m ≡ Ok (Done (differing y (words_in b)))) × (words_after (recover_plan y) m y ≡ words_in b)) (sym e) (comes_back (words_in b) s k c v n h i m g) in
          (ap code_of (ap (λ (p : Plan). answer_of p m) (recover-plan b' even) ∙ r.0), recover-words b' m even ∙ r.1);
      link = (
        check_sound single single-check,
        λ m h. subst (λ (p : Plan). (answer_of p m ≡ Ok (Done 3)) × (words_after p m unlinked ≡ emptied)) (sym unlinked-plan) (lost-whole m h),
      );
    }
