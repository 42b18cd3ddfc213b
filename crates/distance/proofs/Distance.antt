-- The statement on altered words holds, for the calls on words and for those from C; and four altered words can pass, by calculation.
use Prim.Native.Nat.{ℕ, ◌%◌, ◌≤◌}
use mathlib.Core.Path.{◌≡◌, refl, ap, ◌∙◌, sym, subst}
use mathlib.Core.List.{List}
use mathlib.Core.Logic.{◌↔◌}
use native.Mathlib.Decide.{ℕ_discrete}
use native.Mathlib.Omega.{arith}
use lib.ListN.{length, get_or, set}
use lib.Seq.{get_or-set_other}
use borrow.Author.Tests.{eq-eqb}
use Rattle.std.specs.Prelude.{Ok}
use Rattle.sequences.specs.Sequence.{trail, range, filter}
use Rattle.stores.specs.Stores.{run, Plan, refuse, stores}
use Rattle.encoding.specs.Bytes.{words_in, byte_writes, bytes_after}
use Rattle.layout.specs.Words.{is_node, check_words, node_at, cell_at, ident_at, worn_ident, size_of, marked, layout_of, layout_for, in_range, opened_by, empty_headers, formatted}
use Rattle.lists.specs.Lists.{Sound}
use Rattle.lists.specs.Decide.{turn, holds, all_hold, members, blank_from, ordered_in, sound_in}
use Rattle.requests.specs.Requests.{site_in, look_of}
use Rattle.recovery.specs.Plan.{recover_plan, differing}
use Rattle.calls.specs.Answers.{checked_number, answer_of}
use Rattle.calls.specs.Calls.{check_answer}
use Rattle.calls.proofs.Calls.{check_sound}
use Rattle.byte_calls.specs.Plans.{byte_check, byte_recover}
use Rattle.byte_calls.specs.Interface.{code_of, check_code}
use Rattle.byte_courses.proofs.ByteCourse.{recover-plan, recover-words}
use Rattle.distance.specs.Distance.{Place, header, identifier, Changed, PutBack, BytesPutBack, Distance}
use Rattle.distance.proofs.Noticed.{noticed}
use Rattle.distance.proofs.PutBack.{put-back}
use Rattle.distance.proofs.Idents.{member-worn}
use Rattle.distance.proofs.Outside.{worn-passes, freed-passes, listed-freed, kept-noticed}

-- A formatted store of one list and one node, and the same in which the node is a member. Its links, 0, need no change: both are the header.
empty : List ℕ
empty = formatted (layout_for 1 1 1)

single : List ℕ
single = set (set (set (set empty 9 1) 10 1) 11 1) 12 42400

empty-check : check_answer empty ≡ Ok tt
unfolding range filter empty trail is_node check_words node_at cell_at size_of marked in_range opened_by empty_headers formatted turn holds all_hold members blank_from ordered_in sound_in site_in look_of check_answer
empty-check = refl

single-check : check_answer single ≡ Ok tt
unfolding range filter empty single trail is_node check_words node_at cell_at size_of marked in_range opened_by empty_headers formatted turn holds all_hold members blank_from ordered_in sound_in site_in look_of check_answer
single-check = refl

four-differ : differing empty single ≡ 4
unfolding empty single empty_headers formatted check_words differing
four-differ = refl

four-places : (s : Sound empty) → Changed empty s single
unfolding empty single empty_headers formatted check_words node_at cell_at
four-places s =
    record {
      size = refl;
      places = λ a. by a (ℕ_discrete a 9) (ℕ_discrete a 10) (ℕ_discrete a 11) (ℕ_discrete a 12);
      worn = λ i n o. only i (omega (arith, n.low, n.high));
    }
  where
    -- its only node is worn in neither
    only : (i : ℕ) → i ≡ 1 → (get_or empty (ident_at (layout_of empty) i) 0 ≡ worn_ident) ↔ (get_or single (ident_at (layout_of empty) i) 0 ≡ worn_ident)
    only i e =
        subst (λ (j : ℕ). (get_or empty (ident_at (layout_of empty) j) 0 ≡ worn_ident) ↔ (get_or single (ident_at (layout_of empty) j) 0 ≡ worn_ident)) (sym e)
        ((λ z. absurd (omega (arith, z))), λ z. absurd (omega (arith, z)))

    by : (a : ℕ) → Dec (a ≡ 9) → Dec (a ≡ 10) → Dec (a ≡ 11) → Dec (a ≡ 12) → (get_or empty a 0 ≡ get_or single a 0 → ⊥)
        → Place (layout_of empty) s.ordered.lists.sequence a
    by a (yes e) q r t n = header 0 1 (omega arith) (omega arith) e
    by a (no p) (yes e) r t n = header 0 2 (omega arith) (omega arith) e
    by a (no p) (no q) (yes e) t n = header 0 3 (omega arith) (omega arith) e
    by a (no p) (no q) (no r) (yes e) n = identifier 1 (record { low = omega arith; high = omega arith }) e
    by a (no p) (no q) (no r) (no t) n =
        absurd (n (sym (
        get_or-set_other (set (set (set empty 9 1) 10 1) 11 1) 12 a 42400 0 t
        ∙ get_or-set_other (set (set empty 9 1) 10 1) 11 a 1 0 r
        ∙ get_or-set_other (set empty 9 1) 10 a 1 0 q
        ∙ get_or-set_other empty 9 a 1 0 p)))

-- the calls from C
no_store : (p : Plan) (b : List ℕ) → bytes_after p 0 b ≡ b
unfolding run byte_writes
no_store (refuse n) b = refl
no_store (stores ps) b = refl

module _ (b : List ℕ) (s : Sound (words_in b)) (b' : List ℕ) (even : length b' % 2 ≡ 0) (c : Changed (words_in b) s (words_in b')) where
  bytes-noticed : 1 ≤ differing (words_in b) (words_in b') → differing (words_in b) (words_in b') ≤ 3 → check_code b' ≡ 6
  unfolding check_code byte_check
  bytes-noticed some few = rw (eq-eqb (length b' % 2) 0 even) (ap checked_number (noticed (words_in b) s (words_in b') c some few))

  bytes_back : differing (words_in b) (words_in b') ≡ 1 → BytesPutBack (words_in b) b'
  bytes_back one =
      record {
        done = λ m h. let r = p.done m h in (ap code_of (answer m ∙ r.0), recover-words b' m even ∙ r.1);
        cut = (ap code_of (answer 0 ∙ p.cut.0), no_store (byte_recover b') b');
      }
    where
      p : PutBack (words_in b) (words_in b')
      p = put-back (words_in b) s (words_in b') c one

      answer : (m : ℕ) → answer_of (byte_recover b') m ≡ answer_of (recover_plan (words_in b')) m
      answer m = ap (λ (q : Plan). answer_of q m) (recover-plan b' even)

pub distance : Distance
distance =
    record {
      noticed = λ w s w' c some few. noticed w s w' c some (omega (arith, few));
      put_back = put-back;
      four = (empty, check_sound empty empty-check, single, four-places (check_sound empty empty-check), four-differ, single-check);
      member_worn = member-worn;
      outside =
          λ w s i n o v. (worn-passes w s i n o v, (λ b. (freed-passes w s i n o b v, listed-freed w s i n o b v)), kept-noticed w s i n o v);
      noticed_in_bytes = bytes-noticed;
      put_back_in_bytes = bytes_back;
    }
