-- The calls from C: read as words, the bytes go through the calls on words.
use Prim.Native.Nat.{ℕ, ◌%◌}
use mathlib.Core.Path.{◌≡◌, refl, ap, ◌∙◌, sym, subst}
use mathlib.Core.List.{List, [], ◌∷◌, map}
use lib.ListN.{length, set}
use borrow.Author.Tests.{eq-eqb}
use Rattle.calls.specs.Answers.{answer_of}
use Rattle.stores.specs.Stores.{Plan, words_after}
use Rattle.encoding.specs.Bytes.{words_in, bytes_after}
use Rattle.encoding.proofs.Laws.{words-after, length-after}
use Rattle.layout.specs.Words.{ident_at, worn_ident, layout_of}
use Rattle.lists.specs.Lists.{Sound, KeepsWorn}
use Rattle.edits.specs.Edits.{mark_stores}
use Rattle.calls.specs.Calls.{mark_plan}
use Rattle.demands.specs.Demand2.{FreeNode}
use Rattle.byte_calls.specs.Plans.{byte_mark, byte_recover}
use Rattle.byte_calls.specs.Interface.{code_of}
use Rattle.byte_courses.specs.ByteCourse.{byte_edit, in_words}
use Rattle.byte_courses.proofs.ByteCourse.{edit-words, recover-words}
use Rattle.worn.specs.Worn.{Call, edit, mark, recover, words_by, words_by_all, bytes_by, bytes_by_all}
use Rattle.worn.proofs.Mark.{mark-plan, marks}
use Rattle.worn.proofs.Later.{later}

-- a mark
byte-plan : (b : List ℕ) (c : ℕ) → length b % 2 ≡ 0 → byte_mark b c ≡ mark_plan (words_in b) c
unfolding byte_mark
byte-plan b c even = rw (eq-eqb (length b % 2) 0 even)

mark-bytes : (b : List ℕ) (c : ℕ) → length b % 2 ≡ 0
    → words_in (bytes_after (byte_mark b c) mark_stores b) ≡ words_after (mark_plan (words_in b) c) mark_stores (words_in b)
mark-bytes b c even =
    words-after (byte_mark b c) mark_stores b ∙ ap (λ (p : Plan). words_after p mark_stores (words_in b)) (byte-plan b c even)

pub marks-bytes : (b : List ℕ) → Sound (words_in b) → length b % 2 ≡ 0 → (c : ℕ) → FreeNode (words_in b) c
    → (code_of (answer_of (byte_mark b c) mark_stores) ≡ 65537)
    × (words_in (bytes_after (byte_mark b c) mark_stores b) ≡ set (words_in b) (ident_at (layout_of (words_in b)) c) worn_ident)
marks-bytes b s even c f =
    let w = words_in b in (
      ap (λ (p : Plan). code_of (answer_of p mark_stores)) (byte-plan b c even ∙ mark-plan w s c f),
      mark-bytes b c even ∙ (marks w s c).words f,
    )

-- one call, and several
in_words_call : Call → Call
in_words_call (edit e m) = edit (in_words e) m
in_words_call (mark c) = mark c
in_words_call (recover m) = recover m

call-words : (c : Call) (b : List ℕ) → length b % 2 ≡ 0 → words_in (bytes_by c b) ≡ words_by (in_words_call c) (words_in b)
unfolding in_words_call
call-words (edit e m) b even = edit-words b e m even
call-words (mark c) b even = mark-bytes b c even
call-words (recover m) b even = recover-words b m even

call-even : (c : Call) (b : List ℕ) → length b % 2 ≡ 0 → length (bytes_by c b) % 2 ≡ 0
call-even (edit e m) b even = ap (λ (n : ℕ). n % 2) (length-after (byte_edit b e) m b) ∙ even
call-even (mark c) b even = ap (λ (n : ℕ). n % 2) (length-after (byte_mark b c) mark_stores b) ∙ even
call-even (recover m) b even = ap (λ (n : ℕ). n % 2) (length-after (byte_recover b) m b) ∙ even

calls-words : (cs : List Call) (b : List ℕ) → length b % 2 ≡ 0 → words_in (bytes_by_all cs b) ≡ words_by_all (map in_words_call cs) (words_in b)
unfolding words_by_all bytes_by_all
calls-words [] b even = refl
calls-words (c ∷ cs) b even =
    calls-words cs (bytes_by c b) (call-even c b even) ∙ ap (λ (w : List ℕ). words_by_all (map in_words_call cs) w) (call-words c b even)

pub later-bytes : (b : List ℕ) → Sound (words_in b) → length b % 2 ≡ 0 → (cs : List Call)
    → KeepsWorn (layout_of (words_in b)) (words_in b) (words_in (bytes_by_all cs b))
later-bytes b s even cs =
    subst (KeepsWorn (layout_of (words_in b)) (words_in b)) (sym (calls-words cs b even)) (later (words_in b) s (map in_words_call cs))
