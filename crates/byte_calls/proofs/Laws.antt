-- Plans that are carried out, a layout read again, and the words of a record.
use Prim.Native.Nat.{ℕ, ◌≤◌, ◌<◌}
use mathlib.Core.Path.{◌≡◌, refl, ap, ◌∙◌, sym, subst}
use mathlib.Core.List.{List, []}
use mathlib.Core.Bool.{Bool, true, false}
use native.Mathlib.Omega.{arith}
use lib.ListN.{length}
use Rattle.std.specs.Prelude.{Err}
use Rattle.calls.specs.Answers.{Answer, answer_of}
use Rattle.stores.specs.declared.Write.{Write}
use Rattle.stores.specs.Stores.{Plan, refuse, stores}
use Rattle.stores.specs.Stores as S
use Rattle.encoding.specs.Bytes.{words_in, whole, applied_bytes, bytes_after}
use Rattle.encoding.proofs.Laws.{words-after}
use Rattle.layout.specs.declared.Layout.{Layout}
use Rattle.layout.specs.declared.Refusal.{Refusal}
use Rattle.layout.specs.declared.Refusal.TheVariants.{Size}
use Rattle.layout.specs.Words.{ask, head_words, size_of, layout_of}
use Rattle.layout.proofs.Laws.{opened-open}
use Rattle.lists.specs.Lists.{KeepsWorn}
use Rattle.requests.specs.declared.Site.{Site}
use Rattle.requests.specs.declared.Request.{Request}
use Rattle.requests.specs.Requests.{look_of, at_site}
use Rattle.edits.proofs.Done.{looked}
use Rattle.byte_calls.specs.Plans.{record_words}

-- a refusal, and a run of the stores of a plan
pub byte-refused : {p : Plan} {n : Refusal} (m : ℕ) (b : List ℕ) → p ≡ refuse n → (Err n ≡ answer_of p m) × (b ≡ bytes_after p m b)
byte-refused m b e = rw e (refl, refl)

pub byte-run
    : {p : Plan} {ps : List Write} {x : Answer} {b' : List ℕ} (m : ℕ) (b : List ℕ) → p ≡ stores ps
    → x ≡ answer_of (stores ps) m → b' ≡ applied_bytes ps m b → (x ≡ answer_of p m) × (b' ≡ bytes_after p m b)
byte-run m b e x y = (x ∙ ap (λ (p : Plan). answer_of p m) (sym e), y ∙ ap (λ (p : Plan). bytes_after p m b) (sym e))

-- and of an insert, which keeps the worn nodes
pub byte-kept : (p : Plan) (m : ℕ) (b : List ℕ) {x : Answer} {b' : List ℕ}
    → KeepsWorn (layout_of (words_in b)) (words_in b) (S.words_after p m (words_in b)) → (x ≡ answer_of p m) × (b' ≡ bytes_after p m b)
    → (x ≡ answer_of p m) × ((b' ≡ bytes_after p m b) × KeepsWorn (layout_of (words_in b)) (words_in b) (words_in b'))
byte-kept p m b h q =
    (q.0, (q.1, subst (KeepsWorn (layout_of (words_in b)) (words_in b)) (sym (ap words_in q.1 ∙ words-after p m b)) h))

-- so do the words where a question e is put before its own
pub kept-first : (e : Bool) (p : Plan) (m : ℕ) (w : List ℕ) → KeepsWorn (layout_of w) w (S.words_after p m w) → KeepsWorn (layout_of w) w (S.words_after (ask e (refuse Size) p) m w)
kept-first true p m w h = h
kept-first false p m w h = λ c n z d f i g. refl

-- the layout that a look found is read again from the words
pub look-again : {l : Layout} {t : Site} (w : List ℕ) (q : Request) → look_of w q ≡ at_site l t → (head_words ≤ length w) × (look_of w q ≡ at_site (layout_of w) t)
unfolding size_of
look-again {l} {t} w q e =
    let o = opened-open w l (looked w q l t e).0 in
    (omega (arith, o.3), e ∙ ap (λ (m : Layout). at_site m t) o.0)

-- a record that has words has all that are in it
pub record-words : (b : List ℕ) → 0 < length (record_words b) → record_words b ≡ words_in b
unfolding record_words
record-words b = by (whole b)
  where
    by : (e : Bool) → 0 < length (ask e [] (words_in b)) → ask e [] (words_in b) ≡ words_in b
    by true h = refl
    by false h = absurd (omega arith)
