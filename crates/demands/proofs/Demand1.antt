-- Demand 1: a refused call gives the number of one of its questions and leaves the words; a store goes to words of the store only.
use Prim.Native.Nat.{ℕ, zero, suc, ◌/◌, ◌%◌, ◌<◌, ◌≤◌}
use mathlib.Core.Path.{◌≡◌, refl, sym, ◌∙◌, ap, subst}
use mathlib.Core.List.Memᴰ
use mathlib.Core.List.{List, [], ◌∷◌, ◌++◌, map}
use mathlib.Core.Bool.{Bool, true, false, ◌&&◌}
use native.Mathlib.Omega.{arith}
use lib.Dec.{eqb, leb, ltb}
use lib.ListN.{length, take, drop, length-drop}
use lib.Seq.{length-take-le}
use borrow.Author.Tests.{eqb-true}
use Rattle.sequences.specs.Sequence.{◌∈◌, All}
use Rattle.sequences.proofs.Members.{all_in, in_all, all_take}
use Rattle.stores.specs.Stores.{Write, refuse, stores}
use Rattle.stores.proofs.Laws.{length_run}
use Rattle.std.specs.Prelude.{Option, Some, None, Result, Ok, Err}
use Rattle.layout.specs.declared.Refusal.{Refusal}
use Rattle.layout.specs.declared.Refusal.TheVariants.{Short, NoStore, Range, Size, NoList, Unsound, NoPosition, NoNode, RecordSize, Full, NoFit, TwoFit, NotFree}
use Rattle.requests.specs.declared.Look.{Look}
use Rattle.layout.specs.declared.Layout.{Layout}
use Rattle.layout.specs.Words.{ask, head_words, marked, layout_of, in_range, size_of, record_at, is_node, opened_by, opened, after_open, is_free, number_of}
use Rattle.layout.proofs.Laws.{opened-open, length-formatted, cell-node, node-fits}
use Rattle.lists.specs.Decide.{view_of, sound_of, sequence_of}
use Rattle.lists.proofs.Decided.{sound-lists}
use Rattle.requests.specs.declared.Site.{Site}
use Rattle.requests.specs.declared.Request.{Request}
use Rattle.requests.specs.declared.Request.TheVariants.{Check, Whole, Member, Gap, Gaps, Mark}
use Rattle.requests.specs.Requests.{around, first_free, with_free, free_cells, member_at, gap_at, gaps_at, site_in, site_of, with_site, look_of, with_look, at_site}
use Rattle.edits.specs.Edits.{insert_writes, chain, delete_writes, mark_writes, free_from}
use Rattle.edits.proofs.Inside.{insert-inside, delete-inside}
use Rattle.edits.proofs.Done.{looked}
use Rattle.edits.proofs.Gaps.{gaps-looked, gaps-chain, gaps-inside}
use Rattle.recovery.specs.Fits.{Fit, none, only, several, fit_of}
use Rattle.recovery.specs.Plan.{recover_stores, fitting_of, fit_refusal, refusal_from, unless_refused, recover_of, recover_plan}
use Rattle.recovery.proofs.Whole.{unrefused-accepted, stores-inside}
use Rattle.calls.specs.Answers.{formatted_words, answer_of}
use Rattle.calls.specs.Calls.{format_answer, format_words, check_answer, length_answer, read_number, read_words, read_start, insert_plan, several_plan, delete_plan, mark_plan}
use Rattle.calls.proofs.Sites.{member-placed, gap-placed, record-fits, mark-placed}
use Rattle.demands.specs.Demand1.{Refuses, Reads, Demand1}

-- what holds of a question's refusal and of what follows holds of its outcome
asked {ℓ} : {A : Type ℓ} (P : A → Type 0) (b : Bool) {x y : A} → P x → P y → P (ask b x y)
asked P true h k = k
asked P false h k = h

-- so what holds of the refusals with these numbers, and of the rest, holds of the outcome of questions 1 to 4,
abbrev open_refusals : List Refusal
open_refusals = Short ∷ NoStore ∷ Range ∷ Size ∷ []

opening : (w : List ℕ) (P : Result Layout Refusal → Type 0) → All (λ n. P (Err n)) open_refusals → ((l : Layout) → opened w ≡ Ok l → P (Ok l)) → P (opened w)
unfolding opened_by
opening w P h rest =
    asked Q (leb head_words (length w)) (λ _. h.0)
    (asked Q (marked w) (λ _. h.1.0)
    (asked Q (in_range (layout_of w)) (λ _. h.1.1.0)
    (asked Q (eqb (length w) (size_of (layout_of w))) (λ _. h.1.1.1.0)
    (rest (layout_of w))))) refl
  where
    Q : Result Layout Refusal → Type 0
    Q o = opened w ≡ o → P o

-- of the questions of a request after them,
abbrev own_refusals : Request → List Refusal
own_refusals Check = Unsound ∷ []
own_refusals (Whole k) = NoList ∷ Unsound ∷ []
own_refusals (Member k p) = NoList ∷ Unsound ∷ NoPosition ∷ []
own_refusals (Gap k p c m) = NoList ∷ Unsound ∷ NoPosition ∷ NoNode ∷ RecordSize ∷ Full ∷ []
own_refusals (Gaps k p c m) = NoList ∷ Unsound ∷ NoPosition ∷ NoNode ∷ RecordSize ∷ Full ∷ []
own_refusals (Mark c) = Unsound ∷ NoNode ∷ NotFree ∷ []

-- the search for a free cell refuses, or finds one
searched : (P : Result Site Refusal → Type 0) (x : Option ℕ) {r : Result Site Refusal} {at : ℕ → Result Site Refusal} → P r → ((i : ℕ) → P (at i)) → P (with_free x r at)
searched P None h rest = h
searched P (Some i) h rest = rest i

siting : (l : Layout) (w : List ℕ) (q : Request) (P : Result Site Refusal → Type 0) → All (λ n. P (Err n)) (own_refusals q) → ((t : Site) → P (Ok t)) → P (site_of l w q)
unfolding site_in member_at gap_at gaps_at
siting l w Check P h rest = asked P (sound_of l w) h.0 (rest _)
siting l w (Whole k) P h rest = asked P (ltb k l.lists) h.0 (asked P (sound_of l w) h.1.0 (rest _))
siting l w (Member k p) P h rest =
    asked P (ltb k l.lists) h.0
    (asked P (sound_of l w) h.1.0
    (asked P (ltb p (length (sequence_of l w k))) h.1.1.0
    (rest _)))
siting l w (Gap k p c m) P h rest =
    asked P (ltb k l.lists) h.0
    (asked P (sound_of l w) h.1.0
    (asked P (leb p (length (sequence_of l w k))) h.1.1.0
    (asked P (is_node l c) h.1.1.1.0
    (asked P (eqb m l.width) h.1.1.1.1.0
    (searched P (first_free (view_of l w).ident (around l c l.nodes)) h.1.1.1.1.1.0 (λ i. rest _))))))
siting l w (Gaps k p c m) P h rest =
    asked P (ltb k l.lists) h.0
    (asked P (sound_of l w) h.1.0
    (asked P (leb p (length (sequence_of l w k))) h.1.1.0
    (asked P (is_node l c) h.1.1.1.0
    (asked P (ltb 0 m && eqb (m % l.width) 0) h.1.1.1.1.0
    (asked P (leb (m / l.width) (length (free_cells (view_of l w).ident (around l c l.nodes)))) h.1.1.1.1.1.0
    (searched P (first_free (view_of l w).ident (around l c l.nodes)) h.1.1.1.1.1.0 (λ i. rest _)))))))
siting l w (Mark c) P h rest =
    asked P (sound_of l w) h.0
    (asked P (is_node l c) h.1.0
    (asked P (is_free ((view_of l w).ident c)) h.1.1.0
    (rest _)))

-- and of all of them
abbrev open_numbers : List ℕ
open_numbers = map number_of open_refusals

abbrev own_numbers : Request → List ℕ
own_numbers q = map number_of (own_refusals q)

abbrev numbers_of : Request → List ℕ
numbers_of q = open_numbers ++ own_numbers q

looking
    : (w : List ℕ) (q : Request) (P : Result Look Refusal → Type 0) → ((n : Refusal) → number_of n ∈ numbers_of q → P (Err n))
    → ((l : Layout) (t : Site) → look_of w q ≡ at_site l t → P (at_site l t)) → P (look_of w q)
unfolding look_of
looking w q P h rest =
    opening w (λ o. Q (after_open o Err (λ l. with_site (site_of l w q) Err (at_site l))))
    (in_all (λ n. Q (Err n)) open_refusals (λ n m e. h n (Memᴰ.append_left (own_numbers q) (Memᴰ.map number_of m))))
    (λ l o.
    siting l w q (λ x. Q (with_site x Err (at_site l)))
    (in_all (λ n. Q (Err n)) (own_refusals q) (λ n m e. h n (Memᴰ.append_right open_numbers (Memᴰ.map number_of m)))) (rest l))
    refl
  where
    Q : Result Look Refusal → Type 0
    Q x = look_of w q ≡ x → P x

module _ (numbers w : List ℕ) where
  -- a plan that is a refusal
  refused : (n : Refusal) → number_of n ∈ numbers → Refuses numbers (refuse n) w
  refused n h =
      record {
        number = λ m i e. let z : n ≡ i = cc in (subst (λ (j : Refusal). number_of j ∈ numbers) z h, λ m'. e);
        unchanged = λ m i e. refl;
        inside = λ m. tt;
        size = λ m. refl;
      }

  -- and one that is a list of stores
  stored : (ps : List Write) → All (λ (p : Write). p.at < length w) ps → Refuses numbers (stores ps) w
  stored ps h =
      record {
        number = λ m i e. absurd (never m i e);
        unchanged = λ m i e. absurd (never m i e);
        inside = λ m. all_take (λ (p : Write). p.at < length w) ps m h;
        size = λ m. length_run (take m ps) w;
      }
    where
      never : (m : ℕ) (i : Refusal) → answer_of (stores ps) m ≡ Err i → ⊥
      never m i e = let z : ◌≡◌ {A = ℕ} 0 1 = cc in omega arith

-- format
formats : (l : Layout) (w : List ℕ) (n : Refusal) → format_answer l w ≡ Err n → (number_of n ∈ (3 ∷ 4 ∷ [])) × (format_words l w ≡ w)
unfolding format_answer
formats l w = asked P (in_range l) (refusal Range (Memᴰ.head refl)) (asked P (eqb (length w) (size_of l)) (refusal Size (Memᴰ.tail (Memᴰ.head refl))) done)
  where
    P : Result (Unit {0}) Refusal → Type 0
    P a = (n : Refusal) → a ≡ Err n → (number_of n ∈ (3 ∷ 4 ∷ [])) × (formatted_words l w a ≡ w)

    refusal : (i : Refusal) → number_of i ∈ (3 ∷ 4 ∷ []) → P (Err i)
    refusal i h n e = let z : i ≡ n = cc in (subst (λ (j : Refusal). number_of j ∈ (3 ∷ 4 ∷ [])) z h, refl)

    done : P (Ok tt)
    done n e = let z : ◌≡◌ {A = ℕ} 0 1 = cc in absurd (omega arith)

formats-all : (l : Layout) (w : List ℕ) → length (format_words l w) ≡ length w
unfolding format_answer
formats-all l w = asked P (in_range l) refl (by (eqb (length w) (size_of l)) refl)
  where
    P : Result (Unit {0}) Refusal → Type 0
    P a = length (formatted_words l w a) ≡ length w

    by : (b : Bool) → eqb (length w) (size_of l) ≡ b → P (ask b (Err Size) (Ok tt))
    by true e = length-formatted l ∙ sym (eqb-true _ _ e)
    by false e = refl

-- check and length
checks : (w : List ℕ) (n : Refusal) → check_answer w ≡ Err n → number_of n ∈ numbers_of Check
unfolding check_answer
checks w =
    looking w Check (λ x. (n : Refusal) → ◌≡◌ {A = Result (Unit {0}) Refusal} (with_look x Err (λ l t. Ok tt)) (Err n) → number_of n ∈ numbers_of Check)
    (λ i h n e. let z : i ≡ n = cc in subst (λ (j : Refusal). number_of j ∈ numbers_of Check) z h)
    (λ l t o n e. let z : ◌≡◌ {A = ℕ} 0 1 = cc in absurd (omega arith))

lengths : (w : List ℕ) (k : ℕ) (n : Refusal) → length_answer w k ≡ Err n → number_of n ∈ numbers_of (Whole k)
unfolding length_answer
lengths w k =
    looking w (Whole k) (λ x. (n : Refusal) → with_look x Err (λ l t. Ok t.count) ≡ Err n → number_of n ∈ numbers_of (Whole k))
    (λ i h n e. let z : i ≡ n = cc in subst (λ (j : Refusal). number_of j ∈ numbers_of (Whole k)) z h)
    (λ l t o n e. let z : ◌≡◌ {A = ℕ} 0 1 = cc in absurd (omega arith))

-- read
reads : (w : List ℕ) (k p : ℕ) → Reads w (read_number w k p) (read_start w k p) (read_words w k p)
unfolding read_number read_start read_words
reads w k p =
    looking w (Member k p)
    (λ x.
    Reads w (with_look x (λ n. number_of n) (λ l t. 0)) (with_look x (λ n. 0) (λ l t. record_at l t.cell))
    (with_look x (λ n. []) (λ l t. take l.width (drop (record_at l t.cell) w)))) none given
  where
    some : (n : ℕ) → n ∈ numbers_of (Member k p) → n ≡ 0 → ⊥
    some n h e = omega (arith, all_in (λ i. 1 ≤ i) (numbers_of (Member k p)) (omega arith) h)

    none : (n : Refusal) → number_of n ∈ numbers_of (Member k p) → Reads w (number_of n) 0 []
    none n h = record { number = Memᴰ.tail h; refused = λ e. refl; given = λ e. absurd (some (number_of n) h e) }

    given : (l : Layout) (t : Site) → look_of w (Member k p) ≡ at_site l t → Reads w 0 (record_at l t.cell) (take l.width (drop (record_at l t.cell) w))
    given l t e =
        let a = record_at l t.cell in
        let d = member-placed w k p l t e in
        let r = record-fits l k t d.0 in
        let size : length (take l.width (drop a w)) ≡ l.width = length-take-le l.width (drop a w) (omega (arith, length-drop a w, d.1)) in
        record {
          number = Memᴰ.head refl;
          refused = λ n. absurd (n refl);
          given =
              λ _. (
                ap (λ (n : ℕ). take n (drop a w)) (sym size),
                size ∙ ap (λ (m : Layout). m.width) (opened-open w l (looked w (Member k p) l t e).0).0,
                omega (arith, d.0.in_range.some_width),
                omega (arith, d.1),
              );
        }

-- insert and delete
inserts : (w : List ℕ) (k p c : ℕ) (words : List ℕ) → Refuses (numbers_of (Gap k p c (length words))) (insert_plan w k p c words) w
unfolding insert_plan
inserts w k p c words =
    let q = Gap k p c (length words) in
    looking w q (λ x. Refuses (numbers_of q) (with_look x refuse (λ l t. stores (insert_writes l k t words))) w) (refused (numbers_of q) w)
    (λ l t e.
    let a = gap-placed w k p l t c (length words) e in
    stored (numbers_of q) w (insert_writes l k t words) (rw a.2 (insert-inside a.0 words a.1)))

severals : (w : List ℕ) (k p c : ℕ) (words : List ℕ) → Refuses (numbers_of (Gaps k p c (length words))) (several_plan w k p c words) w
unfolding several_plan
severals w k p c words =
    let q = Gaps k p c (length words) in
    looking w q
    (λ x.
    Refuses (numbers_of q)
    (with_look x refuse
    (λ l t. stores (chain l k t.before t.after t.count (free_from l w c (length words / l.width)) words))) w)
    (refused (numbers_of q) w)
    (λ l t e.
    let a = looked w q l t e in
    let o = opened-open w l a.0 in
    let s = sound-lists l o.2 w (gaps-looked l w k p c (length words) t a.1).sound in
    stored (numbers_of q) w (chain l k t.before t.after t.count (free_from l w c (length words / l.width)) words)
    (rw (o.3, gaps-chain l w s k p c (length words) t a.1 words) (gaps-inside l w s k p c (length words) t a.1 o.2 words refl)))

deletes : (w : List ℕ) (k p : ℕ) → Refuses (numbers_of (Member k p)) (delete_plan w k p) w
unfolding delete_plan
deletes w k p =
    let q = Member k p in
    looking w q (λ x. Refuses (numbers_of q) (with_look x refuse (λ l t. stores (delete_writes l k t))) w) (refused (numbers_of q) w)
    (λ l t e.
    let a = member-placed w k p l t e in
    stored (numbers_of q) w (delete_writes l k t) (rw a.1 (delete-inside a.0)))

marks : (w : List ℕ) (c : ℕ) → Refuses (numbers_of (Mark c)) (mark_plan w c) w
unfolding mark_plan
marks w c =
    let q = Mark c in
    looking w q (λ x. Refuses (numbers_of q) (with_look x refuse (λ l t. stores (mark_writes l t.cell))) w) (refused (numbers_of q) w)
    (λ l t e.
    let a = mark-placed w c l t e in
    stored (numbers_of q) w (mark_writes l t.cell)
    (omega (arith, a.0.exact, cell-node l t.cell a.1.low, node-fits l t.cell a.1), tt))

-- recover: a list that is refused is refused with 11 or 12
abbrev recover_numbers : List ℕ
recover_numbers = open_numbers ++ 11 ∷ 12 ∷ []

list-numbers : (l : Layout) (w : List ℕ) (k n : ℕ) (x : Refusal) → refusal_from l w k n ≡ Some x → number_of x ∈ (11 ∷ 12 ∷ [])
unfolding refusal_from
list-numbers l w k zero x e = let z : ◌≡◌ {A = ℕ} 0 1 = cc in absurd (omega arith)
list-numbers l w k (suc n) x e = by (fit_of l w k) (list-numbers l w (suc k) n x) e
  where
    among : (y : Refusal) → Some y ≡ Some x → number_of y ∈ (11 ∷ 12 ∷ []) → number_of x ∈ (11 ∷ 12 ∷ [])
    among y e m = let q : y ≡ x = cc in subst (λ (j : Refusal). number_of j ∈ (11 ∷ 12 ∷ [])) q m

    by : (f : Fit) {r : Option Refusal} → (r ≡ Some x → number_of x ∈ (11 ∷ 12 ∷ [])) → fit_refusal f r ≡ Some x → number_of x ∈ (11 ∷ 12 ∷ [])
    by none rest e = among NoFit e (Memᴰ.head refl)
    by several rest e = among TwoFit e (Memᴰ.tail (Memᴰ.head refl))
    by (only s) rest e = rest e

recovers : (w : List ℕ) → Refuses recover_numbers (recover_plan w) w
unfolding recover_plan recover_of
recovers w =
    opening w (λ o. Refuses recover_numbers (after_open o refuse (λ l. recover_of l w)) w)
    (in_all (λ n. Refuses recover_numbers (refuse n) w) open_refusals
    (λ n m. refused recover_numbers w n (Memᴰ.append_left (11 ∷ 12 ∷ []) (Memᴰ.map number_of m))))
    (λ l e. by l e (refusal_from l w 0 l.lists) refl)
  where
    by : (l : Layout) → opened w ≡ Ok l → (r : Option Refusal) → refusal_from l w 0 l.lists ≡ r
        → Refuses recover_numbers (unless_refused r (stores (recover_stores l w (fitting_of l w)))) w
    by l e None z =
        stored recover_numbers w (recover_stores l w (fitting_of l w))
        (stores-inside l w (fitting_of l w) (unrefused-accepted l w z) (opened-open w l e).3)
    by l e (Some x) z = refused recover_numbers w x (Memᴰ.append_right open_numbers (list-numbers l w 0 l.lists x z))

pub demand1 : Demand1
demand1 =
    record {
      formats = formats;
      formats_all = formats-all;
      checks = checks;
      lengths = lengths;
      reads = reads;
      inserts = inserts;
      severals = severals;
      deletes = deletes;
      marks = marks;
      recovers = recovers;
    }
