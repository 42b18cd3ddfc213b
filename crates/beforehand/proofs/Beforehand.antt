-- What is told beforehand is what the calls do, on words and from C.
use Prim.Native.Nat.{ℕ, ◌+◌, ◌-◌, ◌*◌, ◌%◌, ◌≤◌}
use mathlib.Core.Path.{◌≡◌, refl, ap, ◌∙◌, sym}
use mathlib.Core.List.{List}
use mathlib.Core.Bool.{Bool, true, false}
use native.Mathlib.Omega.{arith}
use native.Mathlib.Nat.{mul-le-mul}
use lib.Dec.{eqb}
use lib.ListN.{length, length-drop}
use Rattle.std.specs.Prelude.{Result, Ok, Err}
use Rattle.calls.specs.Answers.{answer_of, needed_of, needed_stores}
use Rattle.stores.specs.Stores.{Write, Plan, refuse, stores, words_after}
use Rattle.stores.proofs.Outcomes.{outcome-done}
use Rattle.stores.proofs.Laws.{applied-all}
use Rattle.encoding.specs.Bytes.{words_in, bytes_after}
use Rattle.encoding.proofs.Laws.{words-after}
use Rattle.layout.specs.declared.Layout.{Layout}
use Rattle.layout.specs.declared.Refusal.{Refusal}
use Rattle.layout.specs.declared.Refusal.TheVariants.{Size}
use Rattle.layout.specs.Words.{ask, InRange, tail_words, layout_of}
use Rattle.layout.proofs.Laws.{opened-open}
use Rattle.recovery.specs.Plan.{most_stores, fitting_of, recover_plan, differing}
use Rattle.recovery.proofs.Count.{plan-differs}
use Rattle.calls.specs.declared.Figures.{Figures}
use Rattle.calls.specs.Calls.{several_plan, several_figures, recover_needed}
use Rattle.courses.proofs.Single.{planned, sound-recover}
use Rattle.byte_calls.specs.Plans.{record_words, byte_several, byte_figures, byte_recover, byte_needed}
use Rattle.byte_calls.specs.Interface.{code_of, first_code, last_code, stores_code, needed_code}
use Rattle.counting.proofs.Counting.{counting}
use Rattle.beforehand.specs.Beforehand.{full, answer_by, needed_by, Uses, Beforehand}
use Rattle.beforehand.proofs.Cells.{answer-told, told-refused, told-stored, uses-told}

-- a recovery makes no more stores than the full allowance lets through
most-few : (l : Layout) → InRange l → most_stores l ≤ full
most-few l r =
    let a : tail_words l ≤ 13 = omega (arith, r.tail) in
    let b : l.nodes ≤ 2000 = omega (arith, r.nodes) in
    let c : tail_words l * l.nodes ≤ 26000 = mul-le-mul a b in
    omega (arith, c, r.lists)

plan-most : (w : List ℕ) (ps : List Write) → recover_plan w ≡ stores ps → length ps ≤ full
plan-most w ps e = omega (arith, counting.bound w ps e, most-few (layout_of w) (opened-open w (layout_of w) (planned w ps e).0).2)

module _ (w : List ℕ) where
  recovery-told : answer_by (recover_needed w) ≡ answer_of (recover_plan w) full
  recovery-told = by (recover_plan w) refl
    where
      by : (p : Plan) → recover_plan w ≡ p → answer_by (needed_of p) ≡ answer_of p full
      by (refuse n) e = refl
      by (stores ps) e = ap Ok (outcome-done ps full (plan-most w ps e))

  -- so many stores are told of a plan that has them
  module _ (n : ℕ) (h : recover_needed w ≡ Ok n) where
    stored : (ps : List Write) × (recover_plan w ≡ stores ps) × (length ps ≡ n)
    stored = by (recover_plan w) refl h
      where
        by : (p : Plan) → recover_plan w ≡ p → needed_of p ≡ Ok n → (ps : List Write) × (recover_plan w ≡ stores ps) × (length ps ≡ n)
        by (refuse i) e q = let z : ◌≡◌ {A = ℕ} 0 1 = cc in absurd (omega arith)
        by (stores ps) e q = (ps, e, ap needed_stores q)

    changed : differing w (words_after (recover_plan w) full w) ≡ n
    changed =
        let s = stored in
        let l = layout_of w in
        let p = planned w s.0 s.1 in
        ap (λ (q : Plan). differing w (words_after q full w)) s.1
        ∙ ap (differing w) (applied-all s.0 full w (plan-most w s.0 s.1))
        ∙ plan-differs l (fitting_of l w) s.0 w (opened-open w l p.0).3 p.1 (sym p.2)
        ∙ s.2

    bounded : n ≤ most_stores (layout_of w)
    bounded = let s = stored in omega (arith, counting.bound w s.0 s.1, s.2)

    left : (m : ℕ) → recover_needed (words_after (recover_plan w) m w) ≡ Ok (n - m)
    left m =
        let s = stored in
        ap (λ (q : Plan). recover_needed (words_after q m w)) s.1
        ∙ ap needed_of (counting.later w s.0 s.1 m)
        ∙ ap Ok (length-drop m s.0 ∙ ap (λ (i : ℕ). i - m) s.2)

-- the numbers from C
stores-code : (f : Result Figures Refusal) → stores_code f ≡ code_of (answer_by (needed_by f))
stores-code (Ok f) = refl
stores-code (Err n) = refl

needed-code : (x : Result ℕ Refusal) → needed_code x ≡ code_of (answer_by x)
needed-code (Ok n) = refl
needed-code (Err n) = refl

recovery-bytes : (bytes : List ℕ) → needed_code (byte_needed bytes) ≡ code_of (answer_of (byte_recover bytes) full)
unfolding byte_needed byte_recover
recovery-bytes bytes = by (eqb (length bytes % 2) 0)
  where
    by : (b : Bool) → needed_code (ask b (Err Size) (recover_needed (words_in bytes))) ≡ code_of (answer_of (ask b (refuse Size) (recover_plan (words_in bytes))) full)
    by true = needed-code (recover_needed (words_in bytes)) ∙ ap code_of (recovery-told (words_in bytes))
    by false = refl

module _ (bytes : List ℕ) (k p c : ℕ) (records : List ℕ) where
  abbrev w : List ℕ
  w = words_in bytes

  abbrev words : List ℕ
  words = record_words records

  several-bytes : stores_code (byte_figures bytes k p c records) ≡ code_of (answer_of (byte_several bytes k p c records) full)
  unfolding byte_figures byte_several
  several-bytes = by (eqb (length bytes % 2) 0)
    where
      by : (b : Bool) → stores_code (ask b (Err Size) (several_figures w k p c words)) ≡ code_of (answer_of (ask b (refuse Size) (several_plan w k p c words)) full)
      by true = stores-code (several_figures w k p c words) ∙ ap code_of (answer-told w k p c words)
      by false = refl

  refused-bytes : (n : Refusal) → byte_several bytes k p c records ≡ refuse n → byte_figures bytes k p c records ≡ Err n
  unfolding byte_figures byte_several
  refused-bytes n = by (eqb (length bytes % 2) 0)
    where
      by : (b : Bool) → ask b (refuse Size) (several_plan w k p c words) ≡ refuse n → ask b (Err Size) (several_figures w k p c words) ≡ Err n
      by true e = told-refused w k p c words e
      by false e = let z : Size ≡ n = cc in ap Err z

  -- even bytes: the call is that on their words
  even : (ps : List Write) → byte_several bytes k p c records ≡ stores ps
      → (byte_several bytes k p c records ≡ several_plan w k p c words) × (byte_figures bytes k p c records ≡ several_figures w k p c words)
  unfolding byte_figures byte_several
  even ps = by (eqb (length bytes % 2) 0)
    where
      by : (b : Bool) → ask b (refuse Size) (several_plan w k p c words) ≡ stores ps
          → (ask b (refuse Size) (several_plan w k p c words) ≡ several_plan w k p c words) × (ask b (Err Size) (several_figures w k p c words) ≡ several_figures w k p c words)
      by true e = (refl, refl)
      by false e = let z : ◌≡◌ {A = ℕ} 0 1 = cc in absurd (omega arith)

  used-bytes : (ps : List Write) → byte_several bytes k p c records ≡ stores ps
      → let told : Result Figures Refusal = byte_figures bytes k p c records in
      (a : ℕ) × (b : ℕ) × (n : ℕ) × (first_code told ≡ 65536 + a) × (last_code told ≡ 65536 + b) × (stores_code told ≡ 65536 + n)
      × Uses w k p c words a b n
      × (words_in (bytes_after (byte_several bytes k p c records) full bytes) ≡ words_after (several_plan w k p c words) full w)
  used-bytes ps e =
      let v = even ps e in
      let t = told-stored w k p c words (sym v.0 ∙ e) in
      let f = v.1 ∙ t.1 in (
        t.0.first,
        t.0.last,
        t.0.stores,
        ap first_code f,
        ap last_code f,
        ap stores_code f,
        uses-told w k p c words t.0 t.1,
        words-after (byte_several bytes k p c records) full bytes ∙ ap (λ (q : Plan). words_after q full w) v.0,
      )

pub beforehand : Beforehand
beforehand =
    record {
      several = answer-told;
      recovery = recovery-told;
      uses = uses-told;
      changes = changed;
      most = bounded;
      none = λ w s. ap needed_of (sound-recover w s);
      rest = left;
      several_in_bytes = several-bytes;
      recovery_in_bytes = recovery-bytes;
      refused_in_bytes = λ bytes k p c records n e. let f = refused-bytes bytes k p c records n e in (ap first_code f, ap last_code f, ap stores_code f);
      uses_in_bytes = used-bytes;
    }
