-- The loop over several records (edits/proofs/Underway.antt) in either form: what the stores leave, and the words of the records left.
use Rattle.std.specs.Prelude.{◌≡◌, ℕ, zero, suc, ◌+◌, ◌*◌, ◌/◌, ◌-◌, ◌≤◌, ◌<◌, List, ◌++◌, length, take, drop}
use Rattle.std.proofs.Common.{arith, refl, ap, ap₂, ◌∙◌, sym}
use mathlib.Core.Path.{subst}
use native.Mathlib.Nat.{suc-mul, zero-mul}
use native.Mathlib.Numerals.{add-one}
use lib.ListN.{length-drop}
use lib.Seq.{drop-drop}
use Rattle.stores.specs.declared.Write.{Write}
use Rattle.stores.specs.Stores.{run}
use Rattle.encoding.specs.Form.{FormLaws}
use Rattle.encoding.proofs.Runs.{after-all, after-append, after-first}
use Rattle.layout.specs.declared.Layout.{Layout}
use Rattle.lists.specs.Lists.{KeepsWorn}
use Rattle.requests.specs.declared.Site.{Site}
use Rattle.edits.specs.Edits.{insert_writes, chain_from, Room}
use Rattle.edits.proofs.Worn.{room-keeps}
use Rattle.edits.proofs.Underway.{Underway, underway-parts}

module _ {A : Type 0} {words_in : List A → List ℕ} {after : List Write → List A → List A} (laws : FormLaws words_in after) where
  -- with allowance m, of which n is used, in elements b made from those of the start
  module _ {l : Layout} {k : ℕ} {ps made : List Write} {w : List ℕ} {t : Site} {ws : List ℕ} (u : Underway l k ps made w t ws)
      (m : ℕ) {n : ℕ} (c : n ≡ length made) (h : n ≤ m) (start : List A) {b : List A} (e : b ≡ after made start) where
    abbrev First : List Write
    First = insert_writes l k t (take l.width ws)

    -- the next record's stores are not all made
    pub several-stopped : m - n < length First → after (take (m - n) First) b ≡ after (take m ps) start
    several-stopped g =
        let p = underway-parts u in
        sym
        (ap (λ x. after (take m x) start) p.1
        ∙ after-append laws made (First ++ p.0) m start
        ∙ ap₂ (λ x v. after (take (m - x) (First ++ p.0)) v) (sym c) (after-all laws made m start (omega (arith, c)) ∙ sym e)
        ∙ after-first laws First p.0 (m - n) b (omega (arith, g)))

    -- they are
    pub several-next : length First ≤ m - n → {a : List A} → a ≡ after (take (m - n) First) b
        → (words_in a ≡ run First (words_in b)) × (a ≡ after (made ++ First) start)
    several-next g d =
        let q = d ∙ after-all laws First (m - n) b g in
        (ap words_in q ∙ laws.words First b, q ∙ ap (after First) e ∙ sym (laws.append made First start))

  -- the worn nodes are kept
  pub several-worn
      : {l : Layout} {k : ℕ} {t : Site} {start b : List A} (ws : List ℕ) → Room l (words_in start) k t (length ws / l.width)
      → length ws ≡ length ws / l.width * l.width → (m : ℕ)
      → b ≡ after (take m (chain_from l (words_in start) k t (length ws / l.width) ws)) start → KeepsWorn l (words_in start) (words_in b)
  several-worn {l} {k} {t} {start} {b} ws room whole m e =
      subst (KeepsWorn l (words_in start)) (sym (ap words_in e ∙ laws.words _ start))
      (room-keeps l (words_in start) k t (length ws / l.width) room ws (sym whole) m)

-- of the records, n words each, those behind record i
pub left-next : (i n : ℕ) (ws : List ℕ) → drop ((i + 1) * n) ws ≡ drop n (drop (i * n) ws)
left-next i n ws =
    let e : (i + 1) * n ≡ i * n + n = ap (λ (j : ℕ). j * n) (add-one i) ∙ omega (arith, suc-mul i n) in
    ap (λ (k : ℕ). drop k ws) e ∙ sym (drop-drop n (i * n) ws)

-- record i is the last exactly if no more words are left than its own
one-left : (q i n : ℕ) → 0 < n → i < q → q * n - i * n ≡ n → q ≡ i + 1
one-left zero i n h g e = absurd (omega arith)
one-left (suc zero) zero n h g e = refl
one-left (suc (suc q)) zero n h g e = absurd (omega (arith, e, suc-mul (suc q) n, suc-mul q n, zero-mul n))
one-left (suc q) (suc i) n h g e = omega (arith, one-left q i n h (omega arith) (omega (arith, e, suc-mul q n, suc-mul i n)))

pub left-last : (q i n : ℕ) (ws : List ℕ) → length ws ≡ q * n → q ≡ i + 1 → length (drop (i * n) ws) ≡ n
left-last q i n ws e z =
    let w : length ws ≡ suc i * n = e ∙ ap (λ (j : ℕ). j * n) (z ∙ add-one i) in
    omega (arith, w, length-drop (i * n) ws, suc-mul i n)

pub left-more : (q i n : ℕ) (ws : List ℕ) → 0 < n → length ws ≡ q * n → i + 1 < q → length (drop (i * n) ws) ≡ n → ⊥
left-more q i n ws h e g z = omega (arith, g, one-left q i n h (omega arith) (omega (arith, z, e, length-drop (i * n) ws)))
