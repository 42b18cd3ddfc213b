-- Laws of the search for a free node, and of the questions of a request.
use Prim.Native.Nat.{ℕ, suc, ◌+◌, ◌-◌, ◌%◌, ◌≤◌, ◌<◌}
use mathlib.Core.Path.{◌≡◌, refl, sym, ap, ap₂, ◌∙◌}
use mathlib.Core.List.{List}
use mathlib.Core.Bool.{Bool, true, false, ◌&&◌, and-eq-true_iff}
use native.Mathlib.Omega.{arith}
use native.Mathlib.Decide.{ℕ_discrete}
use lib.Dec.{eqb, leb, ltb}
use borrow.Author.Tests.{lt-ltb, le-ltb, eq-eqb, ne_eqb, leb-true, ltb-true, eqb-true}
use Rattle.sequences.specs.Sequence.{filter}
use Rattle.std.specs.Prelude.{Option, Some, None, Result, Ok, Err}
use Rattle.layout.specs.declared.Refusal.{Refusal}
use Rattle.layout.specs.declared.Refusal.TheVariants.{NoList, Unsound, NoPosition, NoNode, RecordSize}
use Rattle.layout.specs.declared.Layout.{Layout}
use Rattle.layout.specs.Words.{first_node, cell_count, Node, is_node, InRange, Laid, ask, opened, is_free}
use Rattle.layout.proofs.Laws.{opened-open, is-node}
use Rattle.lists.specs.Decide.{View, sequence_in, sound_in}
use Rattle.lists.proofs.Stepwise.{sound-count, sound-same}
use Rattle.requests.specs.declared.Site.{Site}
use Rattle.requests.specs.declared.Request.{Request}
use Rattle.requests.specs.declared.Request.TheVariants.{Check, Whole, Member, Gap, Gaps, Mark}
use Rattle.requests.specs.Requests.{next_cell, around, nth, free_cells, member_at, ask_gap, ask_gaps, gap_at, gaps_at, mark_at, site_in, list_of, site_of, at_site, look_of}

-- the node after a node: the first after the last, else the next
module _ (l : Layout) (c : ℕ) where
  pub next-wraps : c + 1 ≡ cell_count l → next_cell l c ≡ first_node l
  unfolding next_cell
  next-wraps e = rw (eq-eqb _ _ e)

  pub next-follows : (c + 1 ≡ cell_count l → ⊥) → next_cell l c ≡ c + 1
  unfolding next_cell
  next-follows e = rw (ne_eqb _ _ e)

  -- it is a node too
  pub next-node : InRange l → Node l c → Node l (next_cell l c)
  next-node r n = by (ℕ_discrete (c + 1) (cell_count l))
    where
      by : Dec (c + 1 ≡ cell_count l) → Node l (next_cell l c)
      by (yes e) = let q = next-wraps e in record { low = omega arith; high = omega arith }
      by (no e) = let q = next-follows e in record { low = omega arith; high = omega arith }

-- of the free ones among n cells from c on, that at place i: c itself, or one of those after it, or none
module _ (l : Layout) (ident : ℕ → ℕ) (c n i : ℕ) where
  abbrev found : Option ℕ
  found = nth (free_cells ident (around l c n)) i

  abbrev later : ℕ → Option ℕ
  later j = nth (free_cells ident (around l (next_cell l c) (n - 1))) j

  pub free-here : 0 < n → is_free (ident c) ≡ true → i ≡ 0 → Some c ≡ found
  unfolding around filter nth
  free-here h e z = let m : n ≡ suc (n - 1) = omega arith in rw (m, e, z)

  pub free-passed : 0 < n → is_free (ident c) ≡ true → (i ≡ 0 → ⊥) → found ≡ later (i - 1)
  unfolding around filter nth
  free-passed h e z =
      let m : n ≡ suc (n - 1) = omega arith in
      let j : i ≡ suc (i - 1) = omega arith in
      ap₂ (λ (x y : ℕ). nth (free_cells ident (around l c x)) y) m j ∙ rw e

  pub free-later : 0 < n → is_free (ident c) ≡ false → found ≡ later i
  unfolding around filter
  free-later h e =
      let m : n ≡ suc (n - 1) = omega arith in
      ap (λ (x : ℕ). nth (free_cells ident (around l c x)) i) m ∙ rw e

  pub free-none : n ≡ 0 → None ≡ found
  unfolding around filter nth
  free-none e = rw e

-- three questions in a row: none is answered no, or the first no refuses
module _ (a b d : Bool) where
  abbrev three {ℓ} : {A : Type ℓ} → (Refusal → A) → A → A
  three refuse rest = ask a (refuse NoPosition) (ask b (refuse NoNode) (ask d (refuse RecordSize) rest))

  abbrev asked : Result (Unit {0}) Refusal
  asked = three Err (Ok tt)

three-yes : (a b d : Bool) {u : Unit {0}} → asked a b d ≡ Ok u → (a ≡ true) × (b ≡ true) × (d ≡ true)
three-yes true true true e = (refl, refl, refl)
three-yes true true false e = let z : ◌≡◌ {A = ℕ} 0 1 = cc in absurd (omega arith)
three-yes true false d e = let z : ◌≡◌ {A = ℕ} 0 1 = cc in absurd (omega arith)
three-yes false b d e = let z : ◌≡◌ {A = ℕ} 0 1 = cc in absurd (omega arith)

three-no {ℓ} : {A : Type ℓ} (a b d : Bool) (refuse : Refusal → A) (rest : A) {k : Refusal} → asked a b d ≡ Err k → three a b d refuse rest ≡ refuse k
three-no true true true refuse rest e = let z : ◌≡◌ {A = ℕ} 0 1 = cc in absurd (omega arith)
three-no true true false refuse rest {k} e = let q : RecordSize ≡ k = cc in ap refuse q
three-no true false d refuse rest {k} e = let q : NoNode ≡ k = cc in ap refuse q
three-no false b d refuse rest {k} e = let q : NoPosition ≡ k = cc in ap refuse q

-- questions 7 to 9 with r for their outcome: all are answered yes, or r refuses
module _ (l : Layout) (n p c m : ℕ) {r : Result (Unit {0}) Refusal} (e : r ≡ ask_gap l n p c m Err (Ok tt)) where
  pub gap-asked : {u : Unit {0}} → r ≡ Ok u → (p ≤ n) × Node l c × (m ≡ l.width)
  gap-asked z =
      let y = three-yes (leb p n) (is_node l c) (eqb m l.width) (sym e ∙ z) in
      (leb-true p n y.0, is-node l c y.1, eqb-true m l.width y.2)

  pub gap-granted {ℓ} : {A : Type ℓ} (refuse : Refusal → A) (rest : A) {u : Unit {0}} → r ≡ Ok u → ask_gap l n p c m refuse rest ≡ rest
  gap-granted refuse rest z = let y = three-yes (leb p n) (is_node l c) (eqb m l.width) (sym e ∙ z) in rw (y.0, y.1, y.2)

  pub gap-refused {ℓ} : {A : Type ℓ} (refuse : Refusal → A) (rest : A) {k : Refusal} → r ≡ Err k → ask_gap l n p c m refuse rest ≡ refuse k
  gap-refused refuse rest z = three-no (leb p n) (is_node l c) (eqb m l.width) refuse rest (sym e ∙ z)

-- the same of several records
module _ (l : Layout) (n p c m : ℕ) {r : Result (Unit {0}) Refusal} (e : r ≡ ask_gaps l n p c m Err (Ok tt)) where
  pub gaps_asked : {u : Unit {0}} → r ≡ Ok u → (p ≤ n) × Node l c × (0 < m) × (m % l.width ≡ 0)
  gaps_asked z =
      let y = three-yes (leb p n) (is_node l c) (ltb 0 m && eqb (m % l.width) 0) (sym e ∙ z) in
      let b = (and-eq-true_iff (ltb 0 m) (eqb (m % l.width) 0)).0 y.2 in
      (leb-true p n y.0, is-node l c y.1, ltb-true 0 m b.0, eqb-true (m % l.width) 0 b.1)

  pub gaps-granted {ℓ} : {A : Type ℓ} (refuse : Refusal → A) (rest : A) {u : Unit {0}} → r ≡ Ok u → ask_gaps l n p c m refuse rest ≡ rest
  gaps-granted refuse rest z =
      let y = three-yes (leb p n) (is_node l c) (ltb 0 m && eqb (m % l.width) 0) (sym e ∙ z) in
      rw (y.0, y.1, y.2)

  pub gaps-refused {ℓ} : {A : Type ℓ} (refuse : Refusal → A) (rest : A) {k : Refusal} → r ≡ Err k → ask_gaps l n p c m refuse rest ≡ refuse k
  gaps-refused refuse rest z = three-no (leb p n) (is_node l c) (ltb 0 m && eqb (m % l.width) 0) refuse rest (sym e ∙ z)

module _ (l : Layout) (v : View) (count : ℕ → ℕ) where
  -- question 5 of a request that names a list beyond the last; a check and a mark name none
  pub site-unlisted : (q : Request) → InRange l → l.lists ≤ list_of q → Err NoList ≡ site_in l v count q
  unfolding site_in
  site-unlisted Check r h = absurd (omega arith)
  site-unlisted (Whole k) r h = rw (le-ltb k l.lists h)
  site-unlisted (Member k p) r h = rw (le-ltb k l.lists h)
  site-unlisted (Gap k p c m) r h = rw (le-ltb k l.lists h)
  site-unlisted (Gaps k p c m) r h = rw (le-ltb k l.lists h)
  site-unlisted (Mark c) r h = absurd (omega arith)

  -- question 6
  pub site-unsound : (q : Request) → list_of q < l.lists → sound_in l v count ≡ false → Err Unsound ≡ site_in l v count q
  unfolding site_in
  site-unsound Check h e = rw e
  site-unsound (Whole k) h e = rw (lt-ltb k l.lists h, e)
  site-unsound (Member k p) h e = rw (lt-ltb k l.lists h, e)
  site-unsound (Gap k p c m) h e = rw (lt-ltb k l.lists h, e)
  site-unsound (Gaps k p c m) h e = rw (lt-ltb k l.lists h, e)
  site-unsound (Mark c) h e = rw e

  -- and what follows them
  module _ (q : Request) (h : list_of q < l.lists) (e : sound_in l v count ≡ true) where
    pub site-check : q ≡ Check → Ok (record { before = 0; cell = 0; after = 0; count = 0 }) ≡ site_in l v count q
    unfolding site_in
    site-check z = rw (z, e)

    pub site-whole : {k n : ℕ} → q ≡ Whole k → n ≡ count (list_of q) → Ok (record { before = k; cell = k; after = k; count = n }) ≡ site_in l v count q
    unfolding site_in
    site-whole {k} z m = rw (m, z, lt-ltb k l.lists (rw z at h), e, sound-count l v count e k (rw z at h))

    pub site-member : {k p : ℕ} → q ≡ Member k p → member_at k p (sequence_in l v k) ≡ site_in l v count q
    unfolding site_in
    site-member {k} z = rw (z, lt-ltb k l.lists (rw z at h), e)

    pub site-gap : {k p c m : ℕ} → q ≡ Gap k p c m → gap_at l v.ident k p c m (sequence_in l v k) ≡ site_in l v count q
    unfolding site_in
    site-gap {k} z = rw (z, lt-ltb k l.lists (rw z at h), e)

    pub site-gaps : {k p c m : ℕ} → q ≡ Gaps k p c m → gaps_at l v.ident k p c m (sequence_in l v k) ≡ site_in l v count q
    unfolding site_in
    site-gaps {k} z = rw (z, lt-ltb k l.lists (rw z at h), e)

    pub site-mark : {c : ℕ} → q ≡ Mark c → mark_at l v.ident c ≡ site_in l v count q
    unfolding site_in
    site-mark z = rw (z, e)

  -- of the counts only soundness asks, and only of the lists'
  pub site-same : (other : ℕ → ℕ) (q : Request) → ((k : ℕ) → k < l.lists → count k ≡ other k) → site_in l v count q ≡ site_in l v other q
  unfolding site_in
  site-same other Check h = rw (sound-same l v count other h)
  site-same other (Whole k) h = rw (sound-same l v count other h)
  site-same other (Member k p) h = rw (sound-same l v count other h)
  site-same other (Gap k p c m) h = rw (sound-same l v count other h)
  site-same other (Gaps k p c m) h = rw (sound-same l v count other h)
  site-same other (Mark c) h = rw (sound-same l v count other h)

-- an opened store is laid out
pub opened-laid : (w : List ℕ) (l : Layout) → opened w ≡ Ok l → Laid l w
opened-laid w l e = let o = opened-open w l e in record { in_range = o.2; exact = o.3 }

-- the outcome of all questions
module _ (w : List ℕ) (q : Request) where
  pub look-shut : {n : Refusal} → opened w ≡ Err n → Err n ≡ look_of w q
  unfolding look_of
  look-shut e = rw e

  pub look-refused : {l : Layout} {n : Refusal} → opened w ≡ Ok l → site_of l w q ≡ Err n → Err n ≡ look_of w q
  unfolding look_of
  look-refused e s = rw (e, s)

  pub look_at : {l : Layout} {t : Site} → opened w ≡ Ok l → site_of l w q ≡ Ok t → at_site l t ≡ look_of w q
  unfolding look_of
  look_at e s = rw (e, s)
