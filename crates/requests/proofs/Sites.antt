-- Laws of the sites of a list that holds: what is found at a position.
use Prim.Native.Nat.{ℕ, ◌+◌, ◌-◌, ◌*◌, ◌/◌, ◌%◌, ◌≤◌, ◌<◌}
use mathlib.Core.Path.{◌≡◌, refl, ap, ap₂, ◌∙◌, sym, subst⁻¹}
use mathlib.Core.List.{List, [], ◌∷◌, ◌++◌}
use mathlib.Core.Bool.{Bool, true, false, ◌&&◌, and-eq-true_iff}
use native.Mathlib.Omega.{arith}
use native.Mathlib.Decide.{ℕ_discrete}
use native.Mathlib.Nat.{div-add-mod', zero-mul}
use native.Mathlib.Numerals.{add-one}
use lib.Dec.{eqb, leb, ltb}
use lib.ListN.{length, get_or}
use borrow.Author.Tests.{lt-ltb, le-ltb, le-leb, lt-leb, leb-true, ltb-true, eqb-true}
use Rattle.std.specs.Prelude.{Option, Some, None, Result, Ok, Err}
use Rattle.layout.specs.declared.Refusal.{Refusal}
use Rattle.layout.specs.declared.Refusal.TheVariants.{NoList, Unsound, NoPosition, NoNode, RecordSize, Full}
use Rattle.requests.specs.declared.Ends.{Ends}
use Rattle.layout.specs.declared.Layout.{Layout}
use Rattle.layout.specs.Words.{Node, is_node, cell_count, ask, opened, after_open}
use Rattle.layout.proofs.Laws.{is-node}
use Rattle.lists.specs.Decide.{View, view_of, count_in, sequence_in, sequence_of, sound_in, HeldList}
use Rattle.lists.proofs.Ring.{held-count, ring-node, ring-inside, ring-end, ring-after, ring-before}
use Rattle.requests.specs.declared.Site.{Site}
use Rattle.requests.specs.declared.Request.TheVariants.{Whole, Gaps}
use Rattle.requests.specs.Requests.{next_cell, around, first_free, with_free, free_cells, nth, ends_of, member_at, ask_gap, free_gap, gap_at, ask_gaps, gaps_at, ends_at, with_ends, site_in, site_of, with_site, at_site, look_of, with_look}
use Rattle.requests.specs.Sites.{gap_site, next_site}
use Rattle.requests.proofs.Laws.{gap-granted, gap-refused, gaps_asked, gaps-granted, gaps-refused}
use Rattle.requests.proofs.Search.{nth-cell, nth-none, nth-at, nth-first}

module _ {l : Layout} {v : View} {k n : ℕ} (h : HeldList l v k n) where
  abbrev members : List ℕ
  members = sequence_in l v k

  -- the member at a position: no such, or its site, which its own links give
  pub member-past : (p : ℕ) → n ≤ p → Err NoPosition ≡ member_at k p members
  unfolding member_at
  member-past p g = rw (le-ltb p (length members) (omega (arith, held-count h)))

  module _ (p : ℕ) (g : p < n) {c : ℕ} (q : c ≡ get_or (k ∷ members) (p + 1) 0) where
    pub member-node : Node l c
    member-node = subst⁻¹ (Node l) q (ring-node h (p + 1) (omega arith) (omega arith))

    member-before : v.back c ≡ get_or (k ∷ members) p 0
    member-before = ap v.back q ∙ ring-before h p g

    member-after : v.forward c ≡ get_or (members ++ k ∷ []) (p + 1) 0
    member-after = ap v.forward q ∙ ring-after h (p + 1) (omega arith)

    pub member-links : (v.back c < cell_count l) × (v.forward c < cell_count l)
    member-links = rw (member-before, member-after) (ring-inside h p (omega arith), ring-end h (p + 1) (omega arith))

    pub member-found : Ok (record { before = v.back c; cell = c; after = v.forward c; count = n }) ≡ member_at k p members
    unfolding member_at
    member-found =
        let m : c ≡ get_or members p 0 = q ∙ rw add-one in
        rw (lt-ltb p (length members) (omega (arith, held-count h)))
        (λ i. Ok (record { before = member-before i; cell = m i; after = member-after i; count = held-count h i }))

  -- the gap at a position, behind cell x
  module _ (p : ℕ) (g : p ≤ n) {x : ℕ} (q : x ≡ get_or (k ∷ members) p 0) where
    pub gap-cell : x < cell_count l
    gap-cell = rw q (ring-inside h p g)

    gap-after : v.forward x ≡ get_or (members ++ k ∷ []) p 0
    gap-after = ap v.forward q ∙ ring-after h p g

    pub gap-link : v.forward x < cell_count l
    gap-link = rw gap-after (ring-end h p g)

    pub gap-found : (c : ℕ) → record { before = x; cell = c; after = v.forward x; count = n } ≡ gap_site k p c members
    gap-found c = λ i. record { before = q i; cell = c; after = gap-after i; count = held-count h i }

-- the gap of list k, of members s, at position p, with a free cell searched from cell c
module _ (l : Layout) (ident : ℕ → ℕ) (k p c : ℕ) (s : List ℕ) where
  -- no free cell, or the site
  pub gap-full : None ≡ first_free ident (around l c l.nodes) → Err Full ≡ free_gap l ident k p c s
  gap-full g = rw (← g)

  pub gap-free : {x : ℕ} → Some x ≡ first_free ident (around l c l.nodes) → Ok (gap_site k p x s) ≡ free_gap l ident k p c s
  gap-free g = rw (← g)

  -- refused by question 7, 8 or 9, or not
  module _ {n : ℕ} (h : n ≡ length s) (m : ℕ) {r : Result (Unit {0}) Refusal} (e : r ≡ ask_gap l n p c m Err (Ok tt)) where
    pub gap-shut : {x : Refusal} → r ≡ Err x → Err x ≡ gap_at l ident k p c m s
    unfolding gap_at
    gap-shut z = rw (← h) (sym (gap-refused l n p c m e Err _ z))

    pub gap-open : {u : Unit {0}} → r ≡ Ok u → free_gap l ident k p c s ≡ gap_at l ident k p c m s
    unfolding gap_at
    gap-open z = rw (← h) (sym (gap-granted l n p c m e Err _ z))

-- words that are whole records, and not none, are one record or more
pub some-whole : (m w : ℕ) → 0 < m → m ≡ m / w * w → 0 < m / w
some-whole m w h e = by (ℕ_discrete (m / w) 0)
  where
    by : Dec (m / w ≡ 0) → 0 < m / w
    by (yes q) = absurd (omega (arith, e, ap (λ (i : ℕ). i * w) q, zero-mul w))
    by (no q) = omega arith

some-records : (m w : ℕ) → 0 < m → m % w ≡ 0 → 0 < m / w
some-records m w h z = some-whole m w h (omega (arith, z, div-add-mod' m w))

-- the ends of the free cells for several records, m words in all, into a list of n members
module _ (l : Layout) (ident : ℕ → ℕ) (n p c m : ℕ) where
  abbrev met : List ℕ
  met = free_cells ident (around l c l.nodes)

  -- refused by question 7, 8 or 9, or by question 10, or not
  module _ {r : Result (Unit {0}) Refusal} (e : r ≡ ask_gaps l n p c m Err (Ok tt)) where
    pub ends-shut : {x : Refusal} → r ≡ Err x → Err x ≡ ends_at l ident n p c m
    unfolding ends_at
    ends-shut z = sym (gaps-refused l n p c m e Err _ z)

    module _ {u : Unit {0}} (z : r ≡ Ok u) where
      pub ends_some : 0 < m / l.width
      ends_some = let a = gaps_asked l n p c m e z in some-records m l.width a.2 a.3

      few : length met < m / l.width → Err Full ≡ ends_at l ident n p c m
      unfolding ends_at
      few g = sym (gaps-granted l n p c m e Err _ z ∙ rw (lt-leb (m / l.width) (length met) g))

      pub ends-none : nth met 0 ≡ None → Err Full ≡ ends_at l ident n p c m
      ends-none f = few (omega (arith, ends_some, nth-none met 0 f))

      pub ends-short : nth met (m / l.width - 1) ≡ None → Err Full ≡ ends_at l ident n p c m
      ends-short f = few (omega (arith, ends_some, nth-none met (m / l.width - 1) f))

      pub ends-cells : {a b : ℕ} → nth met 0 ≡ Some a → nth met (m / l.width - 1) ≡ Some b → Ok (record { first = a; last = b }) ≡ ends_at l ident n p c m
      unfolding ends_at
      ends-cells {a} {b} f g =
          let x = nth-cell met 0 a f in
          let y = nth-cell met (m / l.width - 1) b g in
          ap₂ (λ (a b : ℕ). Ok (record { first = a; last = b })) x.1 y.1
          ∙ sym (gaps-granted l n p c m e Err _ z ∙ rw (le-leb (m / l.width) (length met) (omega (arith, y.0))))

  -- what they tell
  pub ends-facts : {a b : ℕ} → ends_at l ident n p c m ≡ Ok (record { first = a; last = b })
      → (p ≤ n) × Node l c × (0 < m) × (m ≡ m / l.width * l.width) × (m / l.width ≤ length met) × (ends_of met (m / l.width) ≡ record { first = a; last = b })
  unfolding ends_at
  ends-facts {a} {b} e =
      let f = yes-cells (leb p n) _ _ e in
      let g = yes-cells (is_node l c) _ _ f.1 in
      let h = yes-cells (ltb 0 m && eqb (m % l.width) 0) _ _ g.1 in
      let i = yes-cells (leb (m / l.width) (length met)) _ _ h.1 in
      let q = (and-eq-true_iff (ltb 0 m) (eqb (m % l.width) 0)).0 h.0 in (
        leb-true p n f.0,
        is-node l c g.0,
        ltb-true 0 m q.0,
        whole-records (eqb-true (m % l.width) 0 q.1),
        leb-true (m / l.width) (length met) i.0,
        cc i.1,
      )
    where
      yes-cells : (y : Bool) (k : Refusal) (x : Result Ends Refusal) → ask y (Err k) x ≡ Ok (record { first = a; last = b }) → (y ≡ true) × (x ≡ Ok (record { first = a; last = b }))
      yes-cells true k x e = (refl, e)
      yes-cells false k x e = let z : ◌≡◌ {A = ℕ} 0 1 = cc in absurd (omega arith)

      whole-records : m % l.width ≡ 0 → m ≡ m / l.width * l.width
      whole-records z = omega (arith, z, div-add-mod' m l.width)

-- the gap for several records is that with the first of their cells
pub gaps-ends : (l : Layout) (ident : ℕ → ℕ) (k p c m : ℕ) (s : List ℕ)
    → gaps_at l ident k p c m s ≡ with_ends (ends_at l ident (length s) p c m) Err (λ a b. Ok (gap_site k p a s))
unfolding gaps_at ends_at
gaps-ends l ident k p c m s =
    by (leb p (length s)) (is_node l c) (ltb 0 m && eqb (m % l.width) 0) refl (leb (m / l.width) (length cells)) refl
  where
    cells : List ℕ
    cells = free_cells ident (around l c l.nodes)

    by : (a b d : Bool) → (ltb 0 m && eqb (m % l.width) 0) ≡ d → (f : Bool) → leb (m / l.width) (length cells) ≡ f
        → ask a (Err NoPosition) (ask b (Err NoNode) (ask d (Err RecordSize) (ask f (Err Full) (free_gap l ident k p c s))))
        ≡ with_ends (ask a (Err NoPosition) (ask b (Err NoNode) (ask d (Err RecordSize) (ask f (Err Full) (Ok (ends_of cells (m / l.width)))))))
        Err (λ a b. Ok (gap_site k p a s))
    by false b d g f h = refl
    by true false d g f h = refl
    by true true false g f h = refl
    by true true true g false h = refl
    by true true true g true h =
        let q = (and-eq-true_iff (ltb 0 m) (eqb (m % l.width) 0)).0 g in
        let some = some-records m l.width (ltb-true 0 m q.0) (eqb-true (m % l.width) 0 q.1) in
        sym
        (gap-free l ident k p c s
        (sym (nth-at cells 0 (omega (arith, some, leb-true (m / l.width) (length cells) h))) ∙ nth-first ident (around l c l.nodes)))

-- so the questions of several records are those of the whole list, and then those of their cells
pub look-gaps : (w : List ℕ) (k p c m : ℕ)
    → look_of w (Gaps k p c m)
    ≡ with_look (look_of w (Whole k)) Err
    (λ l t. with_ends (ends_at l (view_of l w).ident t.count p c m) Err (λ a b. at_site l (gap_site k p a (sequence_of l w k))))
unfolding look_of site_in
look-gaps w k p c m = by (opened w)
  where
    ended : (l : Layout) (s : List ℕ) (x : Result Ends Refusal)
        → with_site (with_ends x Err (λ a b. Ok (gap_site k p a s))) Err (at_site l) ≡ with_ends x Err (λ a b. at_site l (gap_site k p a s))
    ended l s (Err n) = refl
    ended l s (Ok e) = refl

    sited : (l : Layout) (a b : Bool)
        → (let s = sequence_of l w k in
        with_site (ask a (Err NoList) (ask b (Err Unsound) (gaps_at l (view_of l w).ident k p c m s))) Err (at_site l)
        ≡ with_look (with_site (ask a (Err NoList) (ask b (Err Unsound) (Ok (record { before = k; cell = k; after = k; count = length s })))) Err (at_site l)) Err
        (λ l t. with_ends (ends_at l (view_of l w).ident t.count p c m) Err (λ a b. at_site l (gap_site k p a (sequence_of l w k)))))
    sited l false b = refl
    sited l true false = refl
    sited l true true =
        let s = sequence_of l w k in
        let ident = (view_of l w).ident in
        ap (λ (x : Result Site Refusal). with_site x Err (at_site l)) (gaps-ends l ident k p c m s) ∙ ended l s (ends_at l ident (length s) p c m)

    by : (o : Result Layout Refusal)
        → after_open o Err (λ l. with_site (site_of l w (Gaps k p c m)) Err (at_site l))
        ≡ with_look (after_open o Err (λ l. with_site (site_of l w (Whole k)) Err (at_site l))) Err
        (λ l t. with_ends (ends_at l (view_of l w).ident t.count p c m) Err (λ a b. at_site l (gap_site k p a (sequence_of l w k))))
    by (Err n) = refl
    by (Ok l) = sited l (ltb k l.lists) (sound_in l (view_of l w) (count_in l w))

-- the next site: no cell is free, or the first that is
module _ (l : Layout) (ident : ℕ → ℕ) (t : Site) where
  pub next-full : None ≡ first_free ident (around l (next_cell l t.cell) l.nodes) → t ≡ next_site l ident t
  unfolding next_site
  next-full g = rw (← g)

  pub next-found : {x : ℕ} → Some x ≡ first_free ident (around l (next_cell l t.cell) l.nodes)
      → record { before = t.cell; cell = x; after = t.after; count = t.count + 1 } ≡ next_site l ident t
  unfolding next_site
  next-found g = rw (← g)

-- what the questions of several records tell: whole records, enough free cells, and the gap with the first of them
pub record GapsFacts (l : Layout) (ident : ℕ → ℕ) (k p c m : ℕ) (s : List ℕ) (t : Site) : Type 0 where
  pub position : p ≤ length s
  pub start : Node l c
  pub some : 0 < m
  pub whole : m ≡ m / l.width * l.width
  pub enough : m / l.width ≤ length (free_cells ident (around l c l.nodes))
  pub first : first_free ident (around l c l.nodes) ≡ Some t.cell
  pub site : t ≡ gap_site k p t.cell s

pub gaps-facts : (l : Layout) (ident : ℕ → ℕ) (k p c m : ℕ) (s : List ℕ) (t : Site) → gaps_at l ident k p c m s ≡ Ok t → GapsFacts l ident k p c m s t
unfolding gaps_at
gaps-facts l ident k p c m s t e =
    let a = yes-at (leb p (length s)) _ _ t e in
    let b = yes-at (is_node l c) _ _ t a.1 in
    let d = yes-at (ltb 0 m && eqb (m % l.width) 0) _ _ t b.1 in
    let f = yes-at (leb (m / l.width) (length (free_cells ident (around l c l.nodes)))) _ _ t d.1 in
    let q = (and-eq-true_iff (ltb 0 m) (eqb (m % l.width) 0)).0 d.0 in
    let g = found (first_free ident (around l c l.nodes)) refl f.1 in
    record {
      position = leb-true p (length s) a.0;
      start = is-node l c b.0;
      some = ltb-true 0 m q.0;
      whole = omega (arith, eqb-true (m % l.width) 0 q.1, div-add-mod' m l.width);
      enough = leb-true (m / l.width) (length (free_cells ident (around l c l.nodes))) f.0;
      first = g.0;
      site = g.1;
    }
  where
    yes-at : (b : Bool) (n : Refusal) (r : Result Site Refusal) (t : Site) → ask b (Err n) r ≡ Ok t → (b ≡ true) × (r ≡ Ok t)
    yes-at true n r t e = (refl, e)
    yes-at false n r t e = let z : ◌≡◌ {A = ℕ} 0 1 = cc in absurd (omega arith)

    found : (x : Option ℕ) → first_free ident (around l c l.nodes) ≡ x → with_free x (Err Full) (λ i. Ok (gap_site k p i s)) ≡ Ok t
        → (first_free ident (around l c l.nodes) ≡ Some t.cell) × (t ≡ gap_site k p t.cell s)
    found None q e = let z : ◌≡◌ {A = ℕ} 0 1 = cc in absurd (omega arith)
    found (Some i) q e =
        let u : gap_site k p i s ≡ t = cc in
        let v : i ≡ t.cell = ap (λ (x : Site). x.cell) u in
        (q ∙ ap Some v, sym u ∙ ap (λ (x : ℕ). gap_site k p x s) v)
