-- Worn nodes are passed over: what the search finds is free, and where a call works is a free node, a member or a header.
use Prim.Native.Nat.{ℕ, ◌+◌, ◌/◌, ◌%◌, ◌<◌}
use mathlib.Core.Path.{◌≡◌, refl, sym, subst}
use mathlib.Core.List.{List, [], ◌∷◌, ◌++◌}
use mathlib.Core.Bool.{Bool, true, false, ◌&&◌}
use native.Mathlib.Omega.{arith}
use lib.Dec.{leb, ltb, eqb}
use lib.ListN.{length, get_or}
use borrow.Author.Tests.{ltb-true, eqb-true}
use Rattle.sequences.specs.Sequence.{◌∈◌}
use Rattle.sequences.proofs.Members.{all-nth, at_in}
use Rattle.std.specs.Prelude.{Option, Some, None, Result, Ok, Err}
use Rattle.layout.specs.declared.Refusal.{Refusal}
use Rattle.layout.specs.declared.Refusal.TheVariants.{NoList, Unsound, NoPosition, NoNode, RecordSize, Full, NotFree}
use Rattle.requests.specs.declared.Look.{Look}
use Rattle.layout.specs.declared.Layout.{Layout}
use Rattle.layout.specs.Words.{InRange, ask, is_node, ident_of, worn_ident, worn, is_free, opened, after_open}
use Rattle.layout.proofs.Laws.{opened-open}
use Rattle.lists.specs.Decide.{View, view_of, count_in, sequence_in, sound_in}
use Rattle.lists.proofs.Agree.{Holds, holds-true}
use Rattle.lists.proofs.Nodes.{list-used}
use Rattle.lists.proofs.Stepwise.{sound-hold}
use Rattle.requests.specs.declared.Request.{Request}
use Rattle.requests.specs.declared.Request.TheVariants.{Check, Whole, Member, Gap, Gaps, Mark}
use Rattle.requests.specs.declared.Site.{Site}
use Rattle.requests.specs.Sites.{gap_site, next_site}
use Rattle.requests.specs.Requests.{next_cell, around, first_free, with_free, free_cells, nth, of_list, member_at, free_gap, gap_at, gaps_at, mark_at, site_in, site_of, look_of, with_site, at_site, FoundUnworn, SitedUnworn, LookedUnworn}
use Rattle.requests.proofs.Turn.{free_in}
use Rattle.requests.proofs.Search.{nth-cell, nth-first}

-- an equation, and what is so of its right side
said {ℓ} : {A : Type ℓ} {x y : A} (P : A → Type 0) → x ≡ y → P y → (x ≡ y) × P x
said P e h = (e, subst P (sym e) h)

free-unworn : {x : ℕ} → is_free x ≡ true → x ≡ worn_ident → ⊥
free-unworn {x} e z = omega (arith, eqb-true x 0 e, z)

-- the search: of the cell at any place, and of the first
nth-unworn : (ident : ℕ → ℕ) (cells : List ℕ) (i : ℕ) → FoundUnworn ident (nth (free_cells ident cells) i)
nth-unworn ident cells i = by (nth (free_cells ident cells) i) refl
  where
    by : (f : Option ℕ) → nth (free_cells ident cells) i ≡ f → FoundUnworn ident f
    by None e = tt
    by (Some x) e =
        let r = nth-cell (free_cells ident cells) i x e in
        let m = free_in ident cells x (subst (λ (y : ℕ). y ∈ free_cells ident cells) (sym r.1) (at_in (free_cells ident cells) i r.0)) in
        λ z. omega (arith, m.1, z)

found-unworn : (ident : ℕ → ℕ) (cells : List ℕ) → FoundUnworn ident (first_free ident cells)
found-unworn ident cells = subst (FoundUnworn ident) (nth-first ident cells) (nth-unworn ident cells 0)

-- questions in front
module _ (ident : ℕ → ℕ) where
  asked : (b : Bool) (n : Refusal) (r : Result Site Refusal) → (b ≡ true → SitedUnworn ident r) → SitedUnworn ident (ask b (Err n) r)
  asked true n r h = h refl
  asked false n r h = tt

  three-asked : (a b d : Bool) (r : Result Site Refusal) → SitedUnworn ident r → SitedUnworn ident (ask a (Err NoPosition) (ask b (Err NoNode) (ask d (Err RecordSize) r)))
  three-asked true true true r h = h
  three-asked true true false r h = tt
  three-asked true false d r h = tt
  three-asked false b d r h = tt

-- the gaps
module _ (l : Layout) (ident : ℕ → ℕ) (k p c : ℕ) (s : List ℕ) where
  free-gap-unworn : SitedUnworn ident (free_gap l ident k p c s)
  free-gap-unworn = by (first_free ident (around l c l.nodes)) (found-unworn ident (around l c l.nodes))
    where
      by : (f : Option ℕ) → FoundUnworn ident f → SitedUnworn ident (with_free f (Err Full) (λ i. Ok (gap_site k p i s)))
      by None h = tt
      by (Some i) h = h

  gap-unworn : (m : ℕ) → SitedUnworn ident (gap_at l ident k p c m s)
  unfolding gap_at
  gap-unworn m = three-asked ident (leb p (length s)) (is_node l c) (eqb m l.width) (free_gap l ident k p c s) free-gap-unworn

  gaps-unworn : (m : ℕ) → SitedUnworn ident (gaps_at l ident k p c m s)
  unfolding gaps_at
  gaps-unworn m =
      let enough = leb (m / l.width) (length (free_cells ident (around l c l.nodes))) in
      three-asked ident (leb p (length s)) (is_node l c) (ltb 0 m && eqb (m % l.width) 0) (ask enough (Err Full) (free_gap l ident k p c s))
      (asked ident enough Full (free_gap l ident k p c s) (λ _. free-gap-unworn))

mark-unworn : (l : Layout) (ident : ℕ → ℕ) (c : ℕ) → SitedUnworn ident (mark_at l ident c)
mark-unworn l ident c =
    let site = Ok (record { before = 0; cell = c; after = 0; count = 0 }) in
    asked ident (is_node l c) NoNode (ask (is_free (ident c)) (Err NotFree) site) (λ _. asked ident (is_free (ident c)) NotFree site free-unworn)

-- the site of any request
module _ (l : Layout) (r : InRange l) (v : View) (count : ℕ → ℕ) where
  held : sound_in l v count ≡ true → (k : ℕ) → k < l.lists → Holds v k (count k) (sequence_in l v k)
  held e k h = holds-true v k (count k) (sequence_in l v k) (sound-hold l v count e k h)

  member-unworn : (k p : ℕ) → k < l.lists → sound_in l v count ≡ true → SitedUnworn v.ident (member_at k p (sequence_in l v k))
  unfolding member_at
  member-unworn k p h e = by (ltb p (length (sequence_in l v k))) refl
    where
      by : (b : Bool) → ltb p (length (sequence_in l v k)) ≡ b
          → SitedUnworn v.ident (ask b (Err NoPosition)
          (Ok (record {
            before = get_or (k ∷ sequence_in l v k) p 0;
            cell = get_or (sequence_in l v k) p 0;
            after = get_or (sequence_in l v k ++ k ∷ []) (p + 1) 0;
            count = length (sequence_in l v k);
          })))
      by true g =
          λ z.
          list-used r h
          (all-nth (λ x. v.ident x ≡ ident_of k) (sequence_in l v k) p 0 (held e k h).turn.idents (ltb-true p (length (sequence_in l v k)) g))
          (worn z)
      by false g = tt

  of-list : (k : ℕ) (rest : List ℕ → Result Site Refusal) → (k < l.lists → sound_in l v count ≡ true → SitedUnworn v.ident (rest (sequence_in l v k)))
      → SitedUnworn v.ident (of_list l v count k rest)
  of-list k rest h =
      asked v.ident (ltb k l.lists) NoList (ask (sound_in l v count) (Err Unsound) (rest (sequence_in l v k)))
      (λ g. asked v.ident (sound_in l v count) Unsound (rest (sequence_in l v k)) (λ e. h (ltb-true k l.lists g) e))

  site-unworn : (q : Request) → SitedUnworn v.ident (site_in l v count q)
  unfolding site_in
  site-unworn Check =
      asked v.ident (sound_in l v count) Unsound (Ok (record { before = 0; cell = 0; after = 0; count = 0 }))
      (λ e. let h : 0 < l.lists = omega (arith, r.some_lists) in λ z. list-used r h (held e 0 h).ident (worn z))
  site-unworn (Whole k) =
      of-list k (λ s. Ok (record { before = k; cell = k; after = k; count = length s })) (λ h e z. list-used r h (held e k h).ident (worn z))
  site-unworn (Member k p) = of-list k (member_at k p) (λ h e. member-unworn k p h e)
  site-unworn (Gap k p c m) = of-list k (gap_at l v.ident k p c m) (λ h e. gap-unworn l v.ident k p c (sequence_in l v k) m)
  site-unworn (Gaps k p c m) = of-list k (gaps_at l v.ident k p c m) (λ h e. gaps-unworn l v.ident k p c (sequence_in l v k) m)
  site-unworn (Mark c) = asked v.ident (sound_in l v count) Unsound (mark_at l v.ident c) (λ e. mark-unworn l v.ident c)

-- and of all questions
look-unworn : (w : List ℕ) (q : Request) → LookedUnworn w (look_of w q)
unfolding look_of
look-unworn w q = by (opened w) refl
  where
    sited : (l : Layout) (x : Result Site Refusal) → SitedUnworn (view_of l w).ident x → LookedUnworn w (with_site x Err (at_site l))
    sited l (Err n) h = tt
    sited l (Ok t) h = h

    by : (o : Result Layout Refusal) → opened w ≡ o → LookedUnworn w (after_open o Err (λ l. with_site (site_of l w q) Err (at_site l)))
    by (Err n) e = tt
    by (Ok l) e = sited l (site_of l w q) (site-unworn l (opened-open w l e).2 (view_of l w) (count_in l w) q)

-- as the functions that search and their callers say it: with what they find
pub found-said : (ident : ℕ → ℕ) (cells : List ℕ) (i : ℕ) {r : Option ℕ} → r ≡ nth (free_cells ident cells) i
    → (r ≡ nth (free_cells ident cells) i) × FoundUnworn ident r
found-said ident cells i e = said (FoundUnworn ident) e (nth-unworn ident cells i)

pub free-gap-said : (l : Layout) (ident : ℕ → ℕ) (k p c : ℕ) (s : List ℕ) {r : Result Site Refusal} → r ≡ free_gap l ident k p c s
    → (r ≡ free_gap l ident k p c s) × SitedUnworn ident r
free-gap-said l ident k p c s e = said (SitedUnworn ident) e (free-gap-unworn l ident k p c s)

pub gap-said : (l : Layout) (ident : ℕ → ℕ) (k p c m : ℕ) (s : List ℕ) {r : Result Site Refusal} → r ≡ gap_at l ident k p c m s
    → (r ≡ gap_at l ident k p c m s) × SitedUnworn ident r
gap-said l ident k p c m s e = said (SitedUnworn ident) e (gap-unworn l ident k p c s m)

pub gaps-said : (l : Layout) (ident : ℕ → ℕ) (k p c m : ℕ) (s : List ℕ) {r : Result Site Refusal} → r ≡ gaps_at l ident k p c m s
    → (r ≡ gaps_at l ident k p c m s) × SitedUnworn ident r
gaps-said l ident k p c m s e = said (SitedUnworn ident) e (gaps-unworn l ident k p c s m)

pub next-said : (l : Layout) (ident : ℕ → ℕ) (t : Site) {r : Site} → r ≡ next_site l ident t
    → (r ≡ next_site l ident t) × ((ident t.cell ≡ worn_ident → ⊥) → ident r.cell ≡ worn_ident → ⊥)
unfolding next_site
next-said l ident t e =
    said (λ (u : Site). (ident t.cell ≡ worn_ident → ⊥) → ident u.cell ≡ worn_ident → ⊥) e
    (by (first_free ident (around l (next_cell l t.cell) l.nodes)) (found-unworn ident _))
  where
    by : (f : Option ℕ) → FoundUnworn ident f → (ident t.cell ≡ worn_ident → ⊥)
        → ident (with_free f t (λ x. record { before = t.cell; cell = x; after = t.after; count = t.count + 1 })).cell ≡ worn_ident → ⊥
    by None h old = old
    by (Some x) h old = h

pub site-said : (l : Layout) → InRange l → (v : View) (count : ℕ → ℕ) (q : Request) {r : Result Site Refusal} → r ≡ site_in l v count q
    → (r ≡ site_in l v count q) × SitedUnworn v.ident r
site-said l r v count q e = said (SitedUnworn v.ident) e (site-unworn l r v count q)

pub look-said : (w : List ℕ) (q : Request) {r : Result Look Refusal} → r ≡ look_of w q → (r ≡ look_of w q) × LookedUnworn w r
look-said w q e = said (LookedUnworn w) e (look-unworn w q)
