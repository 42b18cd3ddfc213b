-- A turn through all nodes from a cell on: it meets each node once, a turn begun later is the same turn rotated, and the free cells met.
use Prim.Native.Nat.{ℕ, zero, suc, ◌+◌, ◌-◌, ◌<◌, ◌≤◌}
use mathlib.Core.Path.{◌≡◌, refl, ap, ◌∙◌, sym, subst}
use mathlib.Core.List.Memᴰ
use mathlib.Core.List.{List, [], ◌∷◌, ◌++◌, append_assoc}
use mathlib.Core.Bool.{Bool, true, false, cond}
use native.Mathlib.Decide.{ℕ_discrete, dec_le}
use native.Mathlib.Omega.{arith}
use native.Mathlib.Numerals.{add-one}
use lib.Dec.{eqb}
use lib.ListN.{length, get_or, drop, length-append}
use borrow.Author.Tests.{eq-eqb, ne_eqb, eqb-true, eqb-false}
use Rattle.sequences.specs.Sequence.{◌∈◌, All, Different, range, filter}
use Rattle.sequences.proofs.Members.{all_in, in_all, different-append}
use Rattle.sequences.proofs.Range.{in-range, range-between, range-different, range-append}
use Rattle.sequences.proofs.Filter.{filter-in, in-filter, filter-append, filter_none, filter_same}
use Rattle.std.specs.Prelude.{Some}
use Rattle.layout.specs.declared.Layout.{Layout}
use Rattle.layout.specs.Words.{first_node, cell_count, Node, is_free}
use Rattle.lists.specs.Decide.{View, cells_with}
use Rattle.requests.specs.Requests.{next_cell, around, first_free, free_cells}
use Rattle.requests.proofs.Laws.{next-wraps, next-follows}

-- the cell after the last is the first node
next_up : (l : Layout) (c : ℕ) → c + 1 < cell_count l → next_cell l c ≡ suc c
next_up l c h = next-follows l c (λ e. omega arith) ∙ add-one c

-- counting up
around-up : (l : Layout) (c n : ℕ) → c + n ≤ cell_count l → around l c n ≡ range c n
unfolding around range
around-up l c zero h = refl
around-up l c (suc zero) h = refl
around-up l c (suc (suc n)) h =
    ap (λ (t : List ℕ). c ∷ t) (ap (λ (x : ℕ). around l x (suc n)) (next_up l c (omega arith)) ∙ around-up l (suc c) (suc n) (omega arith))

-- and on from the first node
around-over : (l : Layout) (c m n : ℕ) → c + suc m ≡ cell_count l → around l c (suc (m + n)) ≡ range c (suc m) ++ around l (first_node l) n
unfolding around range
around-over l c zero n e =
    ap (λ (x : ℕ). c ∷ around l (next_cell l c) x) zeroed ∙ ap (λ (x : ℕ). c ∷ around l x n) (next-wraps l c (omega arith))
  where
    zeroed : 0 + n ≡ n
    zeroed = omega arith
around-over l c (suc m) n e =
    ap (λ (x : ℕ). c ∷ around l (next_cell l c) x) (moved m n)
    ∙ ap (λ (t : List ℕ). c ∷ t)
    (ap (λ (x : ℕ). around l x (suc (m + n))) (next_up l c (omega arith)) ∙ around-over l (suc c) m n (omega arith))
  where
    moved : (m n : ℕ) → suc m + n ≡ suc (m + n)
    moved m n = omega arith

-- so the search goes up to the last node, and on from the first
around-turned
    : (l : Layout) (c : ℕ) → Node l c
    → around l c l.nodes ≡ range c (cell_count l - c) ++ range (first_node l) (c - first_node l)
around-turned l c h =
    let e : l.nodes ≡ suc (cell_count l - c - 1 + (c - first_node l)) = omega (arith, h.low, h.high) in
    let q : suc (cell_count l - c - 1) ≡ cell_count l - c = omega (arith, h.high) in
    ap (around l c) e
    ∙ around-over l c (cell_count l - c - 1) (c - first_node l) (omega (arith, h.high))
    ∙ ap (λ (n : ℕ). range c n ++ around l (first_node l) (c - first_node l)) q
    ∙ ap (λ (t : List ℕ). range c (cell_count l - c) ++ t) (around-up l (first_node l) (c - first_node l) (omega (arith, h.low, h.high)))

-- and meets every node
pub around-all : (l : Layout) (c x : ℕ) → Node l c → Node l x → x ∈ around l c l.nodes
around-all l c x hc hx = subst (λ (t : List ℕ). x ∈ t) (sym (around-turned l c hc)) (by (dec_le c x))
  where
    by : Dec (c ≤ x) → x ∈ (range c (cell_count l - c) ++ range (first_node l) (c - first_node l))
    by (yes h) =
        Memᴰ.append_left (range (first_node l) (c - first_node l)) (in-range c (cell_count l - c) x h (omega (arith, hc.high, hx.high)))
    by (no h) =
        Memᴰ.append_right (range c (cell_count l - c)) (in-range (first_node l) (c - first_node l) x hx.low (omega (arith, hc.low)))

-- and only nodes
pub around-nodes : (l : Layout) (c n : ℕ) → Node l c → All (Node l) (around l c n)
unfolding around
around-nodes l c zero h = tt
around-nodes l c (suc n) h = (h, around-nodes l (next_cell l c) n (by (eqb (c + 1) (cell_count l)) refl))
  where
    by : (b : Bool) → eqb (c + 1) (cell_count l) ≡ b → Node l (next_cell l c)
    by true e =
        subst (Node l) (sym (next-wraps l c (eqb-true _ _ e))) (record { low = omega arith; high = omega (arith, h.low, h.high) })
    by false e =
        let q : c + 1 < cell_count l = omega (arith, h.high, eqb-false (c + 1) (cell_count l) e) in
        subst (Node l) (sym (next_up l c q)) (record { low = omega (arith, h.low); high = omega arith })

-- so a turn meets each node once
pub around-different : (l : Layout) (c : ℕ) → Node l c → Different (around l c l.nodes)
around-different l c h =
    subst Different (sym (around-turned l c h))
    (different-append (range c (cell_count l - c)) (range (first_node l) (c - first_node l)) (range-different c (cell_count l - c))
    (range-different (first_node l) (c - first_node l))
    (λ x m q. omega (arith, h.low, (range-between c (cell_count l - c) x m).0, (range-between (first_node l) (c - first_node l) x q).1)))

-- the last number of a range
range_last : (a n : ℕ) → range a (suc n) ≡ range a n ++ (a + n) ∷ []
unfolding range
range_last a n =
    let e : suc n ≡ n + 1 = omega arith in
    ap (range a) e ∙ range-append a n 1

-- a turn begun one cell later
around-next : (l : Layout) (c y : ℕ) (t : List ℕ) → Node l c → around l c l.nodes ≡ y ∷ t
    → (c ≡ y) × (around l (next_cell l c) l.nodes ≡ t ++ c ∷ [])
unfolding range
around-next l c y t h e = (here, by (ℕ_discrete (c + 1) (cell_count l)))
  where
    -- the cells behind c
    up : List ℕ
    up = range (suc c) (cell_count l - suc c)

    low : List ℕ
    low = range (first_node l) (c - first_node l)

    turned : c ∷ up ++ low ≡ y ∷ t
    turned =
        let q : suc (cell_count l - suc c) ≡ cell_count l - c = omega (arith, h.high) in
        ap (λ (n : ℕ). range c n ++ low) q ∙ sym (around-turned l c h) ∙ e

    here : c ≡ y
    here = ap (λ (s : List ℕ). get_or s 0 0) turned

    rest : up ++ low ≡ t
    rest = ap (λ (s : List ℕ). drop 1 s) turned

    lower : range (first_node l) (suc (c - first_node l)) ≡ low ++ c ∷ []
    lower =
        let q : first_node l + (c - first_node l) ≡ c = omega (arith, h.low) in
        range_last (first_node l) (c - first_node l) ∙ ap (λ (x : ℕ). low ++ x ∷ []) q

    by : Dec (c + 1 ≡ cell_count l) → around l (next_cell l c) l.nodes ≡ t ++ c ∷ []
    by (yes q) =
        let n : l.nodes ≡ suc (c - first_node l) = omega (arith, h.low) in
        let z : cell_count l - suc c ≡ 0 = omega arith in
        ap (λ (x : ℕ). around l x l.nodes) (next-wraps l c q)
        ∙ around-up l (first_node l) l.nodes (omega arith)
        ∙ ap (range (first_node l)) n
        ∙ lower
        ∙ ap (λ (s : List ℕ). s ++ c ∷ []) (ap (λ (x : ℕ). range (suc c) x ++ low) (sym z) ∙ rest)
    by (no q) =
        let d : suc c < cell_count l = omega (arith, h.high) in
        let n : suc c - first_node l ≡ suc (c - first_node l) = omega (arith, h.low) in
        ap (λ (x : ℕ). around l x l.nodes) (next_up l c (omega arith))
        ∙ around-turned l (suc c) (record { low = omega (arith, h.low); high = d })
        ∙ ap (λ (x : ℕ). up ++ range (first_node l) x) n
        ∙ ap (λ (s : List ℕ). up ++ s) lower
        ∙ sym (append_assoc up low (c ∷ []))
        ∙ ap (λ (s : List ℕ). s ++ c ∷ []) rest

-- a turn begun behind one of its cells is the same turn rotated
pub around-behind
    : (l : Layout) (c : ℕ) (passed : List ℕ) (x : ℕ) (rest : List ℕ) → Node l c → around l c l.nodes ≡ passed ++ x ∷ rest
    → around l (next_cell l x) l.nodes ≡ rest ++ (passed ++ x ∷ [])
unfolding around
around-behind l c [] x rest h e =
    let r = around-next l c x rest h e in
    ap (λ (y : ℕ). around l (next_cell l y) l.nodes) (sym r.0) ∙ r.1 ∙ ap (λ (y : ℕ). rest ++ y ∷ []) r.0
around-behind l c (y ∷ passed) x rest h e =
    let r = around-next l c y (passed ++ x ∷ rest) h e in
    around-behind l (next_cell l c) passed x (rest ++ c ∷ []) (next h) (r.1 ∙ append_assoc passed (x ∷ rest) (c ∷ []))
    ∙ append_assoc rest (c ∷ []) (passed ++ x ∷ [])
    ∙ ap (λ (z : ℕ). rest ++ z ∷ (passed ++ x ∷ [])) r.0
  where
    next : Node l c → Node l (next_cell l c)
    next h = (around-nodes l c 2 h).1.0

-- the free cells among some: free, and of these
module _ (ident : ℕ → ℕ) where
  abbrev free : ℕ → Bool
  free c = is_free (ident c)

  pub free_in : (cs : List ℕ) (x : ℕ) → x ∈ free_cells ident cs → (x ∈ cs) × (ident x ≡ 0)
  free_in cs x m = let r = filter-in free cs x m in (r.0, eqb-true (ident x) 0 r.1)

  pub in-free : (cs : List ℕ) (x : ℕ) → x ∈ cs → ident x ≡ 0 → x ∈ free_cells ident cs
  in-free cs x m z = in-filter free cs x m (eq-eqb (ident x) 0 z)

  pub free-taken : (cs : List ℕ) → All (λ c. ident c ≡ 0 → ⊥) cs → free_cells ident cs ≡ []
  free-taken cs h =
      filter_none free cs (in_all (λ c. free c ≡ false) cs (λ c m. ne_eqb (ident c) 0 (all_in (λ c. ident c ≡ 0 → ⊥) cs h m)))

  -- the first of them is the one that the search finds
  pub free-first : (cs : List ℕ) (x : ℕ) (xs : List ℕ) → free_cells ident cs ≡ x ∷ xs → first_free ident cs ≡ Some x
  unfolding filter first_free
  free-first [] x xs e = absurd (omega (arith, ap length e))
  free-first (c ∷ cs) x xs e = by (eqb (ident c) 0) (λ q. free-first cs x xs q) e
    where
      by : (b : Bool) → (free_cells ident cs ≡ x ∷ xs → first_free ident cs ≡ Some x)
          → cond b (c ∷ free_cells ident cs) (free_cells ident cs) ≡ x ∷ xs → cond b (Some c) (first_free ident cs) ≡ Some x
      by true below e = ap Some (ap (λ (s : List ℕ). get_or s 0 0) e)
      by false below e = below e

  pub free-found : (cs : List ℕ) (x : ℕ) → first_free ident cs ≡ Some x → free_cells ident cs ≡ x ∷ drop 1 (free_cells ident cs)
  unfolding filter first_free
  free-found [] x e = let z : ◌≡◌ {A = ℕ} 0 1 = cc in absurd (omega arith)
  free-found (c ∷ cs) x e = by (eqb (ident c) 0) (λ q. free-found cs x q) e
    where
      by : (b : Bool) → (first_free ident cs ≡ Some x → free_cells ident cs ≡ x ∷ drop 1 (free_cells ident cs))
          → cond b (Some c) (first_free ident cs) ≡ Some x
          → cond b (c ∷ free_cells ident cs) (free_cells ident cs) ≡ x ∷ drop 1 (cond b (c ∷ free_cells ident cs) (free_cells ident cs))
      by true below e = let s : c ≡ x = cc in ap (λ (y : ℕ). y ∷ free_cells ident cs) s
      by false below e = below e

-- identifiers that are the same there
pub free-same : (ident ident' : ℕ → ℕ) (cs : List ℕ) → All (λ c. ident' c ≡ ident c) cs → free_cells ident' cs ≡ free_cells ident cs
free-same ident ident' cs h =
    filter_same (free ident) (free ident') cs
    (in_all (λ c. free ident' c ≡ free ident c) cs (λ c m. ap is_free (all_in (λ c. ident' c ≡ ident c) cs h m)))

-- a turn meets as many free cells as there are free nodes
pub free-count
    : (l : Layout) (v : View) (c : ℕ) → Node l c
    → length (free_cells v.ident (around l c l.nodes)) ≡ length (cells_with is_free v (first_node l) l.nodes)
free-count l v c h =
    let up = range c (cell_count l - c) in
    let low = range (first_node l) (c - first_node l) in
    let test : ℕ → Bool = λ x. is_free (v.ident x) in
    let n : c - first_node l + (cell_count l - c) ≡ l.nodes = omega (arith, h.low, h.high) in
    let f : first_node l + (c - first_node l) ≡ c = omega (arith, h.low) in
    let all : range (first_node l) l.nodes ≡ low ++ up =
    ap (range (first_node l)) (sym n) ∙ range-append (first_node l) (c - first_node l) (cell_count l - c)
    ∙ ap (λ (x : ℕ). low ++ range x (cell_count l - c)) f in
    omega (
      arith,
      ap (λ (s : List ℕ). length (filter test s)) (around-turned l c h),
      ap length (filter-append test up low),
      length-append (filter test up) (filter test low),
      ap (λ (s : List ℕ). length (filter test s)) all,
      ap length (filter-append test low up),
      length-append (filter test low) (filter test up),
    )
