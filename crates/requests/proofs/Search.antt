-- The search for a free cell: what it finds is free and the first in its order; and the search for the next one, behind it.
use Prim.Native.Nat.{ℕ, zero, suc, ◌-◌, ◌<◌, ◌≤◌}
use mathlib.Core.Path.{◌≡◌, refl, ap, ap₂, ◌∙◌, sym, subst}
use mathlib.Core.List.Memᴰ
use mathlib.Core.List.{List, [], ◌∷◌, ◌++◌, append-nil, append_assoc}
use mathlib.Core.Bool.{Bool, true, false, cond}
use native.Mathlib.Omega.{arith}
use lib.Dec.{eqb}
use lib.ListN.{length, get_or, take, drop, length-append}
use lib.Seq.{take_at}
use borrow.Author.Tests.{eq-eqb, eqb-true, eqb-false}
use Rattle.sequences.specs.Sequence.{◌∈◌, All, Different, filter}
use Rattle.sequences.proofs.Members.{all_in, in_all, all_append, at_in, out-without}
use Rattle.sequences.proofs.Filter.{filter-append, filter-length}
use Rattle.std.specs.Prelude.{Some, None}
use Rattle.layout.specs.declared.Layout.{Layout}
use Rattle.layout.specs.Words.{Node, is_free}
use Rattle.requests.specs.Requests.{next_cell, around, first_free, FirstFree, free_cells, nth}
use Rattle.requests.proofs.Turn.{around-nodes, around-different, around-behind, free_in, free-taken, free-first, free-found, free-same}

-- what is found is free, and those before it are not
pub first-free : (ident : ℕ → ℕ) (cs : List ℕ) (i : ℕ) → first_free ident cs ≡ Some i → FirstFree ident cs i
unfolding first_free
first-free ident [] i e = let z : ◌≡◌ {A = ℕ} 0 1 = cc in absurd (omega arith)
first-free ident (c ∷ cs) i e = by (eqb (ident c) 0) refl (λ q. first-free ident cs i q) e
  where
    by : (b : Bool) → eqb (ident c) 0 ≡ b → (first_free ident cs ≡ Some i → FirstFree ident cs i)
        → cond b (Some c) (first_free ident cs) ≡ Some i → FirstFree ident (c ∷ cs) i
    by true q below e =
        let s : c ≡ i = cc in
        record { passed = []; rest = cs; order = ap (λ (x : ℕ). x ∷ cs) s; free = ap ident (sym s) ∙ eqb-true _ _ q; taken = tt }
    by false q below e =
        let r = below e in
        record {
          passed = c ∷ r.passed;
          rest = r.rest;
          order = ap (λ (t : List ℕ). c ∷ t) r.order;
          free = r.free;
          taken = (eqb-false _ _ q, r.taken);
        }

-- nothing is found only where no cell is free
pub none_free : (ident : ℕ → ℕ) (cs : List ℕ) → first_free ident cs ≡ None → All (λ c. ident c ≡ 0 → ⊥) cs
unfolding first_free
none_free ident [] e = tt
none_free ident (c ∷ cs) e = by (eqb (ident c) 0) refl (λ q. none_free ident cs q) e
  where
    by : (b : Bool) → eqb (ident c) 0 ≡ b → (first_free ident cs ≡ None → All (λ c. ident c ≡ 0 → ⊥) cs)
        → cond b (Some c) (first_free ident cs) ≡ None → All (λ c. ident c ≡ 0 → ⊥) (c ∷ cs)
    by true q below e = let z : ◌≡◌ {A = ℕ} 0 1 = cc in absurd (omega arith)
    by false q below e = (eqb-false _ _ q, below e)

-- cells of which the first free one is x: those behind it have the other free ones
free-others : (ident : ℕ → ℕ) (cs : List ℕ) (x : ℕ) (xs : List ℕ) → free_cells ident cs ≡ x ∷ xs → (f : FirstFree ident cs x) → free_cells ident f.rest ≡ xs
unfolding filter
free-others ident cs x xs e f =
    ap (λ (s : List ℕ). drop 1 s)
    (sym here
    ∙ ap (λ (s : List ℕ). s ++ free_cells ident (x ∷ f.rest)) (sym (free-taken ident f.passed f.taken))
    ∙ sym (filter-append (λ c. is_free (ident c)) f.passed (x ∷ f.rest))
    ∙ ap (free_cells ident) (sym f.order)
    ∙ e)
  where
    here : free_cells ident (x ∷ f.rest) ≡ x ∷ free_cells ident f.rest
    here = rw (eq-eqb (ident x) 0 f.free)

-- The cell x found is taken, and nothing else changes: the free cells of the turn begun behind x are the other ones, in the same order.
pub free-behind
    : (l : Layout) (ident ident' : ℕ → ℕ) (c x : ℕ) (xs : List ℕ) → Node l c → free_cells ident (around l c l.nodes) ≡ x ∷ xs
    → (ident' x ≡ 0 → ⊥) → ((y : ℕ) → (y ≡ x → ⊥) → ident' y ≡ ident y) → free_cells ident' (around l (next_cell l x) l.nodes) ≡ xs
free-behind l ident ident' c x xs h e taken same =
    ap (free_cells ident') (around-behind l c f.passed x f.rest h f.order)
    ∙ filter-append (λ c. is_free (ident' c)) f.rest (f.passed ++ x ∷ [])
    ∙ ap₂ (λ (s t : List ℕ). s ++ t)
    (free-same ident ident' f.rest (in_all (λ y. ident' y ≡ ident y) f.rest (λ y m. same y (apart y (Memᴰ.append_right f.passed m))))
    ∙ free-others ident (around l c l.nodes) x xs e f)
    (free-taken ident' (f.passed ++ x ∷ [])
    (all_append (λ y. ident' y ≡ 0 → ⊥) f.passed (x ∷ [])
    (in_all (λ y. ident' y ≡ 0 → ⊥) f.passed
    (λ y m z. all_in (λ y. ident y ≡ 0 → ⊥) f.passed f.taken m (sym (same y (apart y (Memᴰ.append_left f.rest m))) ∙ z)))
    (taken, tt)))
    ∙ append-nil xs
  where
    f : FirstFree ident (around l c l.nodes) x
    f = first-free ident (around l c l.nodes) x (free-first ident (around l c l.nodes) x xs e)

    apart : (y : ℕ) → y ∈ (f.passed ++ f.rest) → y ≡ x → ⊥
    apart y m q =
        out-without f.passed x f.rest (subst Different f.order (around-different l c h)) (subst (λ (z : ℕ). z ∈ (f.passed ++ f.rest)) q m)

-- the first cells of a turn, and their number
around-take : (l : Layout) (c n : ℕ) → take n (around l c (suc n)) ≡ around l c n
unfolding around
around-take l c zero = refl
around-take l c (suc n) = ap (λ (s : List ℕ). c ∷ s) (around-take l (next_cell l c) n)

around-length : (l : Layout) (c n : ℕ) → length (around l c n) ≡ n
unfolding around
around-length l c zero = refl
around-length l c (suc n) = ap suc (around-length l (next_cell l c) n)

-- The turn begun at the cell x found, not before it, meets the same free cells.
pub free-from
    : (l : Layout) (ident : ℕ → ℕ) (c x : ℕ) (xs : List ℕ) → Node l c → 0 < l.nodes → free_cells ident (around l c l.nodes) ≡ x ∷ xs
    → free_cells ident (around l x l.nodes) ≡ x ∷ xs
unfolding around filter
free-from l ident c x xs h some e =
    ap (λ (n : ℕ). free_cells ident (around l x n)) whole
    ∙ here
    ∙ ap (λ (s : List ℕ). x ∷ free_cells ident s) turned
    ∙ ap (λ (s : List ℕ). x ∷ s)
    (filter-append (λ c. is_free (ident c)) f.rest f.passed
    ∙ ap₂ (λ (s t : List ℕ). s ++ t) (free-others ident (around l c l.nodes) x xs e f) (free-taken ident f.passed f.taken)
    ∙ append-nil xs)
  where
    f : FirstFree ident (around l c l.nodes) x
    f = first-free ident (around l c l.nodes) x (free-first ident (around l c l.nodes) x xs e)

    n : ℕ
    n = l.nodes - 1

    whole : l.nodes ≡ suc n
    whole = omega arith

    here : free_cells ident (around l x (suc n)) ≡ x ∷ free_cells ident (around l (next_cell l x) n)
    here = rw (eq-eqb (ident x) 0 f.free)

    others : length (f.rest ++ f.passed) ≡ n
    others =
        omega (
          arith,
          length-append f.rest f.passed,
          length-append f.passed (x ∷ f.rest),
          ap length (sym f.order),
          around-length l c l.nodes,
        )

    turned : around l (next_cell l x) n ≡ f.rest ++ f.passed
    turned =
        sym (around-take l (next_cell l x) n)
        ∙ ap (λ (m : ℕ). take n (around l (next_cell l x) m)) (sym whole)
        ∙ ap (take n) (around-behind l c f.passed x f.rest h f.order ∙ sym (append_assoc f.rest f.passed (x ∷ [])))
        ∙ take_at (f.rest ++ f.passed) (x ∷ []) n others

-- the cell at a place, if there is one
pub nth-cell : (cs : List ℕ) (i x : ℕ) → nth cs i ≡ Some x → (i < length cs) × (x ≡ get_or cs i 0)
unfolding nth
nth-cell [] i x e = let z : ◌≡◌ {A = ℕ} 0 1 = cc in absurd (omega arith)
nth-cell (c ∷ cs) zero x e = let q : c ≡ x = cc in (omega arith, sym q)
nth-cell (c ∷ cs) (suc i) x e = let r = nth-cell cs i x e in (omega (arith, r.0), r.1)

pub nth-none : (cs : List ℕ) (i : ℕ) → nth cs i ≡ None → length cs ≤ i
unfolding nth
nth-none [] i e = omega arith
nth-none (c ∷ cs) zero e = let z : ◌≡◌ {A = ℕ} 0 1 = cc in absurd (omega arith)
nth-none (c ∷ cs) (suc i) e = omega (arith, nth-none cs i e)

pub nth-at : (cs : List ℕ) (i : ℕ) → i < length cs → nth cs i ≡ Some (get_or cs i 0)
unfolding nth
nth-at [] i h = absurd (omega arith)
nth-at (c ∷ cs) zero h = refl
nth-at (c ∷ cs) (suc i) h = nth-at cs i (omega arith)

-- at place 0 it is the first free cell met
pub nth-first : (ident : ℕ → ℕ) (cs : List ℕ) → nth (free_cells ident cs) 0 ≡ first_free ident cs
unfolding filter first_free nth
nth-first ident [] = refl
nth-first ident (c ∷ cs) = by (is_free (ident c)) (nth-first ident cs)
  where
    by : (b : Bool) → nth (free_cells ident cs) 0 ≡ first_free ident cs
        → nth (cond b (c ∷ free_cells ident cs) (free_cells ident cs)) 0 ≡ cond b (Some c) (first_free ident cs)
    by true below = refl
    by false below = below

-- a cell found in a turn is a node
pub free-node : (l : Layout) (ident : ℕ → ℕ) (c i x : ℕ) → Node l c → nth (free_cells ident (around l c l.nodes)) i ≡ Some x → Node l x
free-node l ident c i x h e =
    let free = free_cells ident (around l c l.nodes) in
    let r = nth-cell free i x e in
    all_in (Node l) (around l c l.nodes) (around-nodes l c l.nodes h)
    (free_in ident (around l c l.nodes) x (subst (λ (y : ℕ). y ∈ free) (sym r.1) (at_in free i r.0))).0

-- the turn begun at the first of them meets the same
pub free-again : (l : Layout) (ident : ℕ → ℕ) (c x : ℕ) → Node l c → 0 < l.nodes → nth (free_cells ident (around l c l.nodes)) 0 ≡ Some x
    → free_cells ident (around l x l.nodes) ≡ free_cells ident (around l c l.nodes)
free-again l ident c x h some e =
    let f = free-found ident (around l c l.nodes) x (sym (nth-first ident (around l c l.nodes)) ∙ e) in
    free-from l ident c x (drop 1 (free_cells ident (around l c l.nodes))) h some f ∙ sym f

-- they are no more than there are nodes
pub free-few : (l : Layout) (ident : ℕ → ℕ) (c : ℕ) → length (free_cells ident (around l c l.nodes)) ≤ l.nodes
free-few l ident c = omega (arith, filter-length (λ x. is_free (ident x)) (around l c l.nodes), around-length l c l.nodes)
