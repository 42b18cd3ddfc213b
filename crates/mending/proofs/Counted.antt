-- "The number of stores it will make": the mends that are found, and the stores to nodes outside all lists, which the column tells or, where nobody
-- is left over, the words.
use Prim.Native.Nat.{ℕ, zero, suc, ◌+◌}
use mathlib.Core.Path.{◌≡◌, refl, ap, ap₂, ◌∙◌, sym}
use mathlib.Core.List.{List, ◌∷◌, ◌++◌, map}
use mathlib.Core.Bool.{Bool, true, false, not, ◌&&◌, ◌||◌}
use mathlib.Core.Logic.{⊎_elim}
use native.Mathlib.Omega.{arith}
use lib.Dec.{eqb}
use lib.ListN.{length, get_or, length-append}
use borrow.Author.Tests.{eq-eqb, ne_eqb, eqb-true, eqb-false}
use Rattle.sequences.specs.Sequence.{◌∈◌, range, filter}
use Rattle.sequences.proofs.Members.{member?}
use Rattle.std.specs.Prelude.{Some, Ok, Err}
use Rattle.calls.specs.Answers.{needed_of}
use Rattle.stores.specs.Stores.{Write, write}
use Rattle.layout.specs.declared.Layout.{Layout}
use Rattle.layout.specs.declared.Refusal.{Refusal}
use Rattle.layout.specs.Words.{most_cells, first_node, Node, InRange, size_of, ident_at, worn_ident, Unlisted, free, worn, is_free, is_worn}
use Rattle.lists.specs.Lists.{blank_asked}
use Rattle.lists.specs.Decide.{View, view_of, count_in, cells_with, used, unwiped}
use Rattle.recovery.specs.Fits.{wrong}
use Rattle.recovery.specs.Plan.{joined, out_of, nodes_out, clears_asked, blanks_asked, wipes_asked, fitting_of, recover_of}
use Rattle.recovery.proofs.Required.{wrong-right, wrong-wrong, wrong-length}
use Rattle.recovery.proofs.Joined.{joined-one, out-member, out-worn, out-other, out-told}
use Rattle.mending.specs.declared.Mends.{Mends}
use Rattle.mending.specs.Mending.{erased_from, wipes, outside_of, outside_from, refusal_in, Mended, writes_in}
use Rattle.mending.proofs.Cleared.{Column}
use Rattle.mending.proofs.Counting.{entry_free, entry-used}
use Rattle.mending.proofs.LeftOver.{clears-nothing}
use Rattle.mending.proofs.Recovered.{recover-refused, parts-told, column, listed, unlisted, recover-mends}

-- the stores to these cells: their clears and their wipes
module _ (l : Layout) (w : List ℕ) where
  abbrev outside : List ℕ → ℕ
  outside cs = length (wrong w (map (λ c. write (ident_at l c) 0) cs)) + length (wrong w (blanks_asked l cs))

  -- a cell more, that is not worn
  outside-more : (a : ℕ) (cs : List ℕ) → is_worn (get_or w (ident_at l a) 0) ≡ false
      → outside (a ∷ cs) ≡ outside_of l w (get_or w (ident_at l a) 0) a + outside cs
  unfolding blanks_asked
  outside-more a cs q = by (is_free (get_or w (ident_at l a) 0)) refl
    where
      p : Write
      p = write (ident_at l a) 0

      ps : List Write
      ps = map (λ c. write (ident_at l c) 0) cs

      by : (b : Bool) → is_free (get_or w (ident_at l a) 0) ≡ b → outside (a ∷ cs) ≡ outside_of l w (get_or w (ident_at l a) 0) a + outside cs
      by true e =
          omega (
            arith,
            entry_free l w (get_or w (ident_at l a) 0) a e,
            ap length (wrong-right w p ps (eqb-true _ 0 e)),
            wrong-length w (blank_asked l a) (blanks_asked l cs),
          )
      by false e =
          omega (
            arith,
            entry-used l w (get_or w (ident_at l a) 0) a (ap₂ (λ (f d : Bool). not (f || d)) e q),
            ap length (wrong-wrong w p ps (eqb-false _ 0 e)),
            wrong-length w (blank_asked l a) (blanks_asked l cs),
          )

  -- to a worn cell there are none
  outside-worn : (e a : ℕ) → e ≡ worn_ident → outside_of l w e a ≡ 0
  outside-worn e a z = rw (eq-eqb e worn_ident z)

  -- by the column, those to the cells that are no members and not worn are counted
  outside_told : (idents ms : List ℕ) (a n : ℕ) → Column l w ms idents a n → outside_from l w idents a n ≡ outside (out_of (view_of l w).ident ms a n)
  unfolding outside_from range filter wrong blanks_asked
  outside_told idents ms a zero h = refl
  outside_told idents ms a (suc n) h =
      let here = h a (omega arith) (omega arith) in
      let below = outside_told idents ms (suc a) n (λ c p q. h c (omega arith) (omega arith)) in
      ⊎_elim
      (λ m. omega (arith, outside-worn (get_or idents a 0) a (here.0 m), below, ap outside (out-member (view_of l w).ident ms a n m)))
      (λ o. ap₂ ◌+◌ (ap (λ (e : ℕ). outside_of l w e a) (here.1 o)) below ∙ other o (is_worn (get_or w (ident_at l a) 0)) refl)
      (member? a ms)
    where
      rest : List ℕ
      rest = out_of (view_of l w).ident ms (suc a) n

      other : (a ∈ ms → ⊥) → (b : Bool) → is_worn (get_or w (ident_at l a) 0) ≡ b
          → outside_of l w (get_or w (ident_at l a) 0) a + outside rest ≡ outside (out_of (view_of l w).ident ms a (suc n))
      other o true q =
          let z = eqb-true (get_or w (ident_at l a) 0) worn_ident q in
          omega (arith, outside-worn (get_or w (ident_at l a) 0) a z, ap outside (out-worn (view_of l w).ident ms a n z))
      other o false q =
          sym (outside-more a rest q) ∙ ap outside (sym (out-other (view_of l w).ident ms a n o (eqb-false _ worn_ident q)))

-- a refusal
pub needed-refused : (l : Layout) (w : List ℕ) (n : Refusal) → refusal_in l (view_of l w) (count_in l w) 0 l.lists ≡ Some n → needed_of (recover_of l w) ≡ Err n
needed-refused l w n e = ap needed_of (recover-refused l w n e)

module _ (l : Layout) (w : List ℕ) (m : Mends) (told : Mended l (view_of l w) (count_in l w) m) where
  abbrev v : View
  v = view_of l w

  -- no refusal: the mends, and the stores to the nodes outside all lists ..
  module _ (exact : length w ≡ size_of l) where
    abbrev s : ℕ → List ℕ
    s = fitting_of l w

    parts : needed_of (recover_of l w) ≡ Ok (length (writes_in m.writes) + outside l w (nodes_out l w s))
    parts =
        ap needed_of (parts-told l w m told exact)
        ∙ ap Ok
        (omega (
          arith,
          length-append (writes_in m.writes ++ wrong w (clears_asked l w s)) (wrong w (wipes_asked l w s)),
          length-append (writes_in m.writes) (wrong w (clears_asked l w s)),
        ))

    -- .. by what is left of the nodes' identifiers
    pub needed-left : InRange l → (idents : List ℕ) → most_cells ≡ length idents → ((c : ℕ) → Node l c → get_or idents c 0 ≡ v.ident c)
        → let left = erased_from l v (λ k. get_or m.back k false) 0 l.lists idents in
        needed_of (recover_of l w) ≡ Ok (length (writes_in m.writes) + outside_from l w left (first_node l) l.nodes)
    needed-left r idents room same =
        parts
        ∙ ap (λ (n : ℕ). Ok (length (writes_in m.writes) + n))
        (sym (outside_told l w _ (joined s l.lists) (first_node l) l.nodes (column l w m told exact r idents room same)))

    -- .. which are the wipes of the free nodes, if nobody is left over; and the mends alone, if no free node has a record
    module _ (r : InRange l) (e : (m.carried && eqb m.members (length (used v (first_node l) l.nodes))) ≡ true) where
      free-out : cells_with is_free v (first_node l) l.nodes ≡ nodes_out l w s
      free-out =
          out-told v.ident (joined s l.lists) (λ c. is_free (v.ident c)) (first_node l) l.nodes
          (λ c p q i. let k = joined-one s l.lists c i in ne_eqb (v.ident c) 0 (λ x. listed l w m told exact r e k.0 k.1 c k.2 (free x)))
          (λ c p q o. by (v.ident c) (unlisted l w m told exact r e c (record { low = p; high = q }) o))
        where
          by : (x : ℕ) → Unlisted x → is_free x ≡ not (is_worn x)
          by x (free i) = rw i
          by x (worn i) = rw i

      pub needed-wipes : needed_of (recover_of l w) ≡ Ok (length (writes_in m.writes) + length (wipes l w))
      needed-wipes =
          let none = ap length (clears-nothing l w s (unlisted l w m told exact r e)) in
          let same = ap (λ (cs : List ℕ). length (wrong w (blanks_asked l cs))) free-out in
          parts ∙ ap Ok (omega (arith, none, same))

      pub needed-mends : length (unwiped v (first_node l) l.nodes) ≡ 0 → needed_of (recover_of l w) ≡ Ok (length (writes_in m.writes))
      needed-mends q = ap needed_of (recover-mends l w m told exact r e q)
