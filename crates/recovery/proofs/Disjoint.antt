-- Sequences that fit two lists share no cell: a shared cell would cost three wrong words beside the counts, and two sequences that
-- fit have two at most.
use Prim.Native.Nat.{ℕ, zero, suc, ◌+◌, ◌<◌, ◌≤◌}
use mathlib.Core.Path.{◌≡◌, refl, ◌∙◌, sym}
use mathlib.Core.List.{List, reverse}
use native.Mathlib.Omega.{arith}
use lib.ListN.{length, get_or}
use Rattle.sequences.specs.Sequence.{◌∈◌, All, Forward}
use Rattle.sequences.proofs.Members.{all_in}
use Rattle.sequences.proofs.Trail.{leads-from, leads-end}
use Rattle.sequences.proofs.Reversed.{backward-forward, all-reverse, reverse-in}
use Rattle.layout.specs.declared.Layout.{Layout}
use Rattle.layout.specs.Words.{Node, is_node, ident_of, ident_at}
use Rattle.lists.specs.Lists.{idents_asked, forwards_asked, backs_asked}
use Rattle.lists.specs.Decide.{view_of}
use Rattle.lists.proofs.Unique.{header-out, nodes-all}
use Rattle.recovery.specs.Fits.{wrong, Fits}
use Rattle.recovery.proofs.Candidates.{wrong-others, right-forward, right-backward, right-idents}

-- not both 0
some : (a b : ℕ) → (a ≡ 0 → b ≡ 0 → ⊥) → 1 ≤ a + b
some zero zero h = absurd (h refl refl)
some zero (suc b) h = omega arith
some (suc a) b h = omega arith

module _ (l : Layout) (w : List ℕ) (i j : ℕ) (hi : i < l.lists) (hj : j < l.lists) (n : i ≡ j → ⊥) where
  -- two paths by one link, from a shared cell to two headers
  pub no-paths
      : (link : ℕ → ℕ) (s t : List ℕ) (x : ℕ) → All (Node l) s → All (Node l) t → x ∈ s → x ∈ t
      → Forward link i s i → Forward link j t j → ⊥
  no-paths link s t x ns nt ms mt p q =
      let a = leads-from link (is_node l) i s i x (nodes-all l s ns) p ms in
      let b = leads-from link (is_node l) j t j x (nodes-all l t nt) q mt in
      n (leads-end link (is_node l) x a.0 i b.0 j a.1 (header-out l i hi) a.2 b.1 (header-out l j hj) b.2)

  pub fits-disjoint : (s t : List ℕ) (x : ℕ) → Fits l w i s → Fits l w j t → x ∈ s → x ∈ t → ⊥
  fits-disjoint s t x f g ms mt =
      omega (
        arith,
        wrong-others l w i s,
        wrong-others l w j t,
        f.few,
        g.few,
        some (length (wrong w (idents_asked l i s))) (length (wrong w (idents_asked l j t))) idents,
        some (length (wrong w (forwards_asked l i s))) (length (wrong w (forwards_asked l j t))) forwards,
        some (length (wrong w (backs_asked l i s))) (length (wrong w (backs_asked l j t))) backs,
      )
    where
      idents : length (wrong w (idents_asked l i s)) ≡ 0 → length (wrong w (idents_asked l j t)) ≡ 0 → ⊥
      idents a b =
          let p : 42400 + i ≡ 42400 + j =
          sym (all_in (λ c. get_or w (ident_at l c) 0 ≡ ident_of i) s (right-idents l w i s a).1 ms)
          ∙ all_in (λ c. get_or w (ident_at l c) 0 ≡ ident_of j) t (right-idents l w j t b).1 mt in
          n (omega arith)

      forwards : length (wrong w (forwards_asked l i s)) ≡ 0 → length (wrong w (forwards_asked l j t)) ≡ 0 → ⊥
      forwards a b = no-paths (view_of l w).forward s t x f.nodes g.nodes ms mt (right-forward l w i s a) (right-forward l w j t b)

      backs : length (wrong w (backs_asked l i s)) ≡ 0 → length (wrong w (backs_asked l j t)) ≡ 0 → ⊥
      backs a b =
          no-paths (view_of l w).back (reverse s) (reverse t) x (all-reverse (Node l) s f.nodes) (all-reverse (Node l) t g.nodes)
          (reverse-in s ms) (reverse-in t mt)
          (backward-forward (view_of l w).back i s i (right-backward l w i s a))
          (backward-forward (view_of l w).back j t j (right-backward l w j t b))
