-- The sequence of a list is the only one, and no two lists share a cell.
use Prim.Native.Nat.{ℕ, ◌<◌, ◌≤◌}
use mathlib.Core.Path.{◌≡◌, ◌∙◌, sym}
use mathlib.Core.List.{List}
use mathlib.Core.Bool.{true, false}
use native.Mathlib.Omega.{arith}
use lib.ListN.{length, get_or}
use borrow.Author.Tests.{lt-leb}
use Rattle.sequences.specs.Sequence.{◌∈◌, All, Different, range}
use Rattle.sequences.proofs.Members.{all_in, in_all}
use Rattle.sequences.proofs.Pigeonhole.{pigeonhole}
use Rattle.sequences.proofs.Range.{length-range, in-range}
use Rattle.sequences.proofs.Trail.{trail-inside, leads-trail, leads-different}
use Rattle.layout.specs.declared.Layout.{Layout}
use Rattle.layout.specs.Words.{first_node, Node, is_node, ident_of, ident_at}
use Rattle.layout.proofs.Laws.{is-node, node-is}
use Rattle.lists.specs.Lists.{IsList}
use Rattle.lists.specs.Decide.{view_of, count_in, sequence_of, holds}
use Rattle.lists.proofs.Agree.{Holds, holds-true, true-holds, agrees-holds, holds-agrees}

-- a header is no node
pub header-out : (l : Layout) (k : ℕ) → k < l.lists → is_node l k ≡ false
unfolding is_node
header-out l k h = rw (lt-leb (first_node l) k (omega arith))

-- different nodes are at most N
pub nodes-few : (l : Layout) (s : List ℕ) → All (Node l) s → Different s → length s ≤ l.nodes
nodes-few l s h d =
    omega (
      arith,
      pigeonhole s (range (first_node l) l.nodes) d (λ x m. let n = all_in (Node l) s h m in in-range _ _ x n.low n.high),
      length-range (first_node l) l.nodes,
    )

-- nodes, by the test
pub all-nodes : (l : Layout) (s : List ℕ) → All (λ x. is_node l x ≡ true) s → All (Node l) s
all-nodes l s h = in_all (Node l) s (λ x m. is-node l x (all_in (λ y. is_node l y ≡ true) s h m))

pub nodes-all : (l : Layout) (s : List ℕ) → All (Node l) s → All (λ x. is_node l x ≡ true) s
nodes-all l s h = in_all (λ y. is_node l y ≡ true) s (λ x m. node-is l x (all_in (Node l) s h m))

module _ (l : Layout) (w : List ℕ) (k : ℕ) (h : k < l.lists) where
  -- whatever sequence list k has, the forward links give it
  pub list-sequence : (s : List ℕ) → IsList l w k s → sequence_of l w k ≡ s
  list-sequence s i =
      leads-trail (view_of l w).forward (is_node l) l.nodes k s k (nodes-all l s i.nodes) (header-out l k h)
      (agrees-holds l w k s i.agrees).turn.forwards (nodes-few l s i.nodes i.different)

  -- so it has only one
  pub list-unique : (s t : List ℕ) → IsList l w k s → IsList l w k t → s ≡ t
  list-unique s t i j = sym (list-sequence s i) ∙ list-sequence t j

  -- nodes that the turn finds right are the list: they are different by themselves
  pub ring-list : (s : List ℕ) → All (Node l) s → Holds (view_of l w) k (count_in l w k) s → IsList l w k s
  ring-list s n r =
      record {
        nodes = n;
        different = leads-different (view_of l w).forward (is_node l) k s k (nodes-all l s n) (header-out l k h) r.turn.forwards;
        agrees = holds-agrees l w k s r;
      }

  -- if the turn round what the forward links give is right, that is the list
  pub holds-list : holds (view_of l w) k (count_in l w k) (sequence_of l w k) ≡ true → IsList l w k (sequence_of l w k)
  holds-list e =
      ring-list (sequence_of l w k)
      (all-nodes l (sequence_of l w k) (trail-inside (view_of l w).forward (is_node l) l.nodes ((view_of l w).forward k)))
      (holds-true (view_of l w) k (count_in l w k) (sequence_of l w k) e)

  pub list-holds : (s : List ℕ) → IsList l w k s → holds (view_of l w) k (count_in l w k) (sequence_of l w k) ≡ true
  list-holds s i =
      rw (list-sequence s i) (true-holds (view_of l w) k (count_in l w k) s (agrees-holds l w k s i.agrees))

-- a member carries its list's identifier
pub member-ident : (l : Layout) (w : List ℕ) (k : ℕ) (s : List ℕ) (x : ℕ) → IsList l w k s → x ∈ s → get_or w (ident_at l x) 0 ≡ ident_of k
member-ident l w k s x i m = all_in (λ c. get_or w (ident_at l c) 0 ≡ ident_of k) s (agrees-holds l w k s i.agrees).turn.idents m

-- so no cell is in two lists
pub lists-disjoint
    : (l : Layout) (w : List ℕ) (j k : ℕ) (s t : List ℕ) (x : ℕ) → IsList l w j s → IsList l w k t → x ∈ s → x ∈ t → j ≡ k
lists-disjoint l w j k s t x i i' m m' =
    let e : ident_of j ≡ ident_of k = sym (member-ident l w j s x i m) ∙ member-ident l w k t x i' m' in
    omega arith
