-- The list that a cut call names: by its central store its old or its new sequence is chosen.
use Prim.Native.Nat.{ℕ, ◌<◌}
use mathlib.Core.Path.{◌≡◌, ◌∙◌, sym, subst}
use mathlib.Core.List.Memᴰ
use mathlib.Core.List.{List, ◌∷◌}
use mathlib.Core.Logic.{◌⊎◌, inl, inr, ⊎_elim}
use native.Mathlib.Omega.{arith}
use Rattle.sequences.specs.Sequence.{◌∈◌, All, Forward, Backward}
use Rattle.sequences.proofs.Reversed.{backs-trail, backs-different}
use Rattle.sequences.proofs.Splice.{forward-same, backward-same}
use Rattle.sequences.proofs.Members.{in-front}
use Rattle.layout.specs.declared.Layout.{Layout}
use Rattle.layout.specs.Words.{Node, is_node}
use Rattle.layout.proofs.Apart.{links-words}
use Rattle.lists.specs.Lists.{SameCells}
use Rattle.lists.specs.Decide.{view_of, count_in, sequence_of}
use Rattle.lists.proofs.Unique.{header-out, nodes-all, nodes-few}
use Rattle.recovery.specs.Fits.{Fits, Counted, Chosen, alone, counted, backward_of}
use Rattle.recovery.proofs.Candidates.{forward-right, forward-candidate, candidates}
use Rattle.recovery.proofs.Suffix.{SameLinks, fits-same, same_count}

-- a sequence s fits and its forward links are right; the back links lead through some of its members, which are all of them, or not so many
-- as the count, which is the length of s
pub record Own (l : Layout) (y : List ℕ) (k : ℕ) (s : List ℕ) : Type 0 where
  pub fits : Fits l y k s
  pub forward : Forward (view_of l y).forward k s k
  pub other : List ℕ
  pub nodes : All (Node l) other
  pub within : (c : ℕ) → c ∈ other → c ∈ s
  pub back : Backward (view_of l y).back k other k
  pub told : (other ≡ s) ⊎ (Counted l y k s × (Counted l y k other → ⊥))

pub own-chosen : (l : Layout) (y : List ℕ) (k : ℕ) → k < l.lists → (s : List ℕ) → Own l y k s → Chosen l y k s
own-chosen l y k h s o = by o.told
  where
    ahead : sequence_of l y k ≡ s
    ahead = forward-candidate l y k h s o.fits (forward-right l y k s o.forward)

    behind : backward_of l y k ≡ o.other
    behind =
        backs-trail (view_of l y).back (is_node l) l.nodes k o.other k (nodes-all l o.other o.nodes) (header-out l k h) o.back
        (nodes-few l o.other o.nodes
        (backs-different (view_of l y).back (is_node l) k o.other k (nodes-all l o.other o.nodes) (header-out l k h) o.back))

    by : (o.other ≡ s) ⊎ (Counted l y k s × (Counted l y k o.other → ⊥)) → Chosen l y k s
    by (inl t) = alone (λ r f. ⊎_elim (λ e. sym e ∙ ahead) (λ e. sym e ∙ behind ∙ t) (candidates l y k h r f))
    by (inr t) =
        counted t.0
        (λ r f c. ⊎_elim (λ e. sym e ∙ ahead) (λ e. absurd (t.1 (subst (Counted l y k) (sym e ∙ behind) c))) (candidates l y k h r f))

-- what is so of a list is so in words that are the same in the cells concerned
pub own_same : (l : Layout) (y x : List ℕ) (k : ℕ) → k < l.lists → (s : List ℕ) → Own l y k s → SameCells l y x (k ∷ s) → Own l x k s
own_same l y x k h s o a =
    record {
      fits = fits-same l y x k h s links o.fits;
      forward = forward-same (view_of l y).forward (view_of l x).forward k s k (λ c m. a c 1 m (links-words l c 1 (omega arith))) o.forward;
      other = o.other;
      nodes = o.nodes;
      within = o.within;
      back =
          backward-same (view_of l y).back (view_of l x).back k o.other k
          (λ c m. a c 2 (among c (in-front k o.other m)) (links-words l c 2 (omega arith))) o.back;
      told = ⊎_elim inl (λ t. inr (count ∙ t.0, λ e. t.1 (sym count ∙ e))) o.told;
    }
  where
    among : (c : ℕ) → c ∈ (k ∷ o.other) → c ∈ (k ∷ s)
    among c (Memᴰ.head e) = Memᴰ.head e
    among c (Memᴰ.tail m) = Memᴰ.tail (o.within c m)

    links : SameLinks l y x (k ∷ s)
    links c f m g _ = a c f m g

    count : count_in l x k ≡ count_in l y k
    count = same_count l y x k h s links
