-- Who is left over. The members of the sequences that are chosen are different nodes. If all of them carry an identifier that says in use and
-- they are as many as the nodes that do, no other node does: recovery clears nothing, and the nodes to be wiped are the free ones.
use Prim.Native.Nat.{ℕ, zero, suc, ◌+◌, ◌<◌, ◌≤◌}
use mathlib.Core.Path.{◌≡◌, refl, ap, ap₂, ◌∙◌, sym}
use mathlib.Core.List.{List, []}
use mathlib.Core.Bool.{Bool, true, false}
use native.Mathlib.Omega.{arith}
use lib.ListN.{length, get_or, length-append}
use Rattle.sequences.specs.Sequence.{◌∈◌, Different}
use Rattle.sequences.proofs.Members.{all_in, different-append}
use Rattle.sequences.proofs.Pigeonhole.{pigeonhole-less}
use Rattle.std.specs.Prelude.{None}
use Rattle.std.specs.Result.{result_err}
use Rattle.layout.specs.declared.Layout.{Layout}
use Rattle.layout.specs.Words.{Node, InRange, first_node, ident_at, worn_ident, Unlisted, free, worn, in_use}
use Rattle.lists.specs.Lists.{others_asked, Blank}
use Rattle.lists.specs.Decide.{view_of, count_in, used, unwiped}
use Rattle.lists.proofs.Nodes.{in-use, unused, is-used}
use Rattle.lists.proofs.Blank.{blank-words, none-unwiped}
use Rattle.recovery.specs.Fits.{wrong, Fits}
use Rattle.recovery.specs.Plan.{joined, clears_asked, wipes_asked, fitting_of}
use Rattle.recovery.proofs.Required.{agrees-wrong}
use Rattle.recovery.proofs.Joined.{joined-one}
use Rattle.recovery.proofs.Disjoint.{fits-disjoint}
use Rattle.recovery.proofs.Whole.{clear_none, wipe-none}
use Rattle.recovery.proofs.Candidates.{fit-accepted}
use Rattle.fitting.specs.Fitting.{fit_in, carries}
use Rattle.mending.specs.Mending.{total, walk_at}
use Rattle.fitting.proofs.Members.{members-carry}
use Rattle.fitting.proofs.Told.{few-summed, fault_sum, summed-others, chosen-told}

-- the members of all lists: as many as the lists have, ..
length-joined : (s : ℕ → List ℕ) (n : ℕ) → length (joined s n) ≡ total (λ k. length (s k)) n
unfolding joined total
length-joined s zero = refl
length-joined s (suc n) = length-append (joined s n) (s n) ∙ ap (λ (m : ℕ). m + length (s n)) (length-joined s n)

total-same : (f g : ℕ → ℕ) (n : ℕ) → ((k : ℕ) → k < n → f k ≡ g k) → total f n ≡ total g n
unfolding total
total-same f g zero h = refl
total-same f g (suc n) h = ap₂ ◌+◌ (total-same f g n (λ k q. h k (omega arith))) (h n (omega arith))

module _ (l : Layout) (w : List ℕ) (s : ℕ → List ℕ) (fits : (k : ℕ) → k < l.lists → Fits l w k (s k))
    (carry : (k : ℕ) → k < l.lists → (x : ℕ) → x ∈ s k → Unlisted (get_or w (ident_at l x) 0) → ⊥) where
  -- .. different, ..
  joined-different : (n : ℕ) → n ≤ l.lists → Different (joined s n)
  unfolding joined
  joined-different zero h = tt
  joined-different (suc n) h =
      different-append (joined s n) (s n) (joined-different n (omega arith)) (fits n (omega arith)).different apart
    where
      apart : (x : ℕ) → x ∈ joined s n → x ∈ s n → ⊥
      apart x m m' =
          let r = joined-one s n x m in
          let i : r.0 < l.lists = omega (arith, r.1) in
          fits-disjoint l w r.0 n i (omega arith) (λ e. omega (arith, r.1, e)) (s r.0) (s n) x (fits r.0 i)
          (fits n (omega arith)) r.2 m'

  abbrev Members : List ℕ
  Members = joined s l.lists

  abbrev Used : List ℕ
  Used = used (view_of l w) (first_node l) l.nodes

  -- .. and nodes in use
  member-used : (x : ℕ) → x ∈ Members → x ∈ Used
  member-used x m =
      let r = joined-one s l.lists x m in
      let n = all_in (Node l) (s r.0) (fits r.0 r.1).nodes r.2 in
      is-used (view_of l w) (first_node l) l.nodes x n.low n.high (carry r.0 r.1 x r.2)

  -- so if no more nodes are, all others are free or worn
  none-else : length Members ≡ length Used → (c : ℕ) → Node l c → (c ∈ Members → ⊥) → Unlisted (get_or w (ident_at l c) 0)
  none-else e c n o = by c n o (in_use (get_or w (ident_at l c) 0)) refl
    where
      by : (c : ℕ) → Node l c → (c ∈ Members → ⊥) → (b : Bool) → in_use (get_or w (ident_at l c) 0) ≡ b → Unlisted (get_or w (ident_at l c) 0)
      by c n o false z = unused _ z
      by c n o true z =
          absurd (omega (
            arith,
            e,
            pigeonhole-less Members Used c (joined-different l.lists (omega arith)) member-used
                (is-used (view_of l w) (first_node l) l.nodes c n.low n.high (in-use _ z)) o,
          ))

-- As it is told by the walks: no list is refused, and all members carry an identifier that says in use.
module _ (l : Layout) (r : InRange l) (w : List ℕ)
    (fitted : (k : ℕ) → k < l.lists → result_err (fit_in l (view_of l w) k (count_in l w k)) ≡ None)
    (carried : (k : ℕ) → k < l.lists → carries (view_of l w).ident (walk_at l (view_of l w) (count_in l w) k).faults ≡ true) where
  abbrev s : ℕ → List ℕ
  s = fitting_of l w

  fits : (k : ℕ) → k < l.lists → Fits l w k (s k)
  fits = (fit-accepted l w s (λ k h. (chosen-told l w k h (fitted k h)).0)).fits

  pub all-carry : (k : ℕ) → k < l.lists → (x : ℕ) → x ∈ s k → Unlisted (get_or w (ident_at l x) 0) → ⊥
  all-carry k h =
      members-carry (view_of l w) k (s k)
      (few-summed l (fault_sum l w k (s k)) (wrong w (others_asked l k (s k))) (summed-others l w k (s k)) (fits k h).few)
      (ap (carries (view_of l w).ident) (sym (chosen-told l w k h (fitted k h)).2) ∙ carried k h)
      (omega (arith, h, r.lists))

  -- If they are as many as the nodes that do, every node in no list is free or worn.
  pub nothing_left : total (λ k. (walk_at l (view_of l w) (count_in l w) k).members) l.lists ≡ length (used (view_of l w) (first_node l) l.nodes)
      → (c : ℕ) → Node l c → (c ∈ joined s l.lists → ⊥) → Unlisted (get_or w (ident_at l c) 0)
  nothing_left number =
      none-else l w s fits all-carry
      (length-joined s l.lists
      ∙ total-same (λ k. length (s k)) (λ k. (walk_at l (view_of l w) (count_in l w) k).members) l.lists
      (λ k h. sym (chosen-told l w k h (fitted k h)).3)
      ∙ number)

-- so nothing is to be cleared ..
pub clears-nothing : (l : Layout) (w : List ℕ) (s : ℕ → List ℕ) → ((c : ℕ) → Node l c → (c ∈ joined s l.lists → ⊥) → Unlisted (get_or w (ident_at l c) 0))
    → wrong w (clears_asked l w s) ≡ []
clears-nothing l w s h = agrees-wrong w (clears_asked l w s) (clear_none l w s h)

-- .. nor to be wiped, if no free node has a record
pub wipes-nothing : (l : Layout) (w : List ℕ) (s : ℕ → List ℕ) → ((c : ℕ) → Node l c → (c ∈ joined s l.lists → ⊥) → Unlisted (get_or w (ident_at l c) 0))
    → length (unwiped (view_of l w) (first_node l) l.nodes) ≡ 0 → wrong w (wipes_asked l w s) ≡ []
wipes-nothing l w s h e = agrees-wrong w (wipes_asked l w s) (wipe-none l w w s (λ c n o z. by c n z (h c n o)))
  where
    by : (c : ℕ) → Node l c → (get_or w (ident_at l c) 0 ≡ worn_ident → ⊥) → Unlisted (get_or w (ident_at l c) 0) → Blank l w c
    by c n z (worn q) = absurd (z q)
    by c n z (free q) = blank-words l w c (none-unwiped (view_of l w) (first_node l) l.nodes e c n.low n.high q)
