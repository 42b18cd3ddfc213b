-- What is decided is what the definition says: `ordered_of` is true exactly if the lists are sound, and `sound_of` if the records of all nodes in
-- none of them that are not worn are blank besides.
use Prim.Native.Nat.{ℕ, zero, suc, ◌+◌, ◌<◌, ◌≤◌}
use mathlib.Core.Path.{◌≡◌, refl, ap, sym, subst}
use mathlib.Core.List.Memᴰ
use mathlib.Core.List.{List}
use mathlib.Core.Bool.{Bool, true, false, and-eq-true_iff}
use mathlib.Core.Logic.{◌⊎◌, inl, inr, ⊎_elim}
use native.Mathlib.Omega.{arith}
use native.Mathlib.Nat.{eq-or-lt_of_le, le_of_suc-le-suc}
use lib.ListN.{length, get_or}
use lib.Dec.{eqb}
use borrow.Author.Tests.{eq-eqb, eqb-true}
use Rattle.sequences.specs.Sequence.{◌∈◌, Different}
use Rattle.sequences.proofs.Members.{all_in, member?, different-append}
use Rattle.sequences.proofs.Pigeonhole.{pigeonhole, pigeonhole-less}
use Rattle.sequences.proofs.Range.{range-different}
use Rattle.sequences.proofs.Filter.{filter-different}
use Rattle.layout.specs.declared.Layout.{Layout}
use Rattle.layout.specs.Words.{first_node, Node, InRange, ident_at, Unlisted, free, worn, in_use}
use Rattle.lists.specs.Lists.{IsList, SoundLists, Blank, Wiped}
use Rattle.lists.specs.Decide.{View, view_of, count_in, sequence_in, sequence_of, holds, all_hold, members, used, unwiped, ordered_in, sound_in, ordered_of, sound_of}
use Rattle.lists.proofs.Nodes.{in-use, unused, list-used, unlisted-out, used-is, is-used}
use Rattle.lists.proofs.Blank.{words-blank, blank-words, none-unwiped, all-wiped}
use Rattle.lists.proofs.Unique.{list-sequence, holds-list, list-holds, member-ident, lists-disjoint}

-- below n + 1: n, or below n
below_suc : (k n : ℕ) → k < suc n → (k ≡ n) ⊎ (k < n)
below_suc k n h = eq-or-lt_of_le (le_of_suc-le-suc h)

-- all lists below n hold, one by one
pub all-hold-at
    : (l : Layout) (v : View) (count : ℕ → ℕ) (n k : ℕ) → all_hold l v count n ≡ true → k < n
    → holds v k (count k) (sequence_in l v k) ≡ true
unfolding all_hold
all-hold-at l v count zero k e h = absurd (omega arith)
all-hold-at l v count (suc n) k e h =
    let a = (and-eq-true_iff (all_hold l v count n) (holds v n (count n) (sequence_in l v n))).0 e in
    ⊎_elim (λ q. subst (λ (j : ℕ). holds v j (count j) (sequence_in l v j) ≡ true) (sym q) a.1)
    (λ q. all-hold-at l v count n k a.0 q) (below_suc k n h)

pub at-all-hold
    : (l : Layout) (v : View) (count : ℕ → ℕ) (n : ℕ) → ((k : ℕ) → k < n → holds v k (count k) (sequence_in l v k) ≡ true)
    → all_hold l v count n ≡ true
unfolding all_hold
at-all-hold l v count zero h = refl
at-all-hold l v count (suc n) h =
    (and-eq-true_iff (all_hold l v count n) (holds v n (count n) (sequence_in l v n))).1
    (at-all-hold l v count n (λ k q. h k (omega arith)), h n (omega arith))

-- a member of the lists below n is in one of them
pub members-one : (l : Layout) (v : View) (n x : ℕ) → x ∈ members l v n → (k : ℕ) × (k < n) × (x ∈ sequence_in l v k)
unfolding members
members-one l v zero x m = absurd (elim m [ ])
members-one l v (suc n) x m =
    ⊎_elim (λ q. let r = members-one l v n x q in (r.0, omega (arith, r.1), r.2)) (λ q. (n, omega arith, q))
    (Memᴰ.append_cases (members l v n) m)

pub one-members : (l : Layout) (v : View) (n k x : ℕ) → k < n → x ∈ sequence_in l v k → x ∈ members l v n
unfolding members
one-members l v zero k x h m = absurd (omega arith)
one-members l v (suc n) k x h m =
    ⊎_elim (λ q. Memᴰ.append_right (members l v n) (subst (λ (j : ℕ). x ∈ sequence_in l v j) q m))
    (λ q. Memᴰ.append_left (sequence_in l v n) (one-members l v n k x q m)) (below_suc k n h)

module _ (l : Layout) (range : InRange l) (w : List ℕ) where
  abbrev Listed : ℕ → Type 0
  Listed n = (k : ℕ) → k < n → IsList l w k (sequence_of l w k)

  -- the members of all lists, each once
  members-different : (n : ℕ) → Listed n → Different (members l (view_of l w) n)
  unfolding members
  members-different zero h = tt
  members-different (suc n) h =
      different-append (members l (view_of l w) n) (sequence_of l w n) (members-different n (λ k q. h k (omega arith)))
      (h n (omega arith)).different apart
    where
      apart : (x : ℕ) → x ∈ members l (view_of l w) n → x ∈ sequence_of l w n → ⊥
      apart x m m' =
          let r = members-one l (view_of l w) n x m in
          omega (
            arith,
            r.1,
            lists-disjoint l w r.0 n (sequence_of l w r.0) (sequence_of l w n) x
                (h r.0 (omega (arith, r.1))) (h n (omega arith)) r.2 m',
          )

  abbrev Used : List ℕ
  Used = used (view_of l w) (first_node l) l.nodes

  abbrev All-members : List ℕ
  All-members = members l (view_of l w) l.lists

  -- a member is a node in use
  member-used : Listed l.lists → (x : ℕ) → x ∈ All-members → x ∈ Used
  member-used h x m =
      let r = members-one l (view_of l w) l.lists x m in
      let i = h r.0 r.1 in
      let n = all_in (Node l) (sequence_of l w r.0) i.nodes r.2 in
      is-used (view_of l w) (first_node l) l.nodes x n.low n.high
      (list-used range r.1 (member-ident l w r.0 (sequence_of l w r.0) x i r.2))

  -- decided true: the lists are sound
  pub ordered-lists : ordered_of l w ≡ true → SoundLists l w
  unfolding ordered_in
  ordered-lists e = record { sequence = sequence_of l w; lists = listed; outside = unlisted }
    where
      parts : (all_hold l (view_of l w) (count_in l w) l.lists ≡ true) × (eqb (length All-members) (length Used) ≡ true)
      parts = (and-eq-true_iff (all_hold l (view_of l w) (count_in l w) l.lists) (eqb (length All-members) (length Used))).0 e

      listed : (k : ℕ) → k < l.lists → IsList l w k (sequence_of l w k)
      listed k h = holds-list l w k h (all-hold-at l (view_of l w) (count_in l w) l.lists k parts.0 h)

      unlisted : (i : ℕ) → Node l i → ((k : ℕ) → k < l.lists → i ∈ sequence_of l w k → ⊥) → Unlisted (get_or w (ident_at l i) 0)
      unlisted i n h = by (in_use (get_or w (ident_at l i) 0)) refl
        where
          apart : i ∈ All-members → ⊥
          apart m = let r = members-one l (view_of l w) l.lists i m in h r.0 r.1 r.2

          by : (b : Bool) → in_use (get_or w (ident_at l i) 0) ≡ b → Unlisted (get_or w (ident_at l i) 0)
          by false q = unused _ q
          by true q =
              absurd (omega (
                arith,
                eqb-true (length All-members) (length Used) parts.1,
                pigeonhole-less All-members Used i (members-different l.lists listed) (member-used listed)
                    (is-used (view_of l w) (first_node l) l.nodes i n.low n.high (in-use _ q)) apart,
              ))

  -- the lists are sound: decided true
  pub lists-ordered : SoundLists l w → ordered_of l w ≡ true
  unfolding ordered_in
  lists-ordered s =
      (and-eq-true_iff (all_hold l (view_of l w) (count_in l w) l.lists) (eqb (length All-members) (length Used))).1 (
        at-all-hold l (view_of l w) (count_in l w) l.lists (λ k h. list-holds l w k h (s.sequence k) (s.lists k h)),
        eq-eqb (length All-members) (length Used) (omega (
          arith,
          pigeonhole All-members Used (members-different l.lists listed) (member-used listed),
          pigeonhole Used All-members (filter-different _ _ (range-different (first_node l) l.nodes)) used-member,
        )),
      )
    where
      same : (k : ℕ) → k < l.lists → sequence_of l w k ≡ s.sequence k
      same k h = list-sequence l w k h (s.sequence k) (s.lists k h)

      listed : (k : ℕ) → k < l.lists → IsList l w k (sequence_of l w k)
      listed k h = subst (IsList l w k) (sym (same k h)) (s.lists k h)

      used-member : (x : ℕ) → x ∈ Used → x ∈ All-members
      used-member x m = by (member? x All-members)
        where
          u : (first_node l ≤ x) × (x < first_node l + l.nodes) × (Unlisted (get_or w (ident_at l x) 0) → ⊥)
          u = used-is (view_of l w) (first_node l) l.nodes x m

          by : (x ∈ All-members) ⊎ (x ∈ All-members → ⊥) → x ∈ All-members
          by (inl q) = q
          by (inr q) =
              absurd (u.2 (s.outside x (record { low = u.0; high = u.1 })
              (λ k h p. q (one-members l (view_of l w) l.lists k x h (subst (λ (t : List ℕ). x ∈ t) (sym (same k h)) p)))))

  -- a store decided sound: its lists are sound, ..
  sound-parts : sound_of l w ≡ true → (ordered_of l w ≡ true) × (length (unwiped (view_of l w) (first_node l) l.nodes) ≡ 0)
  unfolding sound_in
  sound-parts e =
      let a = (and-eq-true_iff (ordered_of l w) (eqb (length (unwiped (view_of l w) (first_node l) l.nodes)) 0)).0 e in
      (a.0, eqb-true _ 0 a.1)

  pub sound-lists : sound_of l w ≡ true → SoundLists l w
  sound-lists e = ordered-lists (sound-parts e).0

  -- .. and a node in none of them that is not worn is free, so its record is blank
  pub sound-wiped : sound_of l w ≡ true → (s : SoundLists l w) → Wiped l w s.sequence
  sound-wiped e s i n out z = by (s.outside i n out)
    where
      by : Unlisted (get_or w (ident_at l i) 0) → Blank l w i
      by (worn q) = absurd (z q)
      by (free q) = blank-words l w i (none-unwiped (view_of l w) (first_node l) l.nodes (sound-parts e).1 i n.low n.high q)

  -- the lists are sound, and so are the records: decided true
  pub lists-sound : (s : SoundLists l w) → Wiped l w s.sequence → sound_of l w ≡ true
  unfolding sound_in
  lists-sound s h =
      (and-eq-true_iff (ordered_of l w) (eqb (length (unwiped (view_of l w) (first_node l) l.nodes)) 0)).1 (
        lists-ordered s,
        eq-eqb (length (unwiped (view_of l w) (first_node l) l.nodes)) 0 (ap length (all-wiped (view_of l w) (first_node l) l.nodes blank)),
      )
    where
      blank : (i : ℕ) → first_node l ≤ i → i < first_node l + l.nodes → (view_of l w).ident i ≡ 0 → (view_of l w).blank i ≡ true
      blank i low high z =
          words-blank l w i
          (h i (record { low = low; high = high }) (λ k g. unlisted-out l w k (s.sequence k) range g (s.lists k g) i (free z)) (λ q. omega (arith, z, q)))
