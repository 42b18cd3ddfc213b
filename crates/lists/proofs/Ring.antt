-- A list that holds is a ring of its header and its members: where its links lead.
use Prim.Native.Nat.{ℕ, zero, suc, ◌+◌, ◌-◌, ◌≤◌, ◌<◌}
use mathlib.Core.Path.{◌≡◌, refl, ap, ◌∙◌, sym}
use mathlib.Core.List.{List, [], ◌∷◌, ◌++◌}
use mathlib.Core.Bool.{true}
use native.Mathlib.Omega.{arith}
use native.Mathlib.Numerals.{add-one}
use lib.ListN.{length, get_or, length-append, get_or-append}
use Rattle.sequences.specs.Sequence.{All, follow}
use Rattle.sequences.proofs.Members.{all_in, in_all, all-nth, at_in, in-front}
use Rattle.sequences.proofs.Splice.{forward-at}
use Rattle.sequences.proofs.Trail.{trail-inside}
use Rattle.sequences.proofs.Follow.{follow-none, follow-next, follow-forward, follow-backward, backward-at}
use Rattle.layout.specs.declared.Layout.{Layout}
use Rattle.layout.specs.Words.{Node, is_node, cell_count}
use Rattle.layout.proofs.Laws.{is-node}
use Rattle.lists.specs.Decide.{View, sequence_in, sound_in, HeldList}
use Rattle.lists.proofs.Agree.{Holds, holds-true}
use Rattle.lists.proofs.Stepwise.{sound-hold}

-- a sound store's lists hold
pub sound-held : (l : Layout) (v : View) (count : ℕ → ℕ) (j : ℕ) → j < l.lists → sound_in l v count ≡ true → {k n : ℕ} → k ≡ j → n ≡ count j → HeldList l v k n
sound-held l v count j b e p q = rw (p, q) (record { list = b; held = sound-hold l v count e j b })

module _ {l : Layout} {v : View} {k n : ℕ} (h : HeldList l v k n) where
  abbrev members : List ℕ
  members = sequence_in l v k

  held : Holds v k n members
  held = holds-true v k n members h.held

  pub held-count : n ≡ length members
  held-count = held.count

  -- cell q of the ring, q from 1 on: a node, ..
  pub ring-node : (q : ℕ) → 0 < q → q ≤ n → Node l (get_or (k ∷ members) q 0)
  ring-node q g p =
      let m : q ≡ suc (q - 1) = omega arith in
      rw m
      (is-node l (get_or members (q - 1) 0)
      (all-nth (λ c. is_node l c ≡ true) members (q - 1) 0 (trail-inside v.forward (is_node l) l.nodes (v.forward k)) (omega (arith, held-count))))

  -- .. that lies q links ahead of the header, the header too,
  pub ring-ahead : (q : ℕ) → q ≤ n → follow v.forward q k ≡ get_or (k ∷ members) q 0
  ring-ahead zero p = follow-none v.forward 0 k refl
  ring-ahead (suc i) p =
      follow-next v.forward i k ∙ follow-forward v.forward k members k i held.turn.forwards (omega (arith, held-count))

  -- and i links behind it, if these are all of the ring
  pub ring-behind : (i q : ℕ) → i + q ≡ n + 1 → 0 < i → 0 < q → follow v.back i k ≡ get_or (k ∷ members) q 0
  ring-behind zero q e g p = absurd (omega arith)
  ring-behind (suc i) zero e g p = absurd (omega arith)
  ring-behind (suc i) (suc q) e g p =
      follow-next v.back i k ∙ follow-backward v.back k members k i q held.turn.backs (omega (arith, held-count))

  -- all cells of the ring are cells of the store, with the header at either end
  ring-cells : All (λ c. c < cell_count l) (k ∷ members)
  ring-cells = (
    omega (arith, h.list),
    in_all (λ c. c < cell_count l) members
        (λ c m. (is-node l c (all_in (λ c. is_node l c ≡ true) members (trail-inside v.forward (is_node l) l.nodes (v.forward k)) m)).high),
  )

  pub ring-inside : (q : ℕ) → q ≤ n → get_or (k ∷ members) q 0 < cell_count l
  ring-inside q p = all-nth (λ c. c < cell_count l) (k ∷ members) q 0 ring-cells (omega (arith, held-count))

  pub ring-end : (q : ℕ) → q ≤ n → get_or (members ++ k ∷ []) q 0 < cell_count l
  ring-end q p =
      all_in (λ c. c < cell_count l) (k ∷ members) ring-cells
      (in-front k members (at_in (members ++ k ∷ []) q (omega (arith, held-count, length-append members (k ∷ [])))))

  -- what stands before and after it
  pub ring-after : (q : ℕ) → q ≤ n → v.forward (get_or (k ∷ members) q 0) ≡ get_or (members ++ k ∷ []) q 0
  ring-after q p = forward-at v.forward k members k q held.turn.forwards (omega (arith, held-count))

  pub ring-before : (q : ℕ) → q < n → v.back (get_or (k ∷ members) (q + 1) 0) ≡ get_or (k ∷ members) q 0
  ring-before q p =
      rw add-one
      (ap v.back (sym (get_or-append members (k ∷ []) 0 q (omega (arith, held-count))))
      ∙ backward-at v.back k members k q held.turn.backs (omega (arith, held-count)))
