-- The nodes of a sound store: in a list, free or worn. Number 10 is of those that are free.
use Prim.Native.Nat.{ℕ, zero, suc, ◌+◌, ◌*◌, ◌/◌, ◌%◌, ◌<◌, ◌≤◌}
use mathlib.Core.Path.{◌≡◌, refl, ap, ◌∙◌, sym}
use mathlib.Core.List.{List, ◌++◌}
use mathlib.Core.Logic.{◌⊎◌, inl, inr, ◌↔◌}
use native.Mathlib.Decide.{dec_lt}
use native.Mathlib.Omega.{arith}
use native.Mathlib.Nat.{mul-div_left, mul-mod_left, suc-mul}
use lib.ListN.{length, get_or, take}
use lib.Seq.{length-take-le}
use borrow.Author.Tests.{eq-eqb, lt-ltb, le-leb, lt-leb}
use Rattle.std.specs.Prelude.{Option, Some, None, Err}
use Rattle.sequences.specs.Sequence.{◌∈◌}
use Rattle.stores.specs.Stores.{Write, refuse, stores}
use Rattle.layout.specs.declared.Layout.{Layout}
use Rattle.layout.specs.declared.Refusal.{Refusal}
use Rattle.layout.specs.declared.Refusal.TheVariants.{Full}
use Rattle.layout.specs.Words.{Node, first_node, ident_at, Unlisted, free, worn, layout_of}
use Rattle.layout.proofs.Laws.{node-is}
use Rattle.lists.specs.Lists.{Sound}
use Rattle.lists.specs.Decide.{View, view_of, count_in, sequence_in, sequence_of, members, used}
use Rattle.lists.proofs.Nodes.{unlisted-out, cells-sum}
use Rattle.lists.proofs.Unique.{list-sequence}
use Rattle.lists.proofs.Stepwise.{sound-number}
use Rattle.requests.specs.declared.Request.TheVariants.{Gap, Gaps}
use Rattle.requests.specs.Requests.{around, first_free, free_cells, gap_at, gaps_at, site_in, site_of}
use Rattle.requests.proofs.Laws.{look-refused}
use Rattle.requests.proofs.Turn.{free-count}
use Rattle.requests.proofs.Search.{first-free}
use Rattle.edits.proofs.OneByOne.{turn-free}
use Rattle.recovery.specs.Plan.{joined}
use Rattle.recovery.proofs.Joined.{one-joined, joined-one, joined_same}
use Rattle.calls.specs.Calls.{insert_plan, several_plan}
use Rattle.calls.proofs.Cases.{insert-refused, several-refused}
use Rattle.calls.proofs.Calls.{sound-opened, sound-decided}
use Rattle.courses.proofs.Calls.{first-node}
use Rattle.demands.specs.Demand2.{FreeNode}
use Rattle.demands.proofs.Demand2.{demand2}
use Rattle.worn.specs.Worn.{WornNode, free_nodes, worn_nodes}

-- the members of all lists, by either definition
members-joined : (l : Layout) (v : View) (n : ℕ) → members l v n ≡ joined (sequence_in l v) n
unfolding members joined
members-joined l v zero = refl
members-joined l v (suc n) = ap (λ (t : List ℕ). t ++ sequence_in l v n) (members-joined l v n)

module _ (w : List ℕ) (s : Sound w) where
  abbrev l : Layout
  l = layout_of w

  pub kinds : (i : ℕ) → Node l i → (i ∈ joined s.ordered.lists.sequence l.lists → ⊥) ↔ (FreeNode w i ⊎ WornNode w i)
  kinds i n = ((λ o. by (s.ordered.lists.outside i n (λ k h m. o (one-joined s.ordered.lists.sequence l.lists k i h m)))), from)
    where
      by : Unlisted (get_or w (ident_at l i) 0) → FreeNode w i ⊎ WornNode w i
      by (free e) = inl (record { node = n; free = e })
      by (worn e) = inr (record { node = n; worn = e })

      unlisted : FreeNode w i ⊎ WornNode w i → Unlisted (get_or w (ident_at l i) 0)
      unlisted (inl f) = free f.free
      unlisted (inr f) = worn f.worn

      from : FreeNode w i ⊎ WornNode w i → i ∈ joined s.ordered.lists.sequence l.lists → ⊥
      from u m =
          let k = joined-one s.ordered.lists.sequence l.lists i m in
          let x = s.ordered in
          unlisted-out l w k.0 (x.lists.sequence k.0) x.in_range k.1 (x.lists.lists k.0 k.1) i (unlisted u) k.2

  -- as many nodes are in use as the lists have members
  members-used : length (joined s.ordered.lists.sequence l.lists) ≡ length (used (view_of l w) (first_node l) l.nodes)
  members-used =
      let x = s.ordered.lists in
      ap length
      (joined_same x.sequence (sequence_of l w) l.lists (λ k h. sym (list-sequence l w k h (x.sequence k) (x.lists k h)))
      ∙ sym (members-joined l (view_of l w) l.lists))
      ∙ (sound-number l (view_of l w) (count_in l w) (sound-decided w s)).1

  pub sum : length (free_nodes w) + (length (worn_nodes w) + length (joined s.ordered.lists.sequence l.lists)) ≡ l.nodes
  sum = omega (arith, members-used, cells-sum (view_of l w) (first_node l) l.nodes)

  -- where all else is answered yes
  module _ (k p c : ℕ) (words : List ℕ) (hk : k < l.lists) (hp : p ≤ length (s.ordered.lists.sequence k)) (hc : Node l c) where
    its : sequence_of l w k ≡ s.ordered.lists.sequence k
    its = list-sequence l w k hk (s.ordered.lists.sequence k) (s.ordered.lists.lists k hk)

    stores-refused : {ps : List Write} {n : Refusal} → stores ps ≡ refuse n → ⊥
    stores-refused e = let z : ◌≡◌ {A = ℕ} 0 1 = cc in omega arith

    -- one record
    module _ (size : length words ≡ l.width) where
      full-site : first_free (view_of l w).ident (around l c l.nodes) ≡ None → site_of l w (Gap k p c (length words)) ≡ Err Full
      unfolding site_in gap_at
      full-site e = rw (lt-ltb _ _ hk, sound-decided w s, its, le-leb _ _ hp, node-is l c hc, eq-eqb _ _ size, e)

      pub full : (insert_plan w k p c words ≡ refuse Full) ↔ ((i : ℕ) → FreeNode w i → ⊥)
      full = ((demand2.inserts w s k p c words).full, λ none. by none (first_free (view_of l w).ident (around l c l.nodes)) refl)
        where
          by : ((i : ℕ) → FreeNode w i → ⊥) → (x : Option ℕ) → first_free (view_of l w).ident (around l c l.nodes) ≡ x
              → insert_plan w k p c words ≡ refuse Full
          by none None e = insert-refused w k p c words (sym (look-refused w (Gap k p c (length words)) (sound-opened w s) (full-site e)))
          by none (Some i) e =
              let f = first-free (view_of l w).ident (around l c l.nodes) i e in
              absurd (none i (record { node = first-node l w c i hc f; free = f.free }))

    -- r records
    module _ (r : ℕ) (some : 0 < r) (size : length words ≡ r * l.width) where
      -- as many free cells are met as there are
      met : length (free_cells (view_of l w).ident (around l c l.nodes)) ≡ length (free_nodes w)
      met = free-count l (view_of l w) c hc

      number : length words / l.width ≡ r
      number = ap (λ (n : ℕ). n / l.width) size ∙ mul-div_left r s.ordered.in_range.some_width

      positive : 0 < length words
      positive = by r some size
        where
          by : (n : ℕ) → 0 < n → length words ≡ n * l.width → 0 < length words
          by zero h e = absurd (omega arith)
          by (suc n) h e = omega (arith, e, suc-mul n l.width, s.ordered.in_range.some_width)

      few-site : length (free_nodes w) < r → site_of l w (Gaps k p c (length words)) ≡ Err Full
      unfolding site_in gaps_at
      few-site h =
          rw (
            lt-ltb _ _ hk,
            sound-decided w s,
            its,
            le-leb _ _ hp,
            node-is l c hc,
            lt-ltb _ _ positive,
            eq-eqb _ _ (ap (λ (n : ℕ). n % l.width) size ∙ mul-mod_left r l.width),
            lt-leb (length words / l.width) (length (free_cells (view_of l w).ident (around l c l.nodes))) (omega (arith, number, met, h)),
          )

      pub several-full : (several_plan w k p c words ≡ refuse Full) ↔ (length (free_nodes w) < r)
      several-full = (
        (λ e. by e (dec_lt (length (free_nodes w)) r)),
        λ h. several-refused w k p c words (sym (look-refused w (Gaps k p c (length words)) (sound-opened w s) (few-site h))),
      )
        where
          cells : List ℕ
          cells = take r (free_cells (view_of l w).ident (around l c l.nodes))

          by : several_plan w k p c words ≡ refuse Full → Dec (length (free_nodes w) < r) → length (free_nodes w) < r
          by e (yes h) = h
          by e (no h) =
              let n : length cells ≡ r = length-take-le r _ (omega (arith, met)) in
              let a =
              (demand2.severals w s k p c words).accepted hk hp hc positive cells (turn-free l w c r hc)
              (size ∙ ap (λ (x : ℕ). x * l.width) (sym n)) in
              absurd (stores-refused (sym a.1 ∙ e))
