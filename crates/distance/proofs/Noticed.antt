-- One, two or three altered words are noticed: the words are not sound, since two sound stores that differ in such words differ in four.
use Prim.Native.Nat.{ℕ, zero, suc, ◌+◌, ◌<◌, ◌≤◌}
use mathlib.Core.Path.{◌≡◌, refl, ap, ◌∙◌, sym, subst}
use mathlib.Core.List.Memᴰ
use mathlib.Core.List.{List, ◌∷◌, ◌++◌, map, Memᴰ}
use mathlib.Core.Bool.{Bool, true, false}
use mathlib.Core.Logic.{◌⊎◌, inl, inr, ⊎_elim, ◌↔◌}
use native.Mathlib.Decide.{ℕ_discrete}
use native.Mathlib.Omega.{arith}
use native.Mathlib.Nat.{eq-or-lt_of_le, le_of_suc-le-suc}
use lib.ListN.{get_or}
use borrow.Author.Tests.{eq-eqb, ne_eqb}
use Rattle.std.specs.Prelude.{Ok, Err}
use Rattle.sequences.specs.Sequence.{◌∈◌}
use Rattle.sequences.proofs.Members.{all_in, member?}
use Rattle.stores.specs.Stores.{write}
use Rattle.layout.specs.declared.Layout.{Layout}
use Rattle.layout.specs.declared.Refusal.TheVariants.{Unsound}
use Rattle.layout.specs.Words.{head_words, link_words, count_word, first_node, Node, cell_at, ident_at, worn_ident, is_worn, layout_of, opened}
use Rattle.layout.proofs.Apart.{cell-behind}
use Rattle.lists.specs.Lists.{asked, SoundLists, Wiped, Sound}
use Rattle.lists.specs.Decide.{view_of, sound_of}
use Rattle.lists.proofs.Same.{ident-word, same-opened}
use Rattle.lists.proofs.Decided.{sound-lists, sound-wiped}
use Rattle.recovery.specs.Plan.{joined, lists_asked, clears_asked, blanks_asked, wipes_asked, required, differing}
use Rattle.recovery.proofs.Required.{Right}
use Rattle.recovery.proofs.Differing.{differ-some}
use Rattle.recovery.proofs.Candidates.{sequence-dec}
use Rattle.recovery.proofs.Joined.{one-joined, joined-one, is-out, out-same}
use Rattle.recovery.proofs.Slots.{asked-word}
use Rattle.recovery.proofs.Whole.{required-same, sound-agrees}
use Rattle.calls.specs.Calls.{check_answer}
use Rattle.calls.proofs.Calls.{sound-opened, unsound-check}
use Rattle.distance.specs.Distance.{Place, header, identifier, link, Changed}
use Rattle.distance.proofs.Far.{far}

-- every such word is a required one, but the identifier of a worn node in no list
module _ (l : Layout) (w₀ : List ℕ) (s : ℕ → List ℕ) where
  abbrev pub Asked : ℕ → Type 0
  Asked a = (v : ℕ) × Memᴰ (write a v) (required l w₀ s)

  of-list : (k c f : ℕ) → k < l.lists → c ∈ (k ∷ s k) → (f < link_words) ⊎ ((c ≡ k) × (f ≡ count_word)) → (a : ℕ) → a ≡ cell_at l c + f → Asked a
  of-list k c f h m w a e =
      let r = asked-word l k (s k) h c f m w in (
        r.0,
        Memᴰ.append_left (clears_asked l w₀ s ++ wipes_asked l w₀ s)
            (one-joined (λ j. asked l j (s j)) l.lists k (write a r.0) h (Memᴰ.cast (ap (λ (b : ℕ). write b r.0) e) r.1)),
      )

  -- word a is none of these
  abbrev pub Unworn : ℕ → Type 0
  Unworn a = (i : ℕ) → Node l i → (i ∈ joined s l.lists → ⊥) → a ≡ ident_at l i → get_or w₀ (ident_at l i) 0 ≡ worn_ident → ⊥

  pub place-asked : (a : ℕ) → Place l s a → Unworn a → Asked a
  place-asked a (header k f h g e) u = of-list k k f h (Memᴰ.head refl) (by (ℕ_discrete f count_word)) a e
    where
      by : Dec (f ≡ count_word) → (f < link_words) ⊎ ((k ≡ k) × (f ≡ count_word))
      by (yes q) = inr (refl, q)
      by (no n) = inl (omega arith)
  place-asked a (identifier i n e) u = by (member? i (joined s l.lists))
    where
      by : (i ∈ joined s l.lists) ⊎ (i ∈ joined s l.lists → ⊥) → Asked a
      by (inl m) =
          let k = joined-one s l.lists i m in
          of-list k.0 i 0 k.1 (Memᴰ.tail k.2) (inl (omega arith)) a (e ∙ ident-word l i)
      by (inr o) = (
        0,
        Memᴰ.cast (ap (λ (b : ℕ). write b 0) e)
            (Memᴰ.append_right (lists_asked l s)
            (Memᴰ.append_left (wipes_asked l w₀ s)
            (Memᴰ.map (λ c. write (ident_at l c) 0) (is-out (view_of l w₀).ident (joined s l.lists) (first_node l) l.nodes i n.low n.high o (u i n o e))))),
      )
  place-asked a (link k c f h m g e) u = of-list k c f h (Memᴰ.tail m) (inl (omega (arith, g))) a e

  -- and stands behind words 0 to 7
  pub place-behind : (a : ℕ) → Place l s a → head_words ≤ a
  place-behind a (header k f h g e) = omega (arith, cell-behind l k)
  place-behind a (identifier i n e) = omega (arith, cell-behind l i)
  place-behind a (link k c f h m g e) = omega (arith, cell-behind l c)

-- two rows of sequences are the same below n, or one is not
same? : (s t : ℕ → List ℕ) (n : ℕ) → ((k : ℕ) → k < n → s k ≡ t k) ⊎ ((k : ℕ) × (k < n) × (s k ≡ t k → ⊥))
same? s t zero = inl (λ k h. absurd (omega arith))
same? s t (suc n) = by (sequence-dec (s n) (t n)) (same? s t n)
  where
    by : Dec (s n ≡ t n) → ((k : ℕ) → k < n → s k ≡ t k) ⊎ ((k : ℕ) × (k < n) × (s k ≡ t k → ⊥))
        → ((k : ℕ) → k < suc n → s k ≡ t k) ⊎ ((k : ℕ) × (k < suc n) × (s k ≡ t k → ⊥))
    by (no q) r = inr (n, omega arith, q)
    by (yes q) (inr r) = inr (r.0, omega (arith, r.1), r.2)
    by (yes q) (inl h) =
        inl (λ k g. ⊎_elim (λ z. subst (λ (i : ℕ). s i ≡ t i) (sym z) q) (h k) (eq-or-lt_of_le (le_of_suc-le-suc g)))

module _ (w : List ℕ) (s : Sound w) (w' : List ℕ) (c : Changed w s w') where
  abbrev l : Layout
  l = layout_of w

  same_head : (a : ℕ) → a < head_words → get_or w' a 0 ≡ get_or w a 0
  same_head a h = by (ℕ_discrete (get_or w a 0) (get_or w' a 0))
    where
      by : Dec (get_or w a 0 ≡ get_or w' a 0) → get_or w' a 0 ≡ get_or w a 0
      by (yes e) = sym e
      by (no n) = absurd (omega (arith, place-behind l w s.ordered.lists.sequence a (c.places a n)))

  pub changed-opened : opened w' ≡ Ok l
  changed-opened = same-opened w w' same_head c.size ∙ sound-opened w s

  -- the same nodes in no list are worn, so the same is required of both, ..
  pub changed-required : required l w' s.ordered.lists.sequence ≡ required l w s.ordered.lists.sequence
  changed-required =
      let t = s.ordered.lists.sequence in
      ap (λ (cs : List ℕ). lists_asked l t ++ (map (λ i. write (ident_at l i) 0) cs ++ blanks_asked l cs))
      (out-same (view_of l w).ident (view_of l w').ident (joined t l.lists) (first_node l) l.nodes
      (λ i p q o. alike (c.worn i (record { low = p; high = q }) o)))
    where
      alike : {x y : ℕ} → (x ≡ worn_ident) ↔ (y ≡ worn_ident) → is_worn y ≡ is_worn x
      alike {x} {y} h = by (ℕ_discrete x worn_ident)
        where
          by : Dec (x ≡ worn_ident) → is_worn y ≡ is_worn x
          by (yes e) = eq-eqb y worn_ident (h.0 e) ∙ sym (eq-eqb x worn_ident e)
          by (no n) = ne_eqb y worn_ident (λ e. n (h.1 e)) ∙ sym (ne_eqb x worn_ident n)

  -- .. and a word that differs is none of theirs
  pub changed-unworn : (a : ℕ) → (get_or w a 0 ≡ get_or w' a 0 → ⊥) → Unworn l w s.ordered.lists.sequence a
  changed-unworn a n i h o e z =
      n (ap (λ (b : ℕ). get_or w b 0) e ∙ z ∙ sym ((c.worn i h o).0 z) ∙ ap (λ (b : ℕ). get_or w' b 0) (sym e))

  -- where it is sound too, the stores differ in four words at least
  distance-four : (x' : SoundLists l w') → Wiped l w' x'.sequence → 1 ≤ differing w w' → 4 ≤ differing w w'
  distance-four x' y' some =
      let o = s.ordered in
      ⊎_elim (λ h. absurd (nowhere h)) (λ k. far l o.in_range w w' o.exact (c.size ∙ o.exact) o.lists x' k.0 k.1 k.2)
      (same? o.lists.sequence x'.sequence l.lists)
    where
      nowhere : ((k : ℕ) → k < l.lists → s.ordered.lists.sequence k ≡ x'.sequence k) → ⊥
      nowhere h =
          let a = differ-some w w' c.size some in
          let r = place-asked l w s.ordered.lists.sequence a.0 (c.places a.0 a.2) (changed-unworn a.0 a.2) in
          a.2
          (all_in (Right w) (required l w s.ordered.lists.sequence) (sound-agrees l w s.ordered.lists s.wiped) r.1
          ∙ sym (all_in (Right w') (required l w' x'.sequence) (sound-agrees l w' x' y')
          (subst (Memᴰ (write a.0 r.0))
          (sym changed-required ∙ required-same l w' s.ordered.lists.sequence x'.sequence h) r.1)))

  pub noticed : 1 ≤ differing w w' → differing w w' ≤ 3 → check_answer w' ≡ Err Unsound
  noticed some few = by (sound_of l w') refl
    where
      by : (b : Bool) → sound_of l w' ≡ b → check_answer w' ≡ Err Unsound
      by false e = unsound-check w' l changed-opened e
      by true e =
          let r = s.ordered.in_range in
          let x' = sound-lists l r w' e in
          absurd (omega (arith, distance-four x' (sound-wiped l r w' e x') some, few))
