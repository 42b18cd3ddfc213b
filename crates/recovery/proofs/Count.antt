-- Where the stores of a plan go. No word is required twice, so the stores are as many as the words that differ in the end.
use Prim.Native.Nat.{ℕ, zero, suc, ◌+◌, ◌<◌, ◌≤◌}
use mathlib.Core.Path.{◌≡◌, refl, ap, ◌∙◌, sym, subst}
use mathlib.Core.List.Memᴰ
use mathlib.Core.List.{List, [], ◌∷◌, ◌++◌, map-id, Memᴰ}
use mathlib.Core.Logic.{◌⊎◌, inl, inr, ⊎_elim}
use native.Mathlib.Decide.{ℕ_discrete}
use native.Mathlib.Omega.{arith}
use native.Mathlib.Nat.{add-zero}
use lib.ListN.{length, get_or, replicate}
use Rattle.sequences.specs.Sequence.{◌∈◌, All, Different}
use Rattle.sequences.proofs.Members.{all_in, in_all, all_append}
use Rattle.stores.specs.Stores.{Write, write, run, in_row}
use Rattle.layout.specs.declared.Layout.{Layout}
use Rattle.layout.specs.Words.{link_words, tail_words, first_node, Node, cell_count, size_of, cell_at, cell_words, ident_at, record_at, worn_ident, Unlisted, free, worn}
use Rattle.layout.proofs.Apart.{cells-apart, words-apart, links-words, tail-word, word_fits}
use Rattle.lists.specs.Lists.{asked, blank_asked}
use Rattle.lists.specs.Decide.{view_of}
use Rattle.lists.proofs.Same.{ident-word}
use Rattle.recovery.specs.Fits.{Fits}
use Rattle.recovery.specs.Plan.{joined, nodes_out, lists_asked, clears_asked, blanks_asked, wipes_asked, required, recover_stores, Accepted, differing, Kind, mend, clear, wipe}
use Rattle.recovery.proofs.Disjoint.{fits-disjoint}
use Rattle.recovery.proofs.Required.{wrong-in, in-wrong, Once, once-append, wrong-differs}
use Rattle.recovery.proofs.Slots.{slot, ident-cell, cells-once, asked-once}
use Rattle.recovery.proofs.Joined.{joined-one, ring_out, out-is, out-different}

-- the words of blank records
pub row_in : (a n : ℕ) {p : Write} → Memᴰ p (in_row a (replicate n 0)) → (f : ℕ) × (f < n) × (p ≡ write (a + f) 0)
unfolding in_row
row_in a zero m = absurd (elim m [ ])
row_in a (suc n) (Memᴰ.head e) = (0, omega arith, e ∙ ap (λ (b : ℕ). write b 0) (sym (add-zero a)))
row_in a (suc n) (Memᴰ.tail m) =
    let r = row_in (a + 1) n m in
    let e : a + 1 + r.0 ≡ a + suc r.0 = omega arith in
    (suc r.0, omega (arith, r.1), r.2 ∙ ap (λ (b : ℕ). write b 0) e)

pub in-blank : (l : Layout) (c : ℕ) {p : Write} → Memᴰ p (blank_asked l c) → (f : ℕ) × (f < tail_words l) × (p ≡ write (record_at l c + f) 0)
in-blank l c = row_in (record_at l c) (tail_words l)

pub in-blanks : (l : Layout) (cs : List ℕ) {p : Write} → Memᴰ p (blanks_asked l cs)
    → (c : ℕ) × (c ∈ cs) × ((f : ℕ) × (f < tail_words l) × (p ≡ write (record_at l c + f) 0))
unfolding blanks_asked
in-blanks l [] m = absurd (elim m [ ])
in-blanks l (c ∷ cs) m =
    ⊎_elim (λ t. (c, Memᴰ.head refl, in-blank l c t))
    (λ t. let r = in-blanks l cs t in (r.0, Memᴰ.tail r.1, r.2))
    (Memᴰ.append_cases (blank_asked l c) m)

-- no word of them twice
row-once : (a n : ℕ) → Once (in_row a (replicate n 0))
unfolding in_row
row-once a zero = tt
row-once a (suc n) = (
  λ m.
      let p = Memᴰ.of_map (λ (p : Write). p.at) (in_row (a + 1) (replicate n 0)) m in
      let r = row_in (a + 1) n p.1 in
      omega (arith, p.2, ap (λ (q : Write). q.at) r.2),
  row-once (a + 1) n,
)

blanks-once : (l : Layout) (cs : List ℕ) → All (λ c. first_node l ≤ c) cs → Different cs → Once (blanks_asked l cs)
unfolding blanks_asked
blanks-once l [] n d = tt
blanks-once l (c ∷ cs) n d =
    once-append (blank_asked l c) (blanks_asked l cs) (row-once (record_at l c) (tail_words l)) (blanks-once l cs n.1 d.1)
    (λ p q m m' e.
    let f = in-blank l c m in
    let r = in-blanks l cs m' in
    let x = tail-word l c f.0 n.0 f.1 in
    let y = tail-word l r.0 r.2.0 (all_in (λ c. first_node l ≤ c) cs n.1 r.1) r.2.1 in
    cells-apart l c r.0 (link_words + f.0) (link_words + r.2.0) (λ z. d.0 (Memᴰ.cast z r.1)) x.1 y.1
    (sym x.0 ∙ ap (λ (t : Write). t.at) (sym f.2) ∙ e ∙ ap (λ (t : Write). t.at) r.2.2 ∙ y.0))

-- the requirements, one by one: the words asked of a list, and of nodes in none that are not worn the identifiers and the record words
module _ (l : Layout) (w : List ℕ) (s : ℕ → List ℕ) {p : Write} where
  pub in-lists : Memᴰ p (lists_asked l s) → (k : ℕ) × (k < l.lists) × Memᴰ p (asked l k (s k))
  in-lists = joined-one (λ k. asked l k (s k)) l.lists p

  pub in-clears : Memᴰ p (clears_asked l w s)
      → (c : ℕ) × Node l c × (c ∈ joined s l.lists → ⊥) × (get_or w (ident_at l c) 0 ≡ worn_ident → ⊥) × (write (ident_at l c) 0 ≡ p)
  in-clears m =
      let r = Memᴰ.of_map (λ c. write (ident_at l c) 0) (nodes_out l w s) m in
      let o = out-is (view_of l w).ident (joined s l.lists) (first_node l) l.nodes r.0 r.1 in
      (r.0, record { low = o.0; high = o.1 }, o.2, o.3, r.2)

  pub in-wipes : Memᴰ p (wipes_asked l w s)
      → (c : ℕ) × Node l c × (c ∈ joined s l.lists → ⊥) × (get_or w (ident_at l c) 0 ≡ worn_ident → ⊥) × ((f : ℕ) × (f < tail_words l) × (p ≡ write (record_at l c + f) 0))
  in-wipes m =
      let r = in-blanks l (nodes_out l w s) m in
      let o = out-is (view_of l w).ident (joined s l.lists) (first_node l) l.nodes r.0 r.1 in
      (r.0, record { low = o.0; high = o.1 }, o.2, o.3, r.2)

  -- both are words of such nodes
  in-out : Memᴰ p (clears_asked l w s ++ wipes_asked l w s)
      → (c : ℕ) × Node l c × (c ∈ joined s l.lists → ⊥) × ((f : ℕ) × (f < cell_words l c) × (p.at ≡ cell_at l c + f))
  in-out m =
      ⊎_elim
      (λ t.
      let c = in-clears t in
      (c.0, c.1, c.2, (0, links-words l c.0 0 (omega arith), ap (λ (q : Write). q.at) (sym c.4) ∙ ident-word l c.0)))
      (λ t.
      let c = in-wipes t in
      let f = c.4 in
      let e = tail-word l c.0 f.0 c.1.low f.1 in
      (c.0, c.1, c.2, (link_words + f.0, e.1, ap (λ (q : Write). q.at) f.2 ∙ e.0)))
      (Memᴰ.append_cases (clears_asked l w s) m)

-- the stores of a plan
pub plan-kinds : (l : Layout) (w : List ℕ) (s : ℕ → List ℕ) → All (Kind l w s) (recover_stores l w s)
plan-kinds l w s =
    in_all (Kind l w s) (recover_stores l w s)
    (λ p m.
    let r = wrong-in w (required l w s) m in
    ⊎_elim (λ t. let k = in-lists l w s t in mend k.0 k.1 (in-wrong w (asked l k.0 (s k.0)) k.2 r.1))
    (λ t. outside p r.1 (Memᴰ.append_cases (clears_asked l w s) t))
    (Memᴰ.append_cases (lists_asked l s) r.0))
  where
    spare : (c : ℕ) → (get_or w (ident_at l c) 0 ≡ 0 → ⊥) → (get_or w (ident_at l c) 0 ≡ worn_ident → ⊥) → Unlisted (get_or w (ident_at l c) 0) → ⊥
    spare c a b (free z) = a z
    spare c a b (worn z) = b z

    outside : (p : Write) → (get_or w p.at 0 ≡ p.value → ⊥) → Memᴰ p (clears_asked l w s) ⊎ Memᴰ p (wipes_asked l w s) → Kind l w s p
    outside p n (inl t) =
        let c = in-clears l w s t in
        clear c.0 c.1.low c.2 (spare c.0 (λ z. n (subst (λ (q : Write). get_or w q.at 0 ≡ q.value) c.4 z)) c.3) (sym c.4)
    outside p n (inr t) =
        let c = in-wipes l w s t in
        let f = c.4 in
        wipe c.0 c.1 c.2 c.3 f.0 f.1 (λ z. n (subst (λ (q : Write). get_or w q.at 0 ≡ q.value) (sym f.2) z)) f.2

module _ (l : Layout) (w : List ℕ) (s : ℕ → List ℕ) (fits : (k : ℕ) → k < l.lists → Fits l w k (s k)) where
  -- a cell is of one list
  one_list : (i k c : ℕ) → i < l.lists → k < l.lists → c ∈ (i ∷ s i) → c ∈ (k ∷ s k) → i ≡ k
  one_list i k c hi hk m m' = elim (ℕ_discrete i k) [ yes e ↦ e | no n ↦ by n m m' ]
    where
      by : (i ≡ k → ⊥) → c ∈ (i ∷ s i) → c ∈ (k ∷ s k) → i ≡ k
      by n (Memᴰ.head e) (Memᴰ.head e') = sym e ∙ e'
      by n (Memᴰ.head e) (Memᴰ.tail q) = absurd (omega (arith, (all_in (Node l) (s k) (fits k hk).nodes q).low))
      by n (Memᴰ.tail p) (Memᴰ.head e) = absurd (omega (arith, (all_in (Node l) (s i) (fits i hi).nodes p).low))
      by n (Memᴰ.tail p) (Memᴰ.tail q) = absurd (fits-disjoint l w i k hi hk n (s i) (s k) c (fits i hi) (fits k hk) p q)

  lists-once : (n : ℕ) → n ≤ l.lists → Once (joined (λ k. asked l k (s k)) n)
  unfolding joined
  lists-once zero h = tt
  lists-once (suc n) h =
      once-append (joined (λ k. asked l k (s k)) n) (asked l n (s n)) (lists-once n (omega arith))
      (asked-once l n (s n) (omega arith) (fits n (omega arith)).nodes (fits n (omega arith)).different)
      (λ p q m m' e.
      let i = joined-one (λ k. asked l k (s k)) n p m in
      let x = slot l i.0 (s i.0) (omega (arith, i.1)) i.2 in
      let y = slot l n (s n) (omega arith) m' in
      cells-apart l x.cell y.cell x.word y.word
      (λ c. omega (arith, i.1, one_list i.0 n x.cell (omega (arith, i.1)) (omega arith) x.within (Memᴰ.cast c y.within)))
      x.fits y.fits (sym x.at ∙ e ∙ y.at))

  out-nodes : All (λ c. first_node l ≤ c) (nodes_out l w s)
  out-nodes = in_all _ (nodes_out l w s) (λ c m. (out-is (view_of l w).ident (joined s l.lists) (first_node l) l.nodes c m).0)

  outs-once : Once (clears_asked l w s ++ wipes_asked l w s)
  outs-once =
      let d = out-different (view_of l w).ident (joined s l.lists) (first_node l) l.nodes in
      once-append (clears_asked l w s) (wipes_asked l w s)
      (cells-once (ident_at l) (ident-cell l) (λ c. c) (λ c. 0) (nodes_out l w s) (subst Different (sym (map-id (nodes_out l w s))) d))
      (blanks-once l (nodes_out l w s) out-nodes d)
      (λ p q m m' e.
      let c = in-clears l w s m in
      let i = in-wipes l w s m' in
      let f = i.4 in
      let y = tail-word l i.0 f.0 i.1.low f.1 in
      words-apart l c.0 i.0 0 (link_words + f.0) (λ _ z. omega arith) (links-words l c.0 0 (omega arith)) y.1
      (sym (ident-word l c.0) ∙ ap (λ (t : Write). t.at) c.4 ∙ e ∙ ap (λ (t : Write). t.at) f.2 ∙ y.0))

  -- no word is required twice
  pub required-once : Once (required l w s)
  required-once =
      once-append (lists_asked l s) (clears_asked l w s ++ wipes_asked l w s) (lists-once l.lists (omega arith)) outs-once
      (λ p q m m' e.
      let i = in-lists l w s m in
      let x = slot l i.0 (s i.0) i.1 i.2 in
      let c = in-out l w s m' in
      let f = c.3 in
      cells-apart l x.cell c.0 x.word f.0 (λ z. ring_out l s i.0 c.0 i.1 c.1.low c.2 (Memᴰ.cast (sym z) x.within))
      x.fits f.1 (sym x.at ∙ e ∙ f.2))

  -- and all are words of the store
  pub required-inside : length w ≡ size_of l → All (λ (p : Write). p.at < length w) (required l w s)
  required-inside e =
      all_append (λ (p : Write). p.at < length w) (lists_asked l s) (clears_asked l w s ++ wipes_asked l w s)
      (in_all _ (lists_asked l s)
      (λ p m.
      let k = in-lists l w s m in
      let x = slot l k.0 (s k.0) k.1 k.2 in
      omega (arith, x.at, word_fits l x.cell x.word (cell k.0 k.1 x.cell x.within) x.fits)))
      (in_all _ (clears_asked l w s ++ wipes_asked l w s)
      (λ p m. let c = in-out l w s m in let f = c.3 in omega (arith, f.2, word_fits l c.0 f.0 c.1.high f.1)))
    where
      cell : (k : ℕ) → k < l.lists → (c : ℕ) → c ∈ (k ∷ s k) → c < cell_count l
      cell k h c (Memᴰ.head d) = omega arith
      cell k h c (Memᴰ.tail m) = (all_in (Node l) (s k) (fits k h).nodes m).high

-- the stores of a plan are as many as the words in which found and final store differ
pub plan-differs : (l : Layout) (s : ℕ → List ℕ) (ps : List Write) (w : List ℕ) → length w ≡ size_of l → Accepted l w s → recover_stores l w s ≡ ps
    → differing w (run ps w) ≡ length ps
plan-differs l s ps w e a q =
    wrong-differs (required l w s) (required-once l w s a.fits) ps w (required-inside l w s a.fits e) q
