-- What the whole plan leaves of an accepted store: the words of each list as its sequence asks them, and the rest as it was.
use Prim.Native.Nat.{ℕ, ◌+◌, ◌<◌, ◌≤◌}
use mathlib.Core.Path.{◌≡◌, refl, ap, ◌∙◌, sym, subst}
use mathlib.Core.List.Memᴰ
use mathlib.Core.List.{List, ◌∷◌, Memᴰ}
use mathlib.Core.Bool.{Bool, true, false, cond, true≢false}
use mathlib.Core.Logic.{◌⊎◌, inl, inr}
use native.Mathlib.Decide.{dec_lt}
use native.Mathlib.Omega.{arith}
use lib.ListN.{length, get_or}
use borrow.Author.Tests.{eq-eqb, eqb-true}
use Rattle.sequences.specs.Sequence.{◌∈◌}
use Rattle.sequences.proofs.Members.{all_in, in_all}
use Rattle.stores.specs.Stores.{Write, run, Spares}
use Rattle.stores.proofs.Laws.{run_out, run-word}
use Rattle.layout.specs.declared.Layout.{Layout}
use Rattle.layout.specs.Words.{link_words, tail_words, count_word, first_node, Node, size_of, cell_at, cell_words, ident_at, record_at, worn_ident, Unlisted, free, worn, is_worn}
use Rattle.layout.proofs.Apart.{cells-apart, words-apart, links-words, tail-word, words-header, cell-behind}
use Rattle.lists.specs.Lists.{asked, IsList, SoundLists, Wiped, SameCells}
use Rattle.lists.proofs.Same.{ident-word}
use Rattle.recovery.specs.Fits.{wrong}
use Rattle.recovery.specs.Plan.{joined, recover_stores, Accepted, Kind, mend, clear, wipe}
use Rattle.recovery.proofs.Required.{Right, wrong-in}
use Rattle.recovery.proofs.Slots.{Value, ident, forward, back, count, slot, asked-word}
use Rattle.recovery.proofs.Joined.{one-joined, ring_out}
use Rattle.recovery.proofs.Count.{plan-kinds}
use Rattle.recovery.proofs.Suffix.{worn-kept}
use Rattle.recovery.proofs.Whole.{whole-sound, whole-wiped}

-- two stores in which list j has the sequence s hold the same words in its header and the same links in its members
pub same-links
    : (l : Layout) (w x : List ℕ) (j : ℕ) → j < l.lists → (s : List ℕ) → IsList l w j s → IsList l x j s
    → (c f : ℕ) → c ∈ (j ∷ s) → (f < link_words) ⊎ ((c ≡ j) × (f ≡ count_word)) → get_or x (cell_at l c + f) 0 ≡ get_or w (cell_at l c + f) 0
same-links l w x j h s i i' c f m k =
    let a = asked-word l j s h c f m k in
    all_in (Right x) (asked l j s) i'.agrees a.1 ∙ sym (all_in (Right w) (asked l j s) i.agrees a.1)

module _ (l : Layout) (y : List ℕ) (exact : length y ≡ size_of l) (s : ℕ → List ℕ) (a : Accepted l y s) where
  abbrev pub Final : List ℕ
  Final = run (recover_stores l y s) y

  plan-spares : (b : ℕ) → ((p : Write) → Kind l y s p → b ≡ p.at → ⊥) → Spares b (recover_stores l y s)
  plan-spares b h =
      in_all (λ (p : Write). b ≡ p.at → ⊥) (recover_stores l y s) (λ p m. h p (all_in (Kind l y s) (recover_stores l y s) (plan-kinds l y s) m))

  -- no store goes to words 0 to 7
  pub head-spares : (b : ℕ) → b < 8 → Spares b (recover_stores l y s)
  head-spares b h = plan-spares b elsewhere
    where
      elsewhere : (p : Write) → Kind l y s p → b ≡ p.at → ⊥
      elsewhere p (mend k g m) e =
          let t = slot l k (s k) g (wrong-in y (asked l k (s k)) m).0 in
          omega (arith, t.at, cell-behind l t.cell)
      elsewhere p (clear c low out nz r) e = omega (arith, ap (λ (q : Write). q.at) r, cell-behind l c)
      elsewhere p (wipe c n out nw f hf nz r) e = omega (arith, ap (λ (q : Write). q.at) r, (tail-word l c f n.low hf).0, cell-behind l c)

  pub final-head : (b : ℕ) → b < 8 → get_or Final b 0 ≡ get_or y b 0
  final-head b h = run_out (recover_stores l y s) y b (head-spares b h)

  -- nor to the words behind the links of a member
  pub final-records : (c f : ℕ) → c ∈ joined s l.lists → first_node l ≤ c → 3 ≤ f → f < cell_words l c → get_or Final (cell_at l c + f) 0 ≡ get_or y (cell_at l c + f) 0
  final-records c f i low h g = run_out (recover_stores l y s) y (cell_at l c + f) (plan-spares (cell_at l c + f) elsewhere)
    where
      late : (k : ℕ) → k < l.lists → (d e v : ℕ) → Value k (s k) d e v → c ≡ d → f ≡ e → ⊥
      late k hk d e v (ident x _) p q = omega arith
      late k hk d e v (forward t x _ _ _) p q = omega arith
      late k hk d e v (back t x _ _ _) p q = omega arith
      late k hk d e v (count o x _) p q = omega arith

      elsewhere : (p : Write) → Kind l y s p → cell_at l c + f ≡ p.at → ⊥
      elsewhere p (mend k g' m) e =
          let t = slot l k (s k) g' (wrong-in y (asked l k (s k)) m).0 in
          words-apart l c t.cell f t.word (late k g' t.cell t.word p.value t.value) g t.fits (e ∙ t.at)
      elsewhere p (clear d lo out nz r) e =
          words-apart l c d f 0 (λ _ q. omega arith) g (links-words l d 0 (omega arith)) (e ∙ ap (λ (q : Write). q.at) r ∙ ident-word l d)
      elsewhere p (wipe d n out nw b hb nz r) e =
          let x = tail-word l d b n.low hb in
          cells-apart l c d f (link_words + b) (λ q. out (Memᴰ.cast (sym q) i)) g x.1 (e ∙ ap (λ (q : Write). q.at) r ∙ x.0)

  -- nor, to mend a list, to a word of a node in none
  mend-apart : (c f : ℕ) → Node l c → (c ∈ joined s l.lists → ⊥) → f < cell_words l c → (p : Write) (k : ℕ) → k < l.lists
      → Memᴰ p (wrong y (asked l k (s k))) → cell_at l c + f ≡ p.at → ⊥
  mend-apart c f n o g p k hk m e =
      let t = slot l k (s k) hk (wrong-in y (asked l k (s k)) m).0 in
      cells-apart l c t.cell f t.word (λ q. ring_out l s k c hk n.low o (Memᴰ.cast q t.within)) g t.fits (e ∙ t.at)

  -- so such a node keeps its links,
  pub final-outside : (c f : ℕ) → Node l c → (c ∈ joined s l.lists → ⊥) → 1 ≤ f → f < link_words → get_or Final (cell_at l c + f) 0 ≡ get_or y (cell_at l c + f) 0
  final-outside c f n o h g = run_out (recover_stores l y s) y (cell_at l c + f) (plan-spares (cell_at l c + f) elsewhere)
    where
      elsewhere : (p : Write) → Kind l y s p → cell_at l c + f ≡ p.at → ⊥
      elsewhere p (mend k hk m) e = mend-apart c f n o (links-words l c f g) p k hk m e
      elsewhere p (clear d lo out nz r) e =
          words-apart l c d f 0 (λ _ q. omega arith) (links-words l c f g) (links-words l d 0 (omega arith)) (e ∙ ap (λ (q : Write). q.at) r ∙ ident-word l d)
      elsewhere p (wipe d m out nw b hb nz r) e =
          let x = tail-word l d b m.low hb in
          words-apart l c d f (link_words + b) (λ _ q. omega arith) (links-words l c f g) x.1 (e ∙ ap (λ (q : Write). q.at) r ∙ x.0)

  -- and a worn one all
  pub worn-spares : (c f : ℕ) → Node l c → (c ∈ joined s l.lists → ⊥) → get_or y (ident_at l c) 0 ≡ worn_ident → f < cell_words l c
      → Spares (cell_at l c + f) (recover_stores l y s)
  worn-spares c f n o w g = plan-spares (cell_at l c + f) elsewhere
    where
      elsewhere : (p : Write) → Kind l y s p → cell_at l c + f ≡ p.at → ⊥
      elsewhere p (mend k hk m) e = mend-apart c f n o g p k hk m e
      elsewhere p (clear d lo out nz r) e =
          cells-apart l c d f 0 (λ q. nz (worn (ap (λ (x : ℕ). get_or y (ident_at l x) 0) (sym q) ∙ w))) g (links-words l d 0 (omega arith))
          (e ∙ ap (λ (q : Write). q.at) r ∙ ident-word l d)
      elsewhere p (wipe d m out nw b hb nz r) e =
          let x = tail-word l d b m.low hb in
          cells-apart l c d f (link_words + b) (λ q. nw (ap (λ (x : ℕ). get_or y (ident_at l x) 0) (sym q) ∙ w)) g x.1 (e ∙ ap (λ (q : Write). q.at) r ∙ x.0)

  pub final-worn : (c f : ℕ) → Node l c → (c ∈ joined s l.lists → ⊥) → get_or y (ident_at l c) 0 ≡ worn_ident → f < cell_words l c
      → get_or Final (cell_at l c + f) 0 ≡ get_or y (cell_at l c + f) 0
  final-worn c f n o w g = run_out (recover_stores l y s) y (cell_at l c + f) (worn-spares c f n o w g)

  pub final-lists : (x : SoundLists l Final) × (x.sequence ≡ s)
  final-lists = whole-sound l y s exact a

  pub final-list : (j : ℕ) → j < l.lists → IsList l Final j (s j)
  final-list j h = subst (λ (t : ℕ → List ℕ). IsList l Final j (t j)) final-lists.1 (final-lists.0.lists j h)

  -- its identifier ends as 0 unless it is worn
  pub final-ident : (c : ℕ) → Node l c → (c ∈ joined s l.lists → ⊥) → get_or Final (ident_at l c) 0 ≡ cond (is_worn (get_or y (ident_at l c) 0)) worn_ident 0
  final-ident c n o =
      by (final-lists.0.outside c n (λ k h m. o (one-joined s l.lists k c h (subst (λ (t : ℕ → List ℕ). c ∈ t k) final-lists.1 m))))
      ∙ ap (λ (b : Bool). cond b worn_ident 0) (worn-kept l y s a Final (run-word (recover_stores l y s) y) c n o)
    where
      by : Unlisted (get_or Final (ident_at l c) 0) → get_or Final (ident_at l c) 0 ≡ cond (is_worn (get_or Final (ident_at l c) 0)) worn_ident 0
      by (free e) = e ∙ rw e
      by (worn e) = e ∙ rw e

  -- and its record words as 0 unless it is worn
  pub final-wiped : Wiped l Final s
  final-wiped = whole-wiped l y s exact a

  pub final-record : (c : ℕ) → Node l c → (c ∈ joined s l.lists → ⊥) → (f : ℕ) → f < tail_words l
      → get_or Final (record_at l c + f) 0 ≡ cond (is_worn (get_or y (ident_at l c) 0)) (get_or y (record_at l c + f) 0) 0
  final-record c n o f h = by (is_worn (get_or y (ident_at l c) 0)) refl
    where
      word : (record_at l c + f ≡ cell_at l c + (link_words + f)) × (link_words + f < cell_words l c)
      word = tail-word l c f n.low h

      by : (b : Bool) → is_worn (get_or y (ident_at l c) 0) ≡ b → get_or Final (record_at l c + f) 0 ≡ cond b (get_or y (record_at l c + f) 0) 0
      by true e =
          ap (λ (a : ℕ). get_or Final a 0) word.0 ∙ final-worn c (link_words + f) n o (eqb-true _ worn_ident e) word.1 ∙ ap (λ (a : ℕ). get_or y a 0) (sym word.0)
      by false e =
          final-wiped c n (λ k g m. o (one-joined s l.lists k c g m))
          (λ z. true≢false (sym (eq-eqb _ worn_ident z) ∙ worn-kept l y s a Final (run-word (recover_stores l y s) y) c n o ∙ e)) f h

  -- a list's words are those of any store that has the same list, if its members' records are
  pub final-words : (w : List ℕ) (j : ℕ) → j < l.lists → IsList l w j (s j)
      → ((c f : ℕ) → c ∈ s j → 3 ≤ f → f < cell_words l c → get_or y (cell_at l c + f) 0 ≡ get_or w (cell_at l c + f) 0)
      → SameCells l w Final (j ∷ s j)
  final-words w j h i records c f m g = by (dec_lt f 3) m
    where
      by : Dec (f < 3) → c ∈ (j ∷ s j) → get_or Final (cell_at l c + f) 0 ≡ get_or w (cell_at l c + f) 0
      by (yes z) q = same-links l w Final j h (s j) i (final-list j h) c f m (inl z)
      by (no z) (Memᴰ.head e) =
          same-links l w Final j h (s j) i (final-list j h) c f m (inr (e, last e))
        where
          last : c ≡ j → f ≡ 3
          last q = omega (arith, words-header l j h, ap (cell_words l) q)
      by (no z) (Memᴰ.tail q) =
          final-records c f (one-joined s l.lists j c h q) (all_in (Node l) (s j) (a.fits j h).nodes q).low (omega arith) g ∙ records c f q (omega arith) g
