-- What is asked of a list goes to words of its cells, to each word once.
use Prim.Native.Nat.{ℕ, ◌+◌, ◌<◌, ◌≤◌}
use mathlib.Core.Path.{◌≡◌, refl, ap, ◌∙◌, sym, subst}
use mathlib.Core.List.Memᴰ
use mathlib.Core.List.{List, [], ◌∷◌, ◌++◌, map, map-id, Memᴰ}
use mathlib.Core.Logic.{◌⊎◌, inl, inr, ⊎_elim}
use native.Mathlib.Decide.{ℕ_discrete}
use native.Mathlib.Omega.{arith}
use lib.ListN.{length}
use Rattle.sequences.specs.Sequence.{◌∈◌, All, Different, Step, steps}
use Rattle.sequences.proofs.Members.{all_in, in-front, in-behind, different-append}
use Rattle.sequences.proofs.Steps.{sources, targets, step-source, step-target, step_from, step-to}
use Rattle.stores.specs.Stores.{Write, write}
use Rattle.layout.specs.declared.Layout.{Layout}
use Rattle.layout.specs.Words.{link_words, first_node, count_word, Node, cell_at, cell_words, ident_at, forward_at, back_at, ident_of}
use Rattle.layout.proofs.Apart.{words-apart, cells-apart, links-words, words-header}
use Rattle.lists.specs.Lists.{asked, idents_asked, forwards_asked, backs_asked, count_asked, others_asked}
use Rattle.lists.proofs.Same.{ident-word, count-word}
use Rattle.recovery.proofs.Required.{Once, once-append}

-- the value that a list's sequence asks of word f of cell c
pub data Value (k : ℕ) (s : List ℕ) : ℕ → ℕ → ℕ → Type 0 where
  ident : {c f v : ℕ} → f ≡ 0 → v ≡ ident_of k → Value k s c f v
  forward : {c f v : ℕ} (t : Step) → f ≡ 1 → Memᴰ t (steps k s k) → c ≡ t.source → v ≡ t.target → Value k s c f v
  back : {c f v : ℕ} (t : Step) → f ≡ 2 → Memᴰ t (steps k s k) → c ≡ t.target → v ≡ t.source → Value k s c f v
  count : {c f v : ℕ} → c ≡ k → f ≡ 3 → v ≡ length s → Value k s c f v

pub record Slot (l : Layout) (k : ℕ) (s : List ℕ) (p : Write) : Type 0 where
  pub cell : ℕ
  pub word : ℕ
  pub within : cell ∈ (k ∷ s)
  pub fits : word < cell_words l cell
  pub at : p.at ≡ cell_at l cell + word
  pub value : Value k s cell word p.value

-- of a node nothing is asked but its identifier and its links
pub slot-links : {l : Layout} {k : ℕ} {s : List ℕ} {p : Write} → k < l.lists → (x : Slot l k s p) → first_node l ≤ x.cell → x.word < link_words
slot-links {l} {k} {s} h x low = by x.value
  where
    by : {v : ℕ} → Value k s x.cell x.word v → x.word < link_words
    by (ident e _) = omega arith
    by (forward _ e _ _ _) = omega arith
    by (back _ e _ _ _) = omega arith
    by (count e _ _) = absurd (omega arith)

-- a word is of one cell
pub same-cell : (l : Layout) (c d f g : ℕ) → f < cell_words l c → g < cell_words l d → cell_at l c + f ≡ cell_at l d + g → c ≡ d
same-cell l c d f g hf hg e = elim (ℕ_discrete c d) [ yes q ↦ q | no n ↦ absurd (cells-apart l c d f g n hf hg e) ]

pub ident-cell : (l : Layout) (c d : ℕ) → ident_at l c ≡ ident_at l d → c ≡ d
ident-cell l c d e =
    same-cell l c d 0 0 (links-words l c 0 (omega arith)) (links-words l d 0 (omega arith)) (sym (ident-word l c) ∙ e ∙ ident-word l d)

-- a word of each of some different cells
pub cells-once {ℓ} : {A : Type ℓ} (at : ℕ → ℕ) → ((c d : ℕ) → at c ≡ at d → c ≡ d) → (cell value : A → ℕ) (xs : List A)
    → Different (map cell xs) → Once (map (λ x. write (at (cell x)) (value x)) xs)
cells-once at one cell value [] d = tt
cells-once at one cell value (x ∷ xs) d = (
  λ m.
      let p = Memᴰ.of_map (λ (p : Write). p.at) (map (λ x. write (at (cell x)) (value x)) xs) m in
      let y = Memᴰ.of_map (λ x. write (at (cell x)) (value x)) xs p.1 in
      d.0 (Memᴰ.cast (one (cell x) (cell y.0) (sym p.2 ∙ ap (λ (p : Write). p.at) (sym y.2))) (Memᴰ.map cell y.1)),
  cells-once at one cell value xs d.1,
)

-- the header and the members of a sequence of different nodes are different cells
pub ring-cells : (l : Layout) (k : ℕ) (s : List ℕ) → k < l.lists → All (Node l) s → Different s → Different (k ∷ s) × Different (s ++ k ∷ [])
ring-cells l k s h n d = (
  (apart, d),
  different-append s (k ∷ []) d ((λ m. elim m [ ]), tt) (λ x m m'. apart (Memᴰ.cast (sym (Memᴰ.eq_of_singleton m')) m)),
)
  where
    apart : k ∈ s → ⊥
    apart m = omega (arith, (all_in (Node l) s n m).low)

-- every store that is asked has its slot: identifiers are word 0 of their cells, forwards word 1, backs word 2, the count word 3
module _ (l : Layout) (k : ℕ) (s : List ℕ) (h : k < l.lists) where
  abbrev SlotAt : ℕ → Write → Type 0
  SlotAt f p = (x : Slot l k s p) × (x.word ≡ f)

  ident-slot : {p : Write} → Memᴰ p (idents_asked l k s) → SlotAt 0 p
  ident-slot m =
      let r = Memᴰ.of_map (λ c. write (ident_at l c) (ident_of k)) (k ∷ s) m in (
        record {
          cell = r.0;
          word = 0;
          within = r.1;
          fits = links-words l r.0 0 (omega arith);
          at = ap (λ (q : Write). q.at) (sym r.2) ∙ ident-word l r.0;
          value = ident refl (ap (λ (q : Write). q.value) (sym r.2));
        },
        refl,
      )

  forward-slot : {p : Write} → Memᴰ p (forwards_asked l k s) → SlotAt 1 p
  forward-slot m =
      let r = Memᴰ.of_map (λ (t : Step). write (forward_at l t.source) t.target) (steps k s k) m in (
        record {
          cell = r.0.source;
          word = 1;
          within = step-source k s k r.1;
          fits = links-words l r.0.source 1 (omega arith);
          at = ap (λ (q : Write). q.at) (sym r.2);
          value = forward r.0 refl r.1 refl (ap (λ (q : Write). q.value) (sym r.2));
        },
        refl,
      )

  back-slot : {p : Write} → Memᴰ p (backs_asked l k s) → SlotAt 2 p
  back-slot m =
      let r = Memᴰ.of_map (λ (t : Step). write (back_at l t.target) t.source) (steps k s k) m in (
        record {
          cell = r.0.target;
          word = 2;
          within = in-front k s (step-target k s k r.1);
          fits = links-words l r.0.target 2 (omega arith);
          at = ap (λ (q : Write). q.at) (sym r.2);
          value = back r.0 refl r.1 refl (ap (λ (q : Write). q.value) (sym r.2));
        },
        refl,
      )

  count-slot : {p : Write} → Memᴰ p (count_asked l k s) → SlotAt 3 p
  count-slot m =
      let e = Memᴰ.eq_of_singleton m in (
        record {
          cell = k;
          word = 3;
          within = Memᴰ.head refl;
          fits = omega (arith, words-header l k h);
          at = ap (λ (q : Write). q.at) e ∙ count-word l k h;
          value = count refl refl (ap (λ (q : Write). q.value) e);
        },
        refl,
      )

  pub slot : {p : Write} → Memᴰ p (asked l k s) → Slot l k s p
  unfolding asked
  slot m =
      ⊎_elim
      (λ m.
      ⊎_elim (λ m. (ident-slot m).0) (λ m. ⊎_elim (λ m. (forward-slot m).0) (λ m. (back-slot m).0) (Memᴰ.append_cases (forwards_asked l k s) m))
      (Memᴰ.append_cases (idents_asked l k s) m))
      (λ m. (count-slot m).0) (Memᴰ.append_cases (others_asked l k s) m)

  -- and every link of a cell of the list has one, and its count
  pub asked-word : (c f : ℕ) → c ∈ (k ∷ s) → (f < link_words) ⊎ ((c ≡ k) × (f ≡ count_word)) → (v : ℕ) × Memᴰ (write (cell_at l c + f) v) (asked l k s)
  unfolding asked
  asked-word c f m (inr e) =
      (length s, Memᴰ.append_right (others_asked l k s) (Memᴰ.head (ap (λ (a : ℕ). write a (length s)) (here ∙ sym (count-word l k h)))))
    where
      here : cell_at l c + f ≡ cell_at l k + count_word
      here = ap (λ (d : ℕ). cell_at l d + f) e.0 ∙ ap (λ (g : ℕ). cell_at l k + g) e.1
  asked-word c f m (inl g) = by (ℕ_discrete f 0) (ℕ_discrete f 1)
    where
      other : {v : ℕ} → Memᴰ (write (cell_at l c + f) v) (others_asked l k s) → (v : ℕ) × Memᴰ (write (cell_at l c + f) v) (asked l k s)
      other {v} q = (v, Memᴰ.append_left (count_asked l k s) q)

      by : Dec (f ≡ 0) → Dec (f ≡ 1) → (v : ℕ) × Memᴰ (write (cell_at l c + f) v) (asked l k s)
      by (yes e) d =
          other
          (Memᴰ.append_left (forwards_asked l k s ++ backs_asked l k s)
          (Memᴰ.cast (ap (λ (a : ℕ). write a (ident_of k)) (ap (λ (g : ℕ). cell_at l c + g) e ∙ sym (ident-word l c)))
          (Memᴰ.map (λ c. write (ident_at l c) (ident_of k)) m)))
      by (no z) (yes e) =
          let t = step_from k s k c m in
          other
          (Memᴰ.append_right (idents_asked l k s)
          (Memᴰ.append_left (backs_asked l k s)
          (Memᴰ.cast (ap (λ (a : ℕ). write a t.0.target) (ap (λ (g : ℕ). cell_at l c + g) e ∙ ap (forward_at l) (sym t.2)))
          (Memᴰ.map (λ (t : Step). write (forward_at l t.source) t.target) t.1))))
      by (no z) (no y) =
          let e : f ≡ 2 = omega arith in
          let t = step-to k s k c (in-behind k s m) in
          other
          (Memᴰ.append_right (idents_asked l k s)
          (Memᴰ.append_right (forwards_asked l k s)
          (Memᴰ.cast (ap (λ (a : ℕ). write a t.0.source) (ap (λ (g : ℕ). cell_at l c + g) e ∙ ap (back_at l) (sym t.2)))
          (Memᴰ.map (λ (t : Step). write (back_at l t.target) t.source) t.1))))

  -- no word is asked for twice
  apart : (f g : ℕ) (p q : Write) → (f ≡ g → ⊥) → SlotAt f p → SlotAt g q → p.at ≡ q.at → ⊥
  apart f g p q n x y e =
      words-apart l x.0.cell y.0.cell x.0.word y.0.word (λ _ z. n (sym x.1 ∙ z ∙ y.1)) x.0.fits y.0.fits
      (sym x.0.at ∙ e ∙ y.0.at)

  pub asked-once : All (Node l) s → Different s → Once (asked l k s)
  unfolding asked
  asked-once n d =
      once-append (others_asked l k s) (count_asked l k s)
      (once-append (idents_asked l k s) (forwards_asked l k s ++ backs_asked l k s) idents
      (once-append (forwards_asked l k s) (backs_asked l k s) forwards backs
      (λ p q x y. apart 1 2 p q (λ z. omega arith) (forward-slot x) (back-slot y)))
      (λ p q x y.
      ⊎_elim (λ y. apart 0 1 p q (λ z. omega arith) (ident-slot x) (forward-slot y))
      (λ y. apart 0 2 p q (λ z. omega arith) (ident-slot x) (back-slot y)) (Memᴰ.append_cases (forwards_asked l k s) y)))
      ((λ m. elim m [ ]), tt)
      (λ p q x y.
      ⊎_elim (λ x. apart 0 3 p q (λ z. omega arith) (ident-slot x) (count-slot y))
      (λ x.
      ⊎_elim (λ x. apart 1 3 p q (λ z. omega arith) (forward-slot x) (count-slot y))
      (λ x. apart 2 3 p q (λ z. omega arith) (back-slot x) (count-slot y)) (Memᴰ.append_cases (forwards_asked l k s) x))
      (Memᴰ.append_cases (idents_asked l k s) x))
    where
      cells : Different (k ∷ s) × Different (s ++ k ∷ [])
      cells = ring-cells l k s h n d

      at-link : (f : ℕ) → f < 3 → (c d : ℕ) → cell_at l c + f ≡ cell_at l d + f → c ≡ d
      at-link f g c d = same-cell l c d f f (links-words l c f g) (links-words l d f g)

      idents : Once (idents_asked l k s)
      idents = cells-once (ident_at l) (ident-cell l) (λ c. c) (λ c. ident_of k) (k ∷ s) (subst Different (sym (map-id (k ∷ s))) cells.0)

      forwards : Once (forwards_asked l k s)
      forwards =
          cells-once (forward_at l) (at-link 1 (omega arith)) (λ (t : Step). t.source) (λ (t : Step). t.target) (steps k s k)
          (subst Different (sym (sources k s k)) cells.0)

      backs : Once (backs_asked l k s)
      backs =
          cells-once (back_at l) (at-link 2 (omega arith)) (λ (t : Step). t.target) (λ (t : Step). t.source) (steps k s k)
          (subst Different (sym (targets k s k)) cells.1)
