-- Two sound stores of one layout in which a list has different sequences differ in four words at least.
use Prim.Native.Nat.{ℕ, ◌+◌, ◌<◌, ◌≤◌}
use mathlib.Core.Path.{◌≡◌, refl, ap, ◌∙◌, sym, subst}
use mathlib.Core.List.Memᴰ
use mathlib.Core.List.{List, [], ◌∷◌, map, reverse, reverse-reverse}
use mathlib.Core.Logic.{◌⊎◌, inl, inr, ⊎_elim}
use native.Mathlib.Omega.{arith}
use lib.ListN.{length, get_or, length-map}
use Rattle.sequences.specs.Sequence.{◌∈◌, All, Different}
use Rattle.sequences.proofs.Members.{all_in, in_all, member?, every?}
use Rattle.sequences.proofs.Pigeonhole.{pigeonhole-less}
use Rattle.sequences.proofs.Reversed.{backward-forward, ring-reverse, all-reverse, reverse-in, in-reverse, different-reverse}
use Rattle.layout.specs.declared.Layout.{Layout}
use Rattle.layout.specs.Words.{ident_word, forward_word, back_word, count_word, cell_count, Node, is_node, cell_at, cell_words, size_of, ident_at, ident_of, InRange}
use Rattle.layout.proofs.Apart.{words-apart, links-words, words-header, word_fits}
use Rattle.lists.specs.Lists.{IsList, SoundLists}
use Rattle.lists.specs.Decide.{view_of, count_in}
use Rattle.lists.proofs.Agree.{Holds, agrees-holds}
use Rattle.lists.proofs.Nodes.{list-used}
use Rattle.lists.proofs.Unique.{header-out, nodes-all, member-ident}
use Rattle.lists.proofs.Same.{ident-word, count-word, ring-cell}
use Rattle.recovery.specs.Plan.{joined, differing}
use Rattle.recovery.proofs.Differing.{differ-many}
use Rattle.recovery.proofs.Joined.{one-joined, joined-one}
use Rattle.recovery.proofs.Slots.{ring-cells}
use Rattle.distance.proofs.Rings.{some-moved, two-moved}

-- a word of a cell in which two stores differ
record Word (l : Layout) (w w' : List ℕ) : Type 0 where
  cell : ℕ
  word : ℕ
  inside : cell < cell_count l
  fits : word < cell_words l cell
  differs : get_or w (cell_at l cell + word) 0 ≡ get_or w' (cell_at l cell + word) 0 → ⊥

-- words of which no two are the same
abbrev Apart : {l : Layout} {w w' : List ℕ} → List (Word l w w') → Type 0
Apart [] = Unit {0}
Apart (m ∷ ms) = All (λ n. m.cell ≡ n.cell → m.word ≡ n.word → ⊥) ms × Apart ms

-- a node that carries a list's identifier is in the list
carrier : (l : Layout) → InRange l → (w : List ℕ) (x : SoundLists l w) (k c : ℕ) → k < l.lists → Node l c → get_or w (ident_at l c) 0 ≡ ident_of k → c ∈ x.sequence k
carrier l r w x k c h n e = by (member? c (joined x.sequence l.lists))
  where
    by : (c ∈ joined x.sequence l.lists) ⊎ (c ∈ joined x.sequence l.lists → ⊥) → c ∈ x.sequence k
    by (inl m) =
        let j = joined-one x.sequence l.lists c m in
        let q : ident_of j.0 ≡ ident_of k = sym (member-ident l w j.0 (x.sequence j.0) c (x.lists j.0 j.1) j.2) ∙ e in
        let same : j.0 ≡ k = omega (arith, q) in
        subst (λ (i : ℕ). c ∈ x.sequence i) same j.2
    by (inr o) = absurd (list-used r h e (x.outside c n (λ j g m. o (one-joined x.sequence l.lists j c g m))))

module _ (l : Layout) (range : InRange l) (w w' : List ℕ) (exact : length w ≡ size_of l) (exact' : length w' ≡ size_of l) where
  abbrev at : Word l w w' → ℕ
  at m = cell_at l m.cell + m.word

  addresses : (ms : List (Word l w w')) → Apart ms → Different (map at ms)
  addresses [] a = tt
  addresses (m ∷ ms) a = (
    (λ q.
        let n = Memᴰ.of_map at ms q in
        words-apart l m.cell n.0.cell m.word n.0.word (all_in (λ n. m.cell ≡ n.cell → m.word ≡ n.word → ⊥) ms a.0 n.1)
        m.fits n.0.fits (sym n.2)),
    addresses ms a.1,
  )

  -- such words are counted
  words-differ : (ms : List (Word l w w')) → Apart ms → length ms ≤ differing w w'
  words-differ ms a =
      omega (
        arith,
        length-map ms at,
        differ-many (map at ms) w w' (addresses ms a) (exact' ∙ sym exact)
            (in_all (λ b. (b < length w) × (get_or w b 0 ≡ get_or w' b 0 → ⊥)) (map at ms)
            (λ b q.
            let n = Memᴰ.of_map at ms q in (
              subst (λ (b : ℕ). b < length w) n.2 (omega (arith, exact, word_fits l n.0.cell n.0.word n.0.inside n.0.fits)),
              subst (λ (b : ℕ). get_or w b 0 ≡ get_or w' b 0 → ⊥) n.2 n.0.differs,
            ))),
      )

  module _ (x : SoundLists l w) (x' : SoundLists l w') (k : ℕ) (h : k < l.lists) (other : x.sequence k ≡ x'.sequence k → ⊥) where
    abbrev s : List ℕ
    s = x.sequence k

    abbrev s' : List ℕ
    s' = x'.sequence k

    i : IsList l w k s
    i = x.lists k h

    i' : IsList l w' k s'
    i' = x'.lists k h

    held : Holds (view_of l w) k (count_in l w k) s
    held = agrees-holds l w k s i.agrees

    held' : Holds (view_of l w') k (count_in l w' k) s'
    held' = agrees-holds l w' k s' i'.agrees

    abbrev forward : (c : ℕ) → c ∈ (k ∷ s) → ((view_of l w).forward c ≡ (view_of l w').forward c → ⊥) → Word l w w'
    forward c m n =
        record { cell = c; word = forward_word; inside = ring-cell l w k h s i c m; fits = links-words l c forward_word (omega arith); differs = n }

    abbrev back : (c : ℕ) → c ∈ (k ∷ reverse s) → ((view_of l w).back c ≡ (view_of l w').back c → ⊥) → Word l w w'
    back c m n =
        record {
          cell = c;
          word = back_word;
          inside = ring-cell l w k h s i c (ring-reverse k s m);
          fits = links-words l c back_word (omega arith);
          differs = n;
        }

    abbrev ident : (c : ℕ) → Node l c → (get_or w (ident_at l c) 0 ≡ get_or w' (ident_at l c) 0 → ⊥) → Word l w w'
    ident c m n =
        record {
          cell = c;
          word = ident_word;
          inside = m.high;
          fits = links-words l c ident_word (omega arith);
          differs = λ e. n (ap (λ (a : ℕ). get_or w a 0) (ident-word l c) ∙ e ∙ ap (λ (a : ℕ). get_or w' a 0) (sym (ident-word l c)));
        }

    abbrev count : (length s ≡ length s' → ⊥) → Word l w w'
    count n =
        record {
          cell = k;
          word = count_word;
          inside = omega arith;
          fits = omega (arith, words-header l k h);
          differs =
              λ e.
              n (sym held.count ∙ ap (λ (a : ℕ). get_or w a 0) (count-word l k h) ∙ e
              ∙ ap (λ (a : ℕ). get_or w' a 0) (sym (count-word l k h)) ∙ held'.count);
        }

    -- a member that left, and one that came
    abbrev left : (c : ℕ) → c ∈ s → (c ∈ s' → ⊥) → Word l w w'
    left c m n =
        let node = all_in (Node l) s i.nodes m in
        ident c node (λ e. n (carrier l range w' x' k c h node (sym e ∙ member-ident l w k s c i m)))

    abbrev came : (c : ℕ) → c ∈ s' → (c ∈ s → ⊥) → Word l w w'
    came c m n =
        let node = all_in (Node l) s' i'.nodes m in
        ident c node (λ e. n (carrier l range w x k c h node (e ∙ member-ident l w' k s' c i' m)))

    reversed : reverse s ≡ reverse s' → ⊥
    reversed e = other (sym (reverse-reverse s) ∙ ap reverse e ∙ reverse-reverse s')

    -- one forward and one back differ at least
    a-forward : (c : ℕ) × (c ∈ (k ∷ s)) × ((view_of l w).forward c ≡ (view_of l w').forward c → ⊥)
    a-forward =
        some-moved (is_node l) (view_of l w).forward (view_of l w').forward k s s' (nodes-all l s i.nodes) (nodes-all l s' i'.nodes)
        (header-out l k h) held.turn.forwards held'.turn.forwards other

    a_back : (c : ℕ) × (c ∈ (k ∷ reverse s)) × ((view_of l w).back c ≡ (view_of l w').back c → ⊥)
    a_back =
        some-moved (is_node l) (view_of l w).back (view_of l w').back k (reverse s) (reverse s')
        (nodes-all l (reverse s) (all-reverse (Node l) s i.nodes)) (nodes-all l (reverse s') (all-reverse (Node l) s' i'.nodes))
        (header-out l k h) (backward-forward (view_of l w).back k s k held.turn.backs)
        (backward-forward (view_of l w').back k s' k held'.turn.backs) reversed

    -- two identifiers or counts that differ, with these
    with-links : (m n : Word l w w') → (m.word ≡ ident_word) ⊎ (m.word ≡ count_word) → (n.word ≡ ident_word) ⊎ (n.word ≡ count_word)
        → (m.cell ≡ n.cell → m.word ≡ n.word → ⊥) → 4 ≤ differing w w'
    with-links m n a b apart =
        words-differ (m ∷ n ∷ forward a-forward.0 a-forward.1 a-forward.2 ∷ back a_back.0 a_back.1 a_back.2 ∷ []) (
          (apart, (no-link m a 1 (omega arith) (omega arith), (no-link m a 2 (omega arith) (omega arith), tt))),
          ((no-link n b 1 (omega arith) (omega arith), (no-link n b 2 (omega arith) (omega arith), tt)), (((λ _ e. omega (arith, e)), tt), (tt, tt))),
        )
      where
        no-link : (m : Word l w w') → (m.word ≡ ident_word) ⊎ (m.word ≡ count_word) → (f : ℕ) → 0 < f → f < 3 → {c : ℕ} → m.cell ≡ c → m.word ≡ f → ⊥
        no-link m a f p q _ e = ⊎_elim (λ z. omega (arith, z, e)) (λ z. omega (arith, z, e)) a

    -- the same members: two forwards and two backs
    turned : ((c : ℕ) → c ∈ s → c ∈ s') → ((c : ℕ) → c ∈ s' → c ∈ s) → 4 ≤ differing w w'
    turned to from =
        let f =
        two-moved (is_node l) (view_of l w).forward (view_of l w').forward k s s' (nodes-all l s i.nodes) (nodes-all l s' i'.nodes)
        (header-out l k h) held.turn.forwards held'.turn.forwards other (ring-cells l k s' h i'.nodes i'.different).1 to from in
        let b =
        two-moved (is_node l) (view_of l w).back (view_of l w').back k (reverse s) (reverse s')
        (nodes-all l (reverse s) (all-reverse (Node l) s i.nodes)) (nodes-all l (reverse s') (all-reverse (Node l) s' i'.nodes))
        (header-out l k h) (backward-forward (view_of l w).back k s k held.turn.backs)
        (backward-forward (view_of l w').back k s' k held'.turn.backs) reversed
        (ring-cells l k (reverse s') h (all-reverse (Node l) s' i'.nodes) (different-reverse s' i'.different)).1
        (λ c m. reverse-in s' (to c (in-reverse s m))) (λ c m. reverse-in s (from c (in-reverse s' m))) in
        words-differ (forward f.0 f.2 f.5 ∷ forward f.1 f.3 f.6 ∷ back b.0 b.2 b.5 ∷ back b.1 b.3 b.6 ∷ []) (
          ((λ e _. f.4 e), ((λ _ e. omega (arith, e)), ((λ _ e. omega (arith, e)), tt))),
          (((λ _ e. omega (arith, e)), ((λ _ e. omega (arith, e)), tt)), (((λ e _. b.4 e), tt), (tt, tt))),
        )

    pub far : 4 ≤ differing w w'
    far = by (every? (λ c. c ∈ s') (λ c. member? c s') s) (every? (λ c. c ∈ s) (λ c. member? c s) s')
      where
        by : ((c : ℕ) → c ∈ s → c ∈ s') ⊎ ((c : ℕ) × (c ∈ s) × (c ∈ s' → ⊥)) → ((c : ℕ) → c ∈ s' → c ∈ s) ⊎ ((c : ℕ) × (c ∈ s') × (c ∈ s → ⊥))
            → 4 ≤ differing w w'
        by (inl to) (inl from) = turned to from
        by (inr a) (inr b) =
            with-links (left a.0 a.1 a.2) (came b.0 b.1 b.2) (inl refl) (inl refl)
            (λ e _. b.2 (subst (λ (c : ℕ). c ∈ s) e a.1))
        by (inr a) (inl from) =
            with-links (left a.0 a.1 a.2)
            (count (λ e. omega (arith, e, pigeonhole-less s' s a.0 i'.different from a.1 a.2))) (inl refl) (inr refl)
            (λ _ e. omega (arith, e))
        by (inl to) (inr b) =
            with-links (came b.0 b.1 b.2)
            (count (λ e. omega (arith, e, pigeonhole-less s s' b.0 i.different to b.1 b.2))) (inl refl) (inr refl)
            (λ _ e. omega (arith, e))
