-- A list, and the order of a store, depend only on the words of the cells concerned.
use Prim.Native.Nat.{ℕ, ◌+◌, ◌<◌}
use mathlib.Core.Path.{◌≡◌, refl, ap, ◌∙◌, sym, subst, subst⁻¹}
use mathlib.Core.List.Memᴰ
use mathlib.Core.List.{List, [], ◌∷◌, ◌++◌}
use native.Mathlib.Omega.{arith}
use native.Mathlib.Nat.{add-zero}
use lib.ListN.{length, get_or}
use Rattle.sequences.specs.Sequence.{◌∈◌, All, Different}
use Rattle.sequences.proofs.Members.{all_in, in_all, different-append, in-front}
use Rattle.sequences.proofs.Splice.{forward-same, backward-same}
use Rattle.layout.specs.declared.Layout.{Layout}
use Rattle.layout.specs.Words.{head_words, forward_word, back_word, count_word, cell_count, Node, InRange, marked, layout_of, size_of, opened_by, opened, cell_at, ident_at, count_at, ident_of, worn_ident, Unlisted}
use Rattle.layout.proofs.Laws.{cell-header}
use Rattle.layout.proofs.Apart.{links-words, words-header}
use Rattle.lists.specs.Lists.{IsList, SoundLists, Ordered, Sound, Wiped, SameCells, KeepsWorn}
use Rattle.lists.specs.Decide.{view_of}
use Rattle.lists.proofs.Agree.{agrees-holds, holds-agrees}
use Rattle.lists.proofs.Unique.{member-ident}

-- addresses as words of a cell
pub ident-word : (l : Layout) (i : ℕ) → ident_at l i ≡ cell_at l i + 0
ident-word l i = sym (add-zero (cell_at l i))

pub count-word : (l : Layout) (k : ℕ) → k < l.lists → count_at l k ≡ cell_at l k + count_word
count-word l k h = ap (λ (a : ℕ). a + count_word) (sym (cell-header l k h))

-- cells with the same words have the same identifiers; so a worn node that is kept is worn
pub same-ident : (l : Layout) (w w' cells : List ℕ) → SameCells l w w' cells → (x : ℕ) → x ∈ cells → get_or w' (ident_at l x) 0 ≡ get_or w (ident_at l x) 0
same-ident l w w' cells q x m =
    ap (λ (a : ℕ). get_or w' a 0) (ident-word l x) ∙ q x 0 m (links-words l x 0 (omega arith)) ∙ ap (λ (a : ℕ). get_or w a 0) (sym (ident-word l x))

pub kept-worn : (l : Layout) (w w' : List ℕ) → KeepsWorn l w w' → (c : ℕ) → Node l c → get_or w (ident_at l c) 0 ≡ worn_ident
    → get_or w' (ident_at l c) 0 ≡ worn_ident
kept-worn l w w' h c n z = same-ident l w w' (c ∷ []) (h c n z) c (Memᴰ.head refl) ∙ z

-- a list's header is none of its nodes
pub header-apart : (l : Layout) (k : ℕ) (s : List ℕ) → k < l.lists → All (Node l) s → k ∈ s → ⊥
header-apart l k s h n m = omega (arith, (all_in (Node l) s n m).low)

module _ (l : Layout) (w : List ℕ) (k : ℕ) (h : k < l.lists) (s : List ℕ) (i : IsList l w k s) where
  -- header and members are different cells, in front or behind
  pub ring-different : Different (k ∷ s)
  ring-different = (header-apart l k s h i.nodes, i.different)

  pub ring-different-behind : Different (s ++ k ∷ [])
  ring-different-behind =
      different-append s (k ∷ []) i.different ((λ m. elim m [ ]), tt)
      (λ x m m'. header-apart l k s h i.nodes (subst (λ (y : ℕ). y ∈ s) (one x m') m))
    where
      one : (x : ℕ) → x ∈ (k ∷ []) → x ≡ k
      one x (Memᴰ.head e) = e
      one x (Memᴰ.tail m) = absurd (elim m [ ])

  -- a cell of the list is a cell of the store
  pub ring-cell : (x : ℕ) → x ∈ (k ∷ s) → x < cell_count l
  ring-cell x (Memᴰ.head e) = omega arith
  ring-cell x (Memᴰ.tail m) = (all_in (Node l) s i.nodes m).high

  -- words that are the same in all its cells hold the same list
  pub list_same : (w' : List ℕ) → SameCells l w w' (k ∷ s) → IsList l w' k s
  list_same w' q =
      let a = agrees-holds l w k s i.agrees in
      record {
        nodes = i.nodes;
        different = i.different;
        agrees =
            holds-agrees l w' k s (record {
              ident = ident k (Memᴰ.head refl) ∙ a.ident;
              turn =
                  record {
                    idents =
                        in_all (λ c. get_or w' (ident_at l c) 0 ≡ ident_of k) s
                        (λ x m. ident x (Memᴰ.tail m) ∙ all_in (λ c. get_or w (ident_at l c) 0 ≡ ident_of k) s a.turn.idents m);
                    forwards =
                        forward-same (view_of l w).forward (view_of l w').forward k s k
                        (λ y m. q y forward_word m (links-words l y forward_word (omega arith))) a.turn.forwards;
                    backs =
                        backward-same (view_of l w).back (view_of l w').back k s k
                        (λ y m. q y back_word (in-front k s m) (links-words l y back_word (omega arith))) a.turn.backs;
                  };
              count =
                  ap (λ (n : ℕ). get_or w' n 0) (count-word l k h)
                  ∙ q k count_word (Memᴰ.head refl) (omega (arith, words-header l k h))
                  ∙ ap (λ (n : ℕ). get_or w n 0) (sym (count-word l k h))
                  ∙ a.count;
            });
      }
    where
      ident : (x : ℕ) → x ∈ (k ∷ s) → get_or w' (ident_at l x) 0 ≡ get_or w (ident_at l x) 0
      ident = same-ident l w w' (k ∷ s) q

-- cells of two lists are different cells
pub lists-apart
    : (l : Layout) (w : List ℕ) (j k : ℕ) (s t : List ℕ) → j < l.lists → k < l.lists → (j ≡ k → ⊥) → IsList l w j s → IsList l w k t
    → (x y : ℕ) → x ∈ (j ∷ s) → y ∈ (k ∷ t) → x ≡ y → ⊥
lists-apart l w j k s t hj hk n i i' x y (Memᴰ.head e) (Memᴰ.head e') q = n (sym e ∙ q ∙ e')
lists-apart l w j k s t hj hk n i i' x y (Memᴰ.head e) (Memᴰ.tail m) q =
    omega (arith, (all_in (Node l) t i'.nodes m).low)
lists-apart l w j k s t hj hk n i i' x y (Memᴰ.tail m) (Memᴰ.head e) q =
    omega (arith, (all_in (Node l) s i.nodes m).low)
lists-apart l w j k s t hj hk n i i' x y (Memᴰ.tail m) (Memᴰ.tail m') q =
    let e : ident_of j ≡ ident_of k =
    sym (member-ident l w j s x i m) ∙ ap (λ (c : ℕ). get_or w (ident_at l c) 0) q ∙ member-ident l w k t y i' m' in
    n (omega arith)

-- words that have the same first eight have the same mark and layout
pub same-marked : (w w' : List ℕ) → ((a : ℕ) → a < head_words → get_or w' a 0 ≡ get_or w a 0) → marked w' ≡ marked w
unfolding marked
same-marked w w' h =
    rw (h 0 (omega arith), h 1 (omega arith), h 2 (omega arith), h 3 (omega arith), h 7 (omega arith))

pub same_layout : (w w' : List ℕ) → ((a : ℕ) → a < head_words → get_or w' a 0 ≡ get_or w a 0) → layout_of w' ≡ layout_of w
same_layout w w' h =
    λ i.
    record { version = h 3 (omega arith) i; lists = h 4 (omega arith) i; nodes = h 5 (omega arith) i; width = h 6 (omega arith) i }

-- and, if they are as many, are opened alike
pub same-opened : (w w' : List ℕ) → ((a : ℕ) → a < head_words → get_or w' a 0 ≡ get_or w a 0) → length w' ≡ length w → opened w' ≡ opened w
unfolding opened_by
same-opened w w' h e = rw (same-marked w w' h, same_layout w w' h, e)

-- ordered words, other words with the same first eight and the same length, and sound lists there: these are ordered too
pub same-ordered
    : (w w' : List ℕ) → Ordered w → ((a : ℕ) → a < head_words → get_or w' a 0 ≡ get_or w a 0) → length w' ≡ length w
    → (x : SoundLists (layout_of w) w') → (y : Ordered w') × (y.lists.sequence ≡ x.sequence)
same-ordered w w' s h e x = (
  record {
    marked = same-marked w w' h ∙ s.marked;
    in_range = subst InRange back s.in_range;
    exact = e ∙ s.exact ∙ ap size_of back;
    lists =
        record {
          sequence = x.sequence;
          lists = λ k g. subst (λ (m : Layout). IsList m w' k (x.sequence k)) back (x.lists k (subst⁻¹ (λ (m : Layout). k < m.lists) back g));
          outside =
              λ i n q.
              subst (λ (m : Layout). Unlisted (get_or w' (ident_at m i) 0)) back
              (x.outside i (subst⁻¹ (λ (m : Layout). Node m i) back n) (λ k g. q k (subst (λ (m : Layout). k < m.lists) back g)));
        };
  },
  refl,
)
  where
    back : layout_of w ≡ layout_of w'
    back = sym (same_layout w w' h)

-- and sound too, if the records of nodes in none of these lists are wiped
pub same-sound
    : (w w' : List ℕ) → Ordered w → ((a : ℕ) → a < head_words → get_or w' a 0 ≡ get_or w a 0) → length w' ≡ length w
    → (x : SoundLists (layout_of w) w') → Wiped (layout_of w) w' x.sequence → (y : Sound w') × (y.ordered.lists.sequence ≡ x.sequence)
same-sound w w' s h e x wiped =
    let y = same-ordered w w' s h e x in (
      record {
        ordered = y.0;
        wiped =
            subst (λ (m : Layout). Wiped m w' y.0.lists.sequence) (sym (same_layout w w' h))
            (subst (Wiped (layout_of w) w') (sym y.1) wiped);
      },
      y.1,
    )
