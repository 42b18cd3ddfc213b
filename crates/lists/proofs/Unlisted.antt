-- A node in no list is given another identifier that says so: all lists stay as they were, and the records of the other nodes.
use Prim.Native.Nat.{ℕ, ◌+◌, ◌<◌}
use mathlib.Core.Path.{◌≡◌, ap, ◌∙◌, sym, subst}
use mathlib.Core.List.Memᴰ
use mathlib.Core.List.{List, ◌∷◌}
use native.Mathlib.Decide.{ℕ_discrete}
use native.Mathlib.Omega.{arith}
use lib.ListN.{length, get_or, set, length-set}
use lib.Seq.{get_or-set_same, get_or-set_other}
use Rattle.sequences.specs.Sequence.{◌∈◌}
use Rattle.layout.specs.declared.Layout.{Layout}
use Rattle.layout.specs.Words.{head_words, link_words, Node, cell_at, cell_words, ident_at, record_at, worn_ident, Unlisted, layout_of}
use Rattle.layout.proofs.Apart.{cells-apart, words-apart, links-words, tail-word, word_fits, cell-behind}
use Rattle.lists.specs.Lists.{SoundLists, Ordered, Blank, Wiped, SameCells}
use Rattle.lists.proofs.Same.{ident-word, list_same, same_layout, same-ordered}

module _ (w : List ℕ) (s : Ordered w) (c : ℕ) (node : Node (layout_of w) c) (out : (k : ℕ) → k < (layout_of w).lists → c ∈ s.lists.sequence k → ⊥)
    (v : ℕ) where
  abbrev l : Layout
  l = layout_of w

  abbrev pub Given : List ℕ
  Given = set w (ident_at l c) v

  inside : ident_at l c < length w
  inside = omega (arith, s.exact, ident-word l c, word_fits l c 0 node.high (links-words l c 0 (omega arith)))

  pub given-ident : get_or Given (ident_at l c) 0 ≡ v
  given-ident = get_or-set_same w (ident_at l c) v 0 inside

  -- a word of another cell
  kept : (x g : ℕ) → (x ≡ c → ⊥) → g < cell_words l x → get_or Given (cell_at l x + g) 0 ≡ get_or w (cell_at l x + g) 0
  kept x g n h =
      get_or-set_other w (ident_at l c) (cell_at l x + g) v 0
      (λ e. cells-apart l x c g 0 n h (links-words l c 0 (omega arith)) (e ∙ ident-word l c))

  apart : (k : ℕ) → k < l.lists → (x : ℕ) → x ∈ (k ∷ s.lists.sequence k) → x ≡ c → ⊥
  apart k h x (Memᴰ.head e) q = omega (arith, node.low)
  apart k h x (Memᴰ.tail m) q = out k h (subst (λ (y : ℕ). y ∈ s.lists.sequence k) q m)

  pub given-list : (k : ℕ) → k < l.lists → SameCells l w Given (k ∷ s.lists.sequence k)
  given-list k h x g m i = kept x g (apart k h x m) i

  head : (a : ℕ) → a < head_words → get_or Given a 0 ≡ get_or w a 0
  head a h = get_or-set_other w (ident_at l c) a v 0 (λ e. omega (arith, cell-behind l c, e))

  pub given-layout : layout_of Given ≡ l
  given-layout = same_layout w Given head

  module _ (u : Unlisted v) where
    given-lists : SoundLists l Given
    given-lists =
        record {
          sequence = s.lists.sequence;
          lists = λ k h. list_same l w k h (s.lists.sequence k) (s.lists.lists k h) Given (given-list k h);
          outside = λ i n o. by i n o (ℕ_discrete i c);
        }
      where
        by : (i : ℕ) → Node l i → ((k : ℕ) → k < l.lists → i ∈ s.lists.sequence k → ⊥) → Dec (i ≡ c) → Unlisted (get_or Given (ident_at l i) 0)
        by i n o (yes e) = subst Unlisted (sym (ap (λ (j : ℕ). get_or Given (ident_at l j) 0) e ∙ given-ident)) u
        by i n o (no q) =
            subst Unlisted
            (sym (ap (λ (a : ℕ). get_or Given a 0) (ident-word l i) ∙ kept i 0 q (links-words l i 0 (omega arith))
            ∙ ap (λ (a : ℕ). get_or w a 0) (sym (ident-word l i))))
            (s.lists.outside i n o)

    pub given-ordered : (s' : Ordered Given) × (s'.lists.sequence ≡ s.lists.sequence)
    unfolding given-lists
    given-ordered = same-ordered w Given s head (length-set w (ident_at l c) v) given-lists

  -- and the records of the others stay blank, so all are where this one is worn or was blank
  pub given-wiped : Wiped l w s.lists.sequence → ((v ≡ worn_ident → ⊥) → Blank l w c) → Wiped l Given s.lists.sequence
  given-wiped h b i n o z f g = by (ℕ_discrete i c)
    where
      word : (record_at l i + f ≡ cell_at l i + (link_words + f)) × (link_words + f < cell_words l i)
      word = tail-word l i f n.low g

      same : get_or Given (record_at l i + f) 0 ≡ get_or w (record_at l i + f) 0
      same =
          get_or-set_other w (ident_at l c) (record_at l i + f) v 0
          (λ e. words-apart l i c (link_words + f) 0 (λ _ q. omega arith) word.1 (links-words l c 0 (omega arith)) (sym word.0 ∙ e ∙ ident-word l c))

      ident : (x : ℕ) → (x ≡ c → ⊥) → get_or Given (ident_at l x) 0 ≡ get_or w (ident_at l x) 0
      ident x q =
          ap (λ (a : ℕ). get_or Given a 0) (ident-word l x) ∙ kept x 0 q (links-words l x 0 (omega arith)) ∙ ap (λ (a : ℕ). get_or w a 0) (sym (ident-word l x))

      by : Dec (i ≡ c) → get_or Given (record_at l i + f) 0 ≡ 0
      by (yes e) =
          same
          ∙ subst (λ (j : ℕ). get_or w (record_at l j + f) 0 ≡ 0) (sym e)
          (b (λ q. z (ap (λ (j : ℕ). get_or Given (ident_at l j) 0) e ∙ given-ident ∙ q)) f g)
      by (no q) =
          same
          ∙ h i n o (λ y. z (ident i q ∙ y)) f g
