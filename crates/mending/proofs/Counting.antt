-- Stores counted one by one, none made: those that are left where a pass over the nodes stands, and that they are few.
use Prim.Native.Nat.{ℕ, zero, suc, ◌+◌, ◌*◌, ◌-◌, ◌<◌, ◌≤◌}
use mathlib.Core.Path.{◌≡◌, refl, ap, ◌∙◌, sym}
use mathlib.Core.List.{List, []}
use mathlib.Core.Bool.{Bool, true, false, true≢false, not, cond, ◌||◌}
use native.Mathlib.Omega.{arith}
use native.Mathlib.Numerals.{add-one}
use lib.ListN.{length, get_or, replicate, length-append, length-replicate}
use borrow.Author.Tests.{eqb-true}
use Rattle.stores.specs.Stores.{in_row}
use Rattle.stores.proofs.Laws.{length-row}
use Rattle.layout.specs.declared.Layout.{Layout}
use Rattle.layout.specs.Words.{most_width, tail_words, first_node, cell_count, record_at, InRange, is_free, is_worn, in_use}
use Rattle.lists.specs.Lists.{blank_asked}
use Rattle.lists.specs.Decide.{view_of}
use Rattle.recovery.specs.Fits.{wrong}
use Rattle.recovery.proofs.Required.{wrong-most}
use Rattle.mending.specs.Mending.{wipes_of, wipes_from, wipes, outside_of, outside_from}
use Rattle.mending.proofs.Wiping.{wipes-next, wipes-none}

-- of the n words from a on, at most n are not 0
pub row-few : (w : List ℕ) (a n : ℕ) → length (wrong w (in_row a (replicate n 0))) ≤ n
row-few w a n = omega (arith, wrong-most w (in_row a (replicate n 0)), length-row a (replicate n 0), length-replicate {A = ℕ} n 0)

module _ (l : Layout) (w : List ℕ) where
  -- the wipes of the free nodes from c on
  abbrev pub wipes_left : ℕ → ℕ
  wipes_left c = length (wipes_from l w c (cell_count l - c))

  pub left-all : wipes_left (first_node l) ≡ length (wipes l w)
  left-all = let e : cell_count l - first_node l ≡ l.nodes = omega arith in ap (λ (n : ℕ). length (wipes_from l w (first_node l) n)) e

  pub left-next : (c : ℕ) → c < cell_count l → wipes_left c ≡ length (wipes_of l w c) + wipes_left (c + 1)
  left-next c h =
      let e : cell_count l - c ≡ suc (cell_count l - (c + 1)) = omega arith in
      ap (λ (n : ℕ). length (wipes_from l w c n)) e
      ∙ ap length (wipes-next l w c (cell_count l - (c + 1)))
      ∙ length-append (wipes_of l w c) (wipes_from l w (suc c) (cell_count l - (c + 1)))
      ∙ ap (λ (a : ℕ). length (wipes_of l w c) + length (wipes_from l w a (cell_count l - (c + 1)))) (sym (add-one c))

  pub left-none : (c : ℕ) → cell_count l ≤ c → wipes_left c ≡ 0
  left-none c h =
      let e : cell_count l - c ≡ 0 = omega arith in
      ap (λ (n : ℕ). length (wipes_from l w c n)) e ∙ ap length (wipes-none l w c)

  -- the stores to a node whose entry says free, in use, or neither
  pub entry_free : (e c : ℕ) → is_free e ≡ true → outside_of l w e c ≡ length (wrong w (blank_asked l c))
  entry_free e c q = omega (arith, ap (λ (x : ℕ). outside_of l w x c) (eqb-true e 0 q))

  pub entry-used : (e c : ℕ) → in_use e ≡ true → outside_of l w e c ≡ 1 + length (wrong w (blank_asked l c))
  entry-used e c q = by (is_free e) (is_worn e) q
    where
      by : (f d : Bool) → not (f || d) ≡ true
          → cond d 0 (cond (not (f || d)) 1 0 + length (wrong w (blank_asked l c))) ≡ 1 + length (wrong w (blank_asked l c))
      by true d q = absurd (true≢false (sym q))
      by false true q = absurd (true≢false (sym q))
      by false false q = refl

  pub entry-neither : (e c : ℕ) → is_free e ≡ false → in_use e ≡ false → outside_of l w e c ≡ 0
  entry-neither e c p q = by (is_free e) (is_worn e) p q
    where
      by : (f d : Bool) → f ≡ false → not (f || d) ≡ false → cond d 0 (cond (not (f || d)) 1 0 + length (wrong w (blank_asked l c))) ≡ 0
      by true d p q = absurd (true≢false p)
      by false true p q = refl
      by false false p q = absurd (true≢false q)

  -- the stores to the nodes from c on, by the column
  module _ (idents : List ℕ) where
    abbrev pub outside_left : ℕ → ℕ
    outside_left c = outside_from l w idents c (cell_count l - c)

    pub outside-all : outside_left (first_node l) ≡ outside_from l w idents (first_node l) l.nodes
    outside-all = let e : cell_count l - first_node l ≡ l.nodes = omega arith in ap (outside_from l w idents (first_node l)) e

    pub outside-next : (c : ℕ) → c < cell_count l → outside_left c ≡ outside_of l w (get_or idents c 0) c + outside_left (c + 1)
    unfolding outside_from
    outside-next c h = let e : cell_count l - c ≡ suc (cell_count l - (c + 1)) = omega arith in rw (e, outside_from, add-one c)

    pub outside-none : (c : ℕ) → cell_count l ≤ c → outside_left c ≡ 0
    unfolding outside_from
    outside-none c h = let e : cell_count l - c ≡ 0 = omega arith in rw e

  -- a node has at most as many wipes as the longest record has words, and one clear
  module _ (r : InRange l) where
    pub blank-few : (c : ℕ) → length (wrong w (blank_asked l c)) ≤ most_width
    blank-few c = omega (arith, row-few w (record_at l c) (tail_words l), r.tail)

    pub wipes-few : (a n : ℕ) → length (wipes_from l w a n) ≤ most_width * n
    wipes-few a zero = omega (arith, ap length (wipes-none l w a))
    wipes-few a (suc n) =
        omega (
          arith,
          ap length (wipes-next l w a n),
          length-append (wipes_of l w a) (wipes_from l w (suc a) n),
          by (is_free ((view_of l w).ident a)),
          wipes-few (suc a) n,
        )
      where
        by : (b : Bool) → length (cond b (wrong w (blank_asked l a)) []) ≤ most_width
        by true = blank-few a
        by false = omega arith

    pub outside-few : (idents : List ℕ) (a n : ℕ) → outside_from l w idents a n ≤ (1 + most_width) * n
    unfolding outside_from
    outside-few idents a zero = omega arith
    outside-few idents a (suc n) = omega (arith, by (is_worn (get_or idents a 0)) (in_use (get_or idents a 0)), outside-few idents (suc a) n)
      where
        by : (b d : Bool) → cond b 0 (cond d 1 0 + length (wrong w (blank_asked l a))) ≤ 1 + most_width
        by true d = omega arith
        by false true = omega (arith, blank-few a)
        by false false = omega (arith, blank-few a)
