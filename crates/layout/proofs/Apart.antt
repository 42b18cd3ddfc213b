-- Cells stand behind one another in the words, so no word belongs to two.
use Prim.Native.Nat.{ℕ, suc, ◌+◌, ◌-◌, ◌≤◌, ◌<◌}
use mathlib.Core.Path.{◌≡◌, refl, ap}
use mathlib.Core.Bool.{Bool, true, false}
use native.Mathlib.Decide.{ℕ_discrete}
use native.Mathlib.Omega.{arith}
use native.Mathlib.Nat.{mul-le-mul_left, mul-suc}
use lib.Dec.{ltb}
use borrow.Author.Tests.{lt-ltb, le-ltb, ltb-true, ltb-false}
use Rattle.layout.specs.declared.Layout.{Layout}
use Rattle.layout.specs.Words.{head_words, header_words, link_words, header_at, first_node, cell_count, tail_words, node_words, node_at, cell_at, cell_words, record_at, size_of}
use Rattle.layout.proofs.Laws.{cell-header, cell-node, header-fits, node-fits}

pub words-header : (l : Layout) (k : ℕ) → k < l.lists → cell_words l k ≡ header_words
unfolding cell_words
words-header l k h = rw (lt-ltb k (first_node l) h)

pub words-node : (l : Layout) (i : ℕ) → first_node l ≤ i → cell_words l i ≡ node_words l
unfolding cell_words
words-node l i h = rw (le-ltb i (first_node l) h)

-- nodes, and the first of them, behind the headers
node-order : (l : Layout) (i j : ℕ) → first_node l ≤ i → i < j → node_at l i + node_words l ≤ node_at l j
unfolding node_at
node-order l i j h k =
    let e : suc (i - first_node l) ≤ j - first_node l = omega arith in
    omega (arith, mul-le-mul_left (node_words l) e, mul-suc (node_words l) (i - first_node l))

header-order : (l : Layout) (i j : ℕ) → i < first_node l → first_node l ≤ j → header_at l i + header_words ≤ node_at l j
unfolding node_at
header-order l i j h k = omega arith

-- a cell ends before the next begins
pub cell-order : (l : Layout) (i j : ℕ) → i < j → cell_at l i + cell_words l i ≤ cell_at l j
cell-order l i j h = by (ltb i (first_node l)) refl (ltb j (first_node l)) refl
  where
    by : (a : Bool) → ltb i (first_node l) ≡ a → (b : Bool) → ltb j (first_node l) ≡ b → cell_at l i + cell_words l i ≤ cell_at l j
    by true p true q =
        let m = ltb-true i (first_node l) p in
        let n = ltb-true j (first_node l) q in
        omega (arith, cell-header l i m, words-header l i m, cell-header l j n)
    by true p false q =
        let m = ltb-true i (first_node l) p in
        let n = ltb-false j (first_node l) q in
        omega (arith, cell-header l i m, words-header l i m, cell-node l j n, header-order l i j m n)
    by false p true q =
        absurd (omega (arith, ltb-false i (first_node l) p, ltb-true j (first_node l) q))
    by false p false q =
        let m = ltb-false i (first_node l) p in
        let n = ltb-false j (first_node l) q in
        omega (arith, cell-node l i m, words-node l i m, cell-node l j n, node-order l i j m h)

-- words of two cells are different words
pub cells-apart
    : (l : Layout) (i j f g : ℕ) → (i ≡ j → ⊥) → f < cell_words l i → g < cell_words l j → cell_at l i + f ≡ cell_at l j + g → ⊥
cells-apart l i j f g n hf hg e = by (ltb i j) refl
  where
    by : (b : Bool) → ltb i j ≡ b → ⊥
    by true q = omega (arith, cell-order l i j (ltb-true i j q))
    by false q =
        let k : j < i = omega (arith, ltb-false i j q) in
        omega (arith, cell-order l j i k)

-- and so are two words of one cell
pub words-apart
    : (l : Layout) (i j f g : ℕ) → (i ≡ j → f ≡ g → ⊥) → f < cell_words l i → g < cell_words l j → cell_at l i + f ≡ cell_at l j + g → ⊥
words-apart l i j f g n hf hg e = by (ℕ_discrete i j)
  where
    by : Dec (i ≡ j) → ⊥
    by (yes q) = n q (omega (arith, ap (cell_at l) q))
    by (no q) = cells-apart l i j f g q hf hg e

-- a cell has its links, and lies within the store
pub links-words : (l : Layout) (i f : ℕ) → f < link_words → f < cell_words l i
links-words l i f h = by (ltb i (first_node l)) refl
  where
    by : (b : Bool) → ltb i (first_node l) ≡ b → f < cell_words l i
    by true q = omega (arith, words-header l i (ltb-true i (first_node l) q))
    by false q = omega (arith, words-node l i (ltb-false i (first_node l) q))

-- a word of a node's tail, as a word of the node
pub tail-word : (l : Layout) (i f : ℕ) → first_node l ≤ i → f < tail_words l
    → (record_at l i + f ≡ cell_at l i + (link_words + f)) × (link_words + f < cell_words l i)
tail-word l i f h g = (omega (arith, cell-node l i h), omega (arith, words-node l i h))

pub word_fits : (l : Layout) (i f : ℕ) → i < cell_count l → f < cell_words l i → cell_at l i + f < size_of l
word_fits l i f h k = by (ltb i (first_node l)) refl
  where
    by : (b : Bool) → ltb i (first_node l) ≡ b → cell_at l i + f < size_of l
    by true q =
        let m = ltb-true i (first_node l) q in
        omega (arith, words-header l i m, cell-header l i m, header-fits l i m)
    by false q =
        let m = ltb-false i (first_node l) q in
        omega (arith, words-node l i m, cell-node l i m, node-fits l i (record { low = m; high = h }))

-- the cells stand behind words 0 to 7
pub cell-behind : (l : Layout) (i : ℕ) → head_words ≤ cell_at l i
unfolding node_at
cell-behind l i = by (ltb i (first_node l)) refl
  where
    by : (b : Bool) → ltb i (first_node l) ≡ b → head_words ≤ cell_at l i
    by true q = omega (arith, cell-header l i (ltb-true i (first_node l) q))
    by false q = omega (arith, cell-node l i (ltb-false i (first_node l) q))
