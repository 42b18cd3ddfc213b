-- Where the words of nodes stand: computed by a product, or one after another.
use Prim.Native.Nat.{ℕ, suc, ◌+◌, ◌*◌, ◌-◌, ◌≤◌, ◌<◌}
use mathlib.Core.Path.{◌≡◌, ap}
use mathlib.Core.List.{List}
use native.Mathlib.Omega.{arith}
use native.Mathlib.Nat.{mul-le-mul, mul-le-mul_left, mul-add, mul-suc}
use lib.ListN.{length}
use Rattle.layout.specs.declared.Layout.{Layout}
use Rattle.layout.specs.Words.{most_width, most_cells, header_words, link_words, first_node, cell_count, Node, tail_words, node_words, nodes_at, header_at, node_at, cell_at, record_at, InRange, Laid}
use Rattle.layout.proofs.Laws.{cell-node, node-fits, cell-fits, header-fits, size_small}

module _ (l : Layout) where
  -- the products are small
  pub product_small : InRange l → (y : ℕ) → y ≤ most_cells → node_words l * y ≤ (link_words + most_width) * most_cells
  product_small r y h = let a : node_words l ≤ link_words + most_width = omega arith in mul-le-mul a h

  -- the words of y nodes are those of the nodes before node y, and of as many as there are headers
  product-parts : (y : ℕ) → first_node l ≤ y → node_words l * y ≡ node_words l * first_node l + node_words l * (y - first_node l)
  product-parts y h =
      let e : y ≡ first_node l + (y - first_node l) = omega arith in
      omega (arith, ap (λ (n : ℕ). node_words l * n) e, mul-add (node_words l) (first_node l) (y - first_node l))

  pub place-low : (y : ℕ) → first_node l ≤ y → node_words l * first_node l ≤ node_words l * y
  place-low y h = mul-le-mul_left (node_words l) h

  pub place_at : (y : ℕ) → first_node l ≤ y → node_words l * y + nodes_at l - node_words l * first_node l ≡ cell_at l y
  unfolding node_at
  place_at y h = omega (arith, product-parts y h, cell-node l y h)

  -- the first node, and the one behind i others
  pub first-place : nodes_at l ≡ cell_at l (first_node l + 0)
  unfolding node_at
  first-place =
      let z : first_node l + 0 - first_node l ≡ 0 = omega arith in
      omega (arith, cell-node l (first_node l + 0) (omega arith), ap (λ (n : ℕ). node_words l * n) z)

  pub next_place : (i : ℕ) → cell_at l (first_node l + i) + node_words l ≡ cell_at l (first_node l + (i + 1))
  unfolding node_at
  next_place i =
      let d : first_node l + i - first_node l ≡ i = omega arith in
      let e : first_node l + (i + 1) - first_node l ≡ suc i = omega arith in
      omega (
        arith,
        cell-node l (first_node l + i) (omega arith),
        cell-node l (first_node l + (i + 1)) (omega arith),
        ap (λ (n : ℕ). node_words l * n) d,
        ap (λ (n : ℕ). node_words l * n) e,
        mul-suc (node_words l) i,
      )

-- the words of a cell stand within the store, whose words are few
module _ {l : Layout} {w : List ℕ} (h : Laid l w) where
  pub in_words : (y : ℕ) → y < cell_count l → cell_at l y + link_words ≤ length w
  in_words y q = omega (arith, h.exact, cell-fits l y h.in_range q)

  -- and so do those of a node's tail
  pub tail-words : (y : ℕ) → Node l y → (cell_at l y + link_words ≡ record_at l y) × (record_at l y + tail_words l ≤ length w)
  tail-words y n =
      let e = cell-node l y n.low in
      (omega (arith, e), omega (arith, e, h.exact, node-fits l y n))

  pub head-words : (k : ℕ) → k < l.lists → header_at l k + header_words ≤ length w
  head-words k q = omega (arith, h.exact, header-fits l k q)

  pub words-few : length w ≤ 65536
  words-few = omega (arith, h.exact, size_small l h.in_range)
