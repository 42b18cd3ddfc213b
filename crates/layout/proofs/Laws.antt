-- Laws of the words of a store: where its cells stand, what its questions tell, and what a formatted store holds.
use Prim.Native.Nat.{ℕ, zero, suc, ◌+◌, ◌*◌, ◌-◌, ◌≤◌, ◌<◌}
use mathlib.Core.Path.{◌≡◌, refl, sym, ap, ◌∙◌}
use mathlib.Core.List.{List, ◌++◌}
use mathlib.Core.Bool.{Bool, true, false, cond, ◌&&◌, and-eq-true_iff}
use native.Mathlib.Omega.{arith}
use native.Mathlib.Nat.{mul-le-mul, mul-le-mul_left, mul-suc}
use lib.Dec.{eqb, leb, ltb}
use lib.ListN.{length, get_or, replicate, length-append, length-replicate, get_or-append}
use lib.Seq.{get_or-append-add}
use borrow.Author.Tests.{lt-ltb, le-ltb, le-leb, eq-eqb, ltb-true, ltb-false, leb-true, eqb-true}
use Rattle.layout.specs.declared.Layout.{Layout}
use Rattle.std.specs.Prelude.{Result, Ok, Err}
use Rattle.layout.specs.declared.Refusal.{Refusal}
use Rattle.layout.specs.Words.{newest, most_lists, most_nodes, most_width, head_words, header_words, link_words, header_at, first_node, cell_count, Node, is_node, check_words, tail_words, node_words, nodes_at, node_at, cell_at, size_of, marked, layout_of, InRange, between, in_range, opened_by, opened, head, empty_header, empty_headers, formatted}

-- a test b that a call answered by r, where the code asked `!r`: it held, or it did not
pub answered-no : {r b : Bool} → r ≡ b → r ≡ false → b ≡ false
answered-no e h = sym e ∙ h

pub answered-yes : {r b : Bool} → r ≡ b → r ≡ true → b ≡ true
answered-yes e h = sym e ∙ h

-- a record is all that version 1 has behind a node's links
pub tail-width : (l : Layout) → tail_words l ≡ l.width
unfolding check_words
tail-width l = omega arith

-- the words of n nodes are far fewer than a `usize` can count
pub product-fits : (l : Layout) (n : ℕ) → l.width < 65536 → n < 65536 → node_words l * n ≤ (link_words + 65535) * 65535
product-fits l n hp hn =
    let a : node_words l ≤ link_words + 65535 = omega (arith, tail-width l) in
    let b : n ≤ 65535 = omega arith in
    mul-le-mul a b

-- the cell of list k is its header
pub cell-header : (l : Layout) (k : ℕ) → k < l.lists → cell_at l k ≡ header_at l k
unfolding cell_at
cell-header l k h = rw (lt-ltb k (first_node l) h)

-- any other cell is a node
pub cell-node : (l : Layout) (i : ℕ) → first_node l ≤ i → cell_at l i ≡ node_at l i
unfolding cell_at
cell-node l i h = rw (le-ltb i (first_node l) h)

-- a node ends within the store
pub node-fits : (l : Layout) (i : ℕ) → Node l i → node_at l i + node_words l ≤ size_of l
unfolding node_at size_of
node-fits l i n =
    let h : suc (i - first_node l) ≤ l.nodes = omega arith in
    omega (arith, mul-le-mul_left (node_words l) h, mul-suc (node_words l) (i - first_node l))

-- a header ends within the store
pub header-fits : (l : Layout) (k : ℕ) → k < l.lists → header_at l k + header_words ≤ size_of l
unfolding size_of
header-fits l k h = omega arith

-- "at most 32,040"
pub size-most : (l : Layout) → InRange l → size_of l ≤ 32040
unfolding size_of
size-most l r =
    let a : node_words l ≤ link_words + most_width = omega arith in
    let b : l.nodes ≤ most_nodes = r.nodes in
    omega (arith, mul-le-mul a b)

-- so a word's number fits a `u16`
pub size_small : (l : Layout) → InRange l → size_of l ≤ 65536
size_small l r = omega (arith, size-most l r)

-- the first three words of a cell stand within the store
pub cell-fits : (l : Layout) (i : ℕ) → InRange l → i < cell_count l → cell_at l i + link_words ≤ size_of l
cell-fits l i r h = split (ltb i (first_node l)) refl
  where
    split : (b : Bool) → ltb i (first_node l) ≡ b → cell_at l i + link_words ≤ size_of l
    split true e =
        let k : i < first_node l = ltb-true i (first_node l) e in
        omega (arith, cell-header l i k, header-fits l i k)
    split false e =
        let n : Node l i = record { low = ltb-false i (first_node l) e; high = h } in
        omega (arith, cell-node l i n.low, node-fits l i n)

-- the test for a node, and what it says
pub is-node : (l : Layout) (i : ℕ) → is_node l i ≡ true → Node l i
unfolding is_node
is-node l i e =
    let b = (and-eq-true_iff (leb (first_node l) i) (ltb i (cell_count l))).0 e in
    record { low = leb-true _ _ b.0; high = ltb-true _ _ b.1 }

pub node-is : (l : Layout) (i : ℕ) → Node l i → is_node l i ≡ true
unfolding is_node
node-is l i n = rw (le-leb (first_node l) i n.low, lt-ltb i (cell_count l) n.high)

-- the test for the range of L, N and P, and what it says
is-between : (a b x : ℕ) → between a b x ≡ true → (a ≤ x) × (x ≤ b)
is-between a b x e =
    let t = (and-eq-true_iff (leb a x) (leb x b)).0 e in
    (leb-true a x t.0, leb-true x b t.1)

between_is : (a b x : ℕ) → a ≤ x → x ≤ b → between a b x ≡ true
between_is a b x h k = rw (le-leb a x h, le-leb x b k)

pub in-range : (l : Layout) → in_range l ≡ true → InRange l
unfolding in_range
in-range l e =
    let s = (and-eq-true_iff (between 1 newest l.version) _).0 e in
    let t = (and-eq-true_iff (between 1 most_lists l.lists) (between 1 most_nodes l.nodes && between 1 most_width l.width)).0 s.1 in
    let u = (and-eq-true_iff (between 1 most_nodes l.nodes) (between 1 most_width l.width)).0 t.1 in
    let v = is-between 1 newest l.version s.0 in
    let a = is-between 1 most_lists l.lists t.0 in
    let b = is-between 1 most_nodes l.nodes u.0 in
    let c = is-between 1 most_width l.width u.1 in
    record {
      some_version = v.0;
      version = v.1;
      some_lists = a.0;
      lists = a.1;
      some_nodes = b.0;
      nodes = b.1;
      some_width = c.0;
      tail = omega (arith, tail-width l);
    }

pub range-in : (l : Layout) → InRange l → in_range l ≡ true
unfolding in_range
range-in l r =
    rw (
      between_is 1 newest l.version r.some_version r.version,
      between_is 1 most_lists l.lists r.some_lists r.lists,
      between_is 1 most_nodes l.nodes r.some_nodes r.nodes,
      between_is 1 most_width l.width r.some_width (omega arith),
    )

-- a question that did not refuse was answered yes
granted : (b : Bool) (k : Refusal) (o : Result Layout Refusal) (l : Layout) → cond b o (Err k) ≡ Ok l → (b ≡ true) × (o ≡ Ok l)
granted true k o l h = (refl, h)
granted false k o l h = let z : ◌≡◌ {A = ℕ} 0 1 = cc in absurd (omega arith)

-- an opened store has a mark, L, N and P in range and the exact length, and its layout is that of its words
pub opened-open : (w : List ℕ) (l : Layout) → opened w ≡ Ok l → (l ≡ layout_of w) × (marked w ≡ true) × (InRange l) × (length w ≡ size_of l)
unfolding opened_by
opened-open w l h =
    let a = granted (leb head_words (length w)) _ _ l h in
    let b = granted (marked w) _ _ l a.1 in
    let c = granted (in_range (layout_of w)) _ _ l b.1 in
    let d = granted (eqb (length w) (size_of (layout_of w))) _ _ l c.1 in
    let e : l ≡ layout_of w = cc d.1 in
    rw e (refl, b.0, in-range (layout_of w) c.0, eqb-true (length w) (size_of (layout_of w)) d.0)

-- a store has its first eight words
size-head : (l : Layout) → head_words ≤ size_of l
unfolding size_of
size-head l = omega arith

-- and a store of which all that is so is opened
pub open-opened : (w : List ℕ) → marked w ≡ true → InRange (layout_of w) → length w ≡ size_of (layout_of w) → opened w ≡ Ok (layout_of w)
unfolding opened_by
open-opened w m r e =
    let n : head_words ≤ length w = omega (arith, size-head (layout_of w)) in
    rw (le-leb head_words (length w) n, m, range-in (layout_of w) r, eq-eqb (length w) (size_of (layout_of w)) e)

-- the words of n headers
length-headers : (k n : ℕ) → length (empty_headers k n) ≡ header_words * n
unfolding empty_headers
length-headers k zero = refl
length-headers k (suc n) = omega (arith, length-headers (suc k) n)

-- word n of two lists in a row: of the first, or of the second
front : (xs ys : List ℕ) (n j : ℕ) → n ≡ j → j < length xs → get_or (xs ++ ys) n 0 ≡ get_or xs j 0
front xs ys n j e h = rw e (get_or-append xs ys 0 j h)

behind : (xs ys : List ℕ) (n j : ℕ) → n ≡ length xs + j → get_or (xs ++ ys) n 0 ≡ get_or ys j 0
behind xs ys n j e = rw e (get_or-append-add xs ys j 0)

-- word j of header b, the m-th of those from k on
headers-at : (rest : List ℕ) (k n m b j : ℕ) → b ≡ k + m → m < n → j < header_words
    → get_or (empty_headers k n ++ rest) (header_words * m + j) 0 ≡ get_or (empty_header b) j 0
unfolding empty_headers
headers-at rest k zero m b j e h g = absurd (omega arith)
headers-at rest k (suc n) zero b j e h g =
    let q : k ≡ b = omega arith in
    front (empty_header k) (empty_headers (suc k) n ++ rest) (header_words * 0 + j) j (omega arith) g
    ∙ ap (λ (x : ℕ). get_or (empty_header x) j 0) q
headers-at rest k (suc n) (suc m) b j e h g =
    behind (empty_header k) (empty_headers (suc k) n ++ rest) (header_words * suc m + j) (header_words * m + j) (omega arith)
    ∙ headers-at rest (suc k) n m b j (omega arith) (omega arith) g

-- every word of n zeros is 0, and so is every one past their end
zeros : (n i : ℕ) → ◌≡◌ {A = ℕ} (get_or (replicate n 0) i 0) 0
zeros zero i = refl
zeros (suc n) zero = refl
zeros (suc n) (suc i) = zeros n i

-- the words behind the first eight of a formatted store
abbrev nodes_of : Layout → List ℕ
nodes_of l = replicate (node_words l * l.nodes) 0

abbrev headers_of : Layout → List ℕ
headers_of l = empty_headers 0 l.lists

-- a formatted store has exactly its words
pub length-formatted : (l : Layout) → length (formatted l) ≡ size_of l
unfolding formatted size_of
length-formatted l =
    omega (
      arith,
      length-append (headers_of l) (nodes_of l),
      length-headers 0 l.lists,
      length-replicate {A = ℕ} (node_words l * l.nodes) 0,
    )

-- what a formatted store holds: its head, its headers
pub formatted-head : (l : Layout) (j : ℕ) → j < head_words → get_or (formatted l) j 0 ≡ get_or (head l) j 0
unfolding formatted
formatted-head l j h = front (head l) (headers_of l ++ nodes_of l) j j refl h

pub formatted-header : (l : Layout) (k j : ℕ) → k < l.lists → j < header_words → get_or (formatted l) (header_at l k + j) 0 ≡ get_or (empty_header k) j 0
unfolding formatted
formatted-header l k j h g =
    behind (head l) (headers_of l ++ nodes_of l) (header_at l k + j) (header_words * k + j) (omega arith)
    ∙ headers-at (nodes_of l) 0 l.lists k k j (omega arith) h g

-- and 0 behind them
pub formatted-node : (l : Layout) (a : ℕ) → nodes_at l ≤ a → get_or (formatted l) a 0 ≡ 0
unfolding formatted
formatted-node l a h =
    let n : ℕ = a - nodes_at l in
    behind (head l) (headers_of l ++ nodes_of l) a (header_words * l.lists + n) (omega arith)
    ∙ (behind (headers_of l) (nodes_of l) (header_words * l.lists + n) n (omega (arith, length-headers 0 l.lists))
    ∙ zeros (node_words l * l.nodes) n)

-- a formatted store has its mark
pub formatted-marked : (l : Layout) → InRange l → marked (formatted l) ≡ true
unfolding marked formatted
formatted-marked l r = rw (between_is 1 newest l.version r.some_version r.version)
