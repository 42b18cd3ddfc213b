-- A list walked from both ends at once: what lies between the two cells that the walks have come to.
use Rattle.std.specs.Prelude.{ℕ, zero, suc, ◌+◌, ◌-◌, ◌≤◌, ◌≡◌, List, Bool, true, false, not, cond, length, Option, Some, None}
use Rattle.sequences.specs.Sequence.{All, Forward, Backward}
use Rattle.layout.specs.declared.Layout.{Layout}
use Rattle.layout.specs.Words.{most_nodes, is_node, ident_of, is_free, in_use}
use Rattle.lists.specs.Decide.{View, sequence_in, holds, used, unwiped}
use Rattle.layout.specs.declared.Cell.{Cell}
use Rattle.spans.specs.declared.Tally.{Tally}
use Rattle.spans.specs.declared.Span.{Span}

-- how many of the n cells from a on are in use, and how many are free and have a record
abbrev pub tally_of : View → ℕ → ℕ → Tally
tally_of v a n = record { used = length (used v a n); unwiped = length (unwiped v a n) }

-- the tally of no node; with a free node more, whose record is blank or is not; with one that is not free and has the identifier x
abbrev pub no_tally : Tally
no_tally = record { used = 0; unwiped = 0 }

abbrev pub with_free : Tally → Bool → Tally
with_free t b = record { used = t.used; unwiped = t.unwiped + cond (not b) 1 0 }

abbrev pub with_other : Tally → ℕ → Tally
with_other t x = record { used = t.used + cond (in_use x) 1 0; unwiped = t.unwiped }

-- with any node more, by its identifier and its record
abbrev pub tallied : Tally → ℕ → Bool → Tally
tallied t x b = elim (is_free x) [ true ↦ with_free t b | false ↦ with_other t x ]

-- no more nodes than a store has
pub record FewIn (t : Tally) : Type 0 where
  pub used : t.used ≤ most_nodes
  pub unwiped : t.unwiped ≤ most_nodes

-- r says whether P
pub record Decides (r : Bool) (P : Type 0) : Type 0 where
  pub right : r ≡ true → P
  pub complete : P → r ≡ true

-- list k holds, and the sum of the first n counts
abbrev pub Held : Layout → View → (ℕ → ℕ) → ℕ → Type 0
Held l v count k = holds v k (count k) (sequence_in l v k) ≡ true

unfoldable pub count_sum : (ℕ → ℕ) → ℕ → ℕ
count_sum count zero = 0
count_sum count (suc n) = count_sum count n + count n

-- a cell as a view has it, and the whole of a list
abbrev pub cell_in : View → ℕ → Cell
cell_in v c = record { ident = v.ident c; forward = v.forward c; back = v.back c }

abbrev pub whole_span : ℕ → ℕ → Cell → Span
whole_span k n h = record { count = n; start = k; first = h.forward; last = h.back; end = k }

-- the first cell c and the last cell d of a span are right: they are list k's, and lead back to its start and on to its end
pub record Right (s : Span) (k : ℕ) (c d : Cell) : Type 0 where
  pub first : c.ident ≡ ident_of k
  pub back : c.back ≡ s.start
  pub last : d.ident ≡ ident_of k
  pub forward : d.forward ≡ s.end

-- the span without them
abbrev pub inner_span : Span → Cell → Cell → Span
inner_span s c d = record { count = s.count - 2; start = s.first; first = c.forward; last = d.back; end = s.last }

-- what a round says
abbrev pub Narrowed : Span → ℕ → Cell → Cell → Option Span → Type 0
Narrowed s k c d (Some t) = Right s k c d × (t ≡ inner_span s c d)
Narrowed s k c d None = Right s k c d → ⊥

-- no cell is left, or one, c
abbrev pub Closed : Span → Type 0
Closed s = (s.first ≡ s.end) × (s.last ≡ s.start)

abbrev pub Single : Span → ℕ → Cell → Type 0
Single s k c = (s.first ≡ s.last) × (c.ident ≡ ident_of k) × (c.back ≡ s.start) × (c.forward ≡ s.end)

-- the node c carries the identifier of list k
pub record Carries (l : Layout) (v : View) (k c : ℕ) : Type 0 where
  pub node : is_node l c ≡ true
  pub ident : v.ident c ≡ ident_of k

-- n cells lie between x and z: nodes that carry the identifier of list k, and the links lead through them both ways
pub record Between (l : Layout) (v : View) (k n x z : ℕ) : Type 0 where
  pub cells : List ℕ
  pub count : n ≡ length cells
  pub carry : All (Carries l v k) cells
  pub forwards : Forward v.forward x cells z
  pub backs : Backward v.back x cells z

-- so of a span; and its ends lead to its first and last cell, whatever these are
abbrev pub Spanned : Layout → View → ℕ → Span → Type 0
Spanned l v k s = Between l v k s.count s.start s.end

pub record Led (v : View) (s : Span) : Type 0 where
  pub first : v.forward s.start ≡ s.first
  pub last : v.back s.end ≡ s.last

-- what a round says of a view: the first and the last cell are right nodes, and what lies between them, or they are not
pub record Outer (l : Layout) (v : View) (k : ℕ) (s : Span) : Type 0 where
  pub first : is_node l s.first ≡ true
  pub last : is_node l s.last ≡ true
  pub right : Right s k (cell_in v s.first) (cell_in v s.last)

abbrev pub inner_in : View → Span → Span
inner_in v s = inner_span s (cell_in v s.first) (cell_in v s.last)

abbrev pub Rounded : Layout → View → ℕ → Span → Option Span → Type 0
Rounded l v k s (Some t) = Outer l v k s × (t ≡ inner_in v s)
Rounded l v k s None = Outer l v k s → ⊥
