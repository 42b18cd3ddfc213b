-- The words of a store: where each thing stands, what words 0 to 7 hold, and what a formatted store holds.
use Rattle.std.specs.Prelude.{ℕ, zero, suc, ◌+◌, ◌*◌, ◌-◌, ◌≤◌, ◌<◌, ◌≡◌, List, [], ◌∷◌, ◌++◌, Bool, cond, not, ◌&&◌, ◌||◌, eqb, leb, ltb, length, get_or, replicate, Result, Ok, Err}
use Rattle.layout.specs.declared.Layout.{Layout}
use Rattle.layout.specs.declared.Refusal.{Refusal}
use Rattle.layout.specs.declared.Refusal.TheVariants.{Short, NoStore, Range, Size, NoList, Unsound, NoPosition, NoNode, RecordSize, Full, NoFit, TwoFit, NotFree}

-- the bounds of L, N and P, and the most cells
abbrev pub most_lists : ℕ
most_lists = 8

abbrev pub most_nodes : ℕ
most_nodes = 2000

abbrev pub most_width : ℕ
most_width = 13

abbrev pub most_cells : ℕ
most_cells = most_lists + most_nodes

-- "Header k begins at word 8 + 4k: identifier, forward, back, count."
abbrev pub head_words : ℕ
head_words = 8

abbrev pub header_words : ℕ
header_words = 4

abbrev pub header_at : Layout → ℕ → ℕ
header_at l k = head_words + header_words * k

-- "Cells are numbered: 0 to L - 1 are the lists' headers, L to L + N - 1 are nodes."
abbrev pub first_node : Layout → ℕ
first_node l = l.lists

abbrev pub cell_count : Layout → ℕ
cell_count l = first_node l + l.nodes

pub record Node (l : Layout) (i : ℕ) : Type 0 where
  pub low : first_node l ≤ i
  pub high : i < cell_count l

unfoldable pub is_node : Layout → ℕ → Bool
is_node l i = leb (first_node l) i && ltb i (cell_count l)

-- "Node i begins at word 8 + 4L + (3 + P) × (i - L): identifier, forward, back, then P record words."
abbrev pub link_words : ℕ
link_words = 3

-- behind its links stands its tail: the record and the check words, of which version 1 has none
unfoldable pub check_words : Layout → ℕ
check_words l = 0

abbrev pub tail_words : Layout → ℕ
tail_words l = l.width + check_words l

abbrev pub node_words : Layout → ℕ
node_words l = link_words + tail_words l

-- the nodes begin behind the headers
abbrev pub nodes_at : Layout → ℕ
nodes_at l = head_words + header_words * l.lists

unfoldable pub node_at : Layout → ℕ → ℕ
node_at l i = nodes_at l + node_words l * (i - first_node l)

-- the first word of a cell, header or node, and the words behind it
unfoldable pub cell_at : Layout → ℕ → ℕ
cell_at l i = cond (ltb i (first_node l)) (header_at l i) (node_at l i)

-- the words of a cell: a header's four, a node's three and its tail
unfoldable pub cell_words : Layout → ℕ → ℕ
cell_words l i = cond (ltb i (first_node l)) header_words (node_words l)

-- which word of a cell each is: the identifier is the first
abbrev pub ident_word : ℕ
ident_word = 0

abbrev pub forward_word : ℕ
forward_word = 1

abbrev pub back_word : ℕ
back_word = 2

abbrev pub count_word : ℕ
count_word = 3

abbrev pub ident_at : Layout → ℕ → ℕ
ident_at l i = cell_at l i

abbrev pub forward_at : Layout → ℕ → ℕ
forward_at l i = cell_at l i + forward_word

abbrev pub back_at : Layout → ℕ → ℕ
back_at l i = cell_at l i + back_word

abbrev pub count_at : Layout → ℕ → ℕ
count_at l k = header_at l k + count_word

abbrev pub record_at : Layout → ℕ → ℕ
record_at l i = node_at l i + link_words

-- "The store has exactly 8 + 4L + (3 + P) × N words, at most 32,040."
unfoldable pub size_of : Layout → ℕ
size_of l = nodes_at l + node_words l * l.nodes

-- "The identifier of list k is 42,400 + k."
abbrev pub ident_of : ℕ → ℕ
ident_of k = 42400 + k

-- "Every node in no list has identifier 0", and "Identifier 65,535 on a node in no list marks it worn."
abbrev pub worn_ident : ℕ
worn_ident = 65535

pub data Unlisted (x : ℕ) : Type 0 where
  free : x ≡ 0 → Unlisted x
  worn : x ≡ worn_ident → Unlisted x

-- a node with this identifier is free or worn, and else it is in use
abbrev pub is_free : ℕ → Bool
is_free x = eqb x 0

abbrev pub is_worn : ℕ → Bool
is_worn x = eqb x worn_ident

abbrev pub in_use : ℕ → Bool
in_use x = not (is_free x || is_worn x)

-- "Words 0 to 2: the mark RBS as letter codes 82, 66, 83. Word 3: version, 1. .. Word 7: 0."
abbrev pub newest : ℕ
newest = 1

abbrev pub between : ℕ → ℕ → ℕ → Bool
between a b x = leb a x && leb x b

unfoldable pub marked : List ℕ → Bool
marked w =
    eqb (get_or w 0 0) 82
    && (eqb (get_or w 1 0) 66 && (eqb (get_or w 2 0) 83 && (between 1 newest (get_or w 3 0) && eqb (get_or w 7 0) 0)))

-- "Word 4: L, the lists, 1 to 8. Word 5: N, the node cells, 1 to 2,000. Word 6: P, the words of a record, 1 to 13."
abbrev pub layout_of : List ℕ → Layout
layout_of w = record { version = get_or w 3 0; lists = get_or w 4 0; nodes = get_or w 5 0; width = get_or w 6 0 }

-- the layout that format is given
abbrev pub layout_for : ℕ → ℕ → ℕ → Layout
layout_for lists nodes width = record { version = newest; lists = lists; nodes = nodes; width = width }

-- all of these are in range; the longest tail has as many words as the longest record
pub record InRange (l : Layout) : Type 0 where
  pub some_version : 1 ≤ l.version
  pub version : l.version ≤ newest
  pub some_lists : 1 ≤ l.lists
  pub lists : l.lists ≤ most_lists
  pub some_nodes : 1 ≤ l.nodes
  pub nodes : l.nodes ≤ most_nodes
  pub some_width : 1 ≤ l.width
  pub tail : tail_words l ≤ most_width

unfoldable pub in_range : Layout → Bool
in_range l =
    between 1 newest l.version
    && (between 1 most_lists l.lists && (between 1 most_nodes l.nodes && between 1 most_width l.width))

-- a question: on yes what follows, on no its refusal
abbrev pub ask {ℓ} : {A : Type ℓ} → Bool → A → A → A
ask answer refusal rest = cond answer rest refusal

-- "the first no decides, and its number is the answer"
abbrev pub number_of : Refusal → ℕ
number_of Short = 1
number_of NoStore = 2
number_of Range = 3
number_of Size = 4
number_of NoList = 5
number_of Unsound = 6
number_of NoPosition = 7
number_of NoNode = 8
number_of RecordSize = 9
number_of Full = 10
number_of NoFit = 11
number_of TwoFit = 12
number_of NotFree = 13

-- questions 1 to 4, of a store of n words whose first eight are those of h
unfoldable pub opened_by : ℕ → List ℕ → Result Layout Refusal
opened_by n h =
    ask (leb head_words n) (Err Short)
    (ask (marked h) (Err NoStore)
    (ask (in_range (layout_of h)) (Err Range)
    (ask (eqb n (size_of (layout_of h))) (Err Size)
    (Ok (layout_of h)))))

abbrev pub opened : List ℕ → Result Layout Refusal
opened w = opened_by (length w) w

-- what a call does after them: a refusal is handed on, else the rest is asked of the layout
abbrev pub after_open {ℓ} : {A : Type ℓ} → Result Layout Refusal → (Refusal → A) → (Layout → A) → A
after_open (Err n) refuse rest = refuse n
after_open (Ok l) refuse rest = rest l

-- the same in words: what a store's words are like once questions 1 to 4 are answered yes
pub record Laid (l : Layout) (w : List ℕ) : Type 0 where
  pub in_range : InRange l
  pub exact : length w ≡ size_of l

-- "Format writes words 0 to 7, empty headers, and 0 elsewhere."
abbrev pub head : Layout → List ℕ
head l = 82 ∷ 66 ∷ 83 ∷ l.version ∷ l.lists ∷ l.nodes ∷ l.width ∷ 0 ∷ []

-- "An empty list's header points to itself both ways."
abbrev pub empty_header : ℕ → List ℕ
empty_header k = ident_of k ∷ k ∷ k ∷ 0 ∷ []

-- n of them, from list k on
unfoldable pub empty_headers : ℕ → ℕ → List ℕ
empty_headers k zero = []
empty_headers k (suc n) = empty_header k ++ empty_headers (suc k) n

unfoldable pub formatted : Layout → List ℕ
formatted l = head l ++ (empty_headers 0 l.lists ++ replicate (node_words l * l.nodes) 0)
