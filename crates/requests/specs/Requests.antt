-- Questions 5 to 10 and 13: what a call asks for, and the site in the lists that it gets.
use Rattle.std.specs.Prelude.{ℕ, zero, suc, ◌+◌, ◌-◌, ◌/◌, ◌%◌, ◌≡◌, List, [], ◌∷◌, ◌++◌, cond, ◌&&◌, eqb, leb, ltb, length, get_or, Option, Some, None, Result, Ok, Err}
use Rattle.sequences.specs.Sequence.{All, filter}
use Rattle.layout.specs.declared.Layout.{Layout}
use Rattle.layout.specs.declared.Refusal.{Refusal}
use Rattle.layout.specs.declared.Refusal.TheVariants.{NoList, Unsound, NoPosition, NoNode, RecordSize, Full, NotFree}
use Rattle.layout.specs.Words.{ask, first_node, cell_count, is_node, worn_ident, is_free, opened, after_open}
use Rattle.lists.specs.Decide.{View, view_of, count_in, sequence_in, sound_in}
use Rattle.requests.specs.declared.Ends.{Ends}
use Rattle.requests.specs.declared.Look.{Look}
use Rattle.requests.specs.declared.Site.{Site}
use Rattle.requests.specs.declared.Request.{Request}
use Rattle.requests.specs.declared.Request.TheVariants.{Check, Whole, Member, Gap, Gaps, Mark}

-- "counting up from the starting cell and on from cell L after the last": n cells from c on
unfoldable pub next_cell : Layout → ℕ → ℕ
next_cell l c = cond (eqb (c + 1) (cell_count l)) (first_node l) (c + 1)

unfoldable pub around : Layout → ℕ → ℕ → List ℕ
around l c zero = []
around l c (suc n) = c ∷ around l (next_cell l c) n

-- "the first free cell met": a node is free if its identifier is 0
unfoldable pub first_free : (ℕ → ℕ) → List ℕ → Option ℕ
first_free ident [] = None
first_free ident (c ∷ cs) = cond (is_free (ident c)) (Some c) (first_free ident cs)

-- in the document's own words: i has identifier 0, and those met before it have not
pub record FirstFree (ident : ℕ → ℕ) (cells : List ℕ) (i : ℕ) : Type 0 where
  pub passed : List ℕ
  pub rest : List ℕ
  pub order : cells ≡ passed ++ i ∷ rest
  pub free : ident i ≡ 0
  pub taken : All (λ c. ident c ≡ 0 → ⊥) passed

abbrev pub with_free {ℓ} : {A : Type ℓ} → Option ℕ → A → (ℕ → A) → A
with_free None refusal rest = refusal
with_free (Some c) refusal rest = rest c

-- of these cells, those that are free, in order
abbrev pub free_cells : (ℕ → ℕ) → List ℕ → List ℕ
free_cells ident = filter (λ c. is_free (ident c))

-- the cell at place i of these, counted from 0, if there are so many
unfoldable pub nth : List ℕ → ℕ → Option ℕ
nth [] i = None
nth (c ∷ cs) zero = Some c
nth (c ∷ cs) (suc i) = nth cs i

-- the first and the last of r cells, the first r of these
abbrev pub ends_of : List ℕ → ℕ → Ends
ends_of cells r = record { first = get_or cells 0 0; last = get_or cells (r - 1) 0 }

-- question 7 of read and delete: the member of list k at position p, with the cells before and after it
unfoldable pub member_at : ℕ → ℕ → List ℕ → Result Site Refusal
member_at k p s =
    ask (ltb p (length s)) (Err NoPosition)
    (Ok (record { before = get_or (k ∷ s) p 0; cell = get_or s p 0; after = get_or (s ++ k ∷ []) (p + 1) 0; count = length s }))

-- questions 7 to 9 of insert, into a list of n members at position p, from cell c, of a record of m words; then the rest
abbrev pub ask_gap {ℓ} : {A : Type ℓ} → Layout → ℕ → ℕ → ℕ → ℕ → (Refusal → A) → A → A
ask_gap l n p c m refuse rest =
    ask (leb p n) (refuse NoPosition)
    (ask (is_node l c) (refuse NoNode)
    (ask (eqb m l.width) (refuse RecordSize)
    rest))

-- question 10: the gap of list k at position p, and a free cell, searched from cell c
abbrev pub free_gap : Layout → (ℕ → ℕ) → ℕ → ℕ → ℕ → List ℕ → Result Site Refusal
free_gap l ident k p c s =
    with_free (first_free ident (around l c l.nodes)) (Err Full)
    (λ i. Ok (record { before = get_or (k ∷ s) p 0; cell = i; after = get_or (s ++ k ∷ []) p 0; count = length s }))

unfoldable pub gap_at : Layout → (ℕ → ℕ) → ℕ → ℕ → ℕ → ℕ → List ℕ → Result Site Refusal
gap_at l ident k p c m s = ask_gap l (length s) p c m Err (free_gap l ident k p c s)

-- of an insert of several records, m words in all, "question 9 is: is the record length a positive multiple of P?
abbrev pub ask_gaps {ℓ} : {A : Type ℓ} → Layout → ℕ → ℕ → ℕ → ℕ → (Refusal → A) → A → A
ask_gaps l n p c m refuse rest =
    ask (leb p n) (refuse NoPosition)
    (ask (is_node l c) (refuse NoNode)
    (ask (ltb 0 m && eqb (m % l.width) 0) (refuse RecordSize)
    rest))

-- Question 10: are there enough free nodes for all?" Then the gap, with the first of them.
unfoldable pub gaps_at : Layout → (ℕ → ℕ) → ℕ → ℕ → ℕ → ℕ → List ℕ → Result Site Refusal
gaps_at l ident k p c m s =
    ask_gaps l (length s) p c m Err
    (ask (leb (m / l.width) (length (free_cells ident (around l c l.nodes)))) (Err Full)
    (free_gap l ident k p c s))

-- the same questions of a list of n members, and "the first and the last cell in order of use"
unfoldable pub ends_at : Layout → (ℕ → ℕ) → ℕ → ℕ → ℕ → ℕ → Result Ends Refusal
ends_at l ident n p c m =
    ask_gaps l n p c m Err
    (ask (leb (m / l.width) (length (free_cells ident (around l c l.nodes)))) (Err Full)
    (Ok (ends_of (free_cells ident (around l c l.nodes)) (m / l.width))))

-- of the cell c to mark: question 8, and "13, the node to mark isn't free, asked after 6 and 8, where 8 is asked of the cell to mark"
abbrev pub mark_at : Layout → (ℕ → ℕ) → ℕ → Result Site Refusal
mark_at l ident c =
    ask (is_node l c) (Err NoNode)
    (ask (is_free (ident c)) (Err NotFree)
    (Ok (record { before = 0; cell = c; after = 0; count = 0 })))

-- questions 5 and 6, before those of the sequence of list k
abbrev pub of_list : Layout → View → (ℕ → ℕ) → ℕ → (List ℕ → Result Site Refusal) → Result Site Refusal
of_list l v count k rest =
    ask (ltb k l.lists) (Err NoList)
    (ask (sound_in l v count) (Err Unsound)
    (rest (sequence_in l v k)))

-- the questions of each request
unfoldable pub site_in : Layout → View → (ℕ → ℕ) → Request → Result Site Refusal
site_in l v count Check = ask (sound_in l v count) (Err Unsound) (Ok (record { before = 0; cell = 0; after = 0; count = 0 }))
site_in l v count (Whole k) = of_list l v count k (λ s. Ok (record { before = k; cell = k; after = k; count = length s }))
site_in l v count (Member k p) = of_list l v count k (member_at k p)
site_in l v count (Gap k p c m) = of_list l v count k (gap_at l v.ident k p c m)
site_in l v count (Gaps k p c m) = of_list l v count k (gaps_at l v.ident k p c m)
site_in l v count (Mark c) = ask (sound_in l v count) (Err Unsound) (mark_at l v.ident c)

-- the list that a request names; a check and a mark ask nothing of list 0 that every store does not answer
abbrev pub list_of : Request → ℕ
list_of Check = 0
list_of (Whole k) = k
list_of (Member k p) = k
list_of (Gap k p c m) = k
list_of (Gaps k p c m) = k
list_of (Mark c) = 0

-- the same of the words of a store
abbrev pub site_of : Layout → List ℕ → Request → Result Site Refusal
site_of l w q = site_in l (view_of l w) (count_in l w) q

abbrev pub with_site {ℓ} : {A : Type ℓ} → Result Site Refusal → (Refusal → A) → (Site → A) → A
with_site (Err n) refuse rest = refuse n
with_site (Ok t) refuse rest = rest t

-- a call goes on, in a store of layout l at site t
abbrev pub at_site : Layout → Site → Result Look Refusal
at_site l t = Ok (record { layout = l; site = t })

-- all questions of a call: 1 to 4 of the words, then those of the request
unfoldable pub look_of : List ℕ → Request → Result Look Refusal
look_of w q = after_open (opened w) Err (λ l. with_site (site_of l w q) Err (at_site l))

-- and what a call makes of the outcome
abbrev pub with_ends {ℓ} : {A : Type ℓ} → Result Ends Refusal → (Refusal → A) → (ℕ → ℕ → A) → A
with_ends (Err n) refuse rest = refuse n
with_ends (Ok e) refuse rest = rest e.first e.last

abbrev pub with_look {ℓ} : {A : Type ℓ} → Result Look Refusal → (Refusal → A) → (Layout → Site → A) → A
with_look (Err n) refuse rest = refuse n
with_look (Ok o) refuse rest = rest o.layout o.site

-- "the search for a free cell passes over [worn nodes]; every caller of that search must say so": what is found, and where a call works, is
-- no worn node
abbrev pub FoundUnworn : (ℕ → ℕ) → Option ℕ → Type 0
FoundUnworn ident None = Unit {0}
FoundUnworn ident (Some c) = ident c ≡ worn_ident → ⊥

abbrev pub EndsUnworn : (ℕ → ℕ) → Result Ends Refusal → Type 0
EndsUnworn ident (Err n) = Unit {0}
EndsUnworn ident (Ok e) = (ident e.first ≡ worn_ident → ⊥) × (ident e.last ≡ worn_ident → ⊥)

abbrev pub SitedUnworn : (ℕ → ℕ) → Result Site Refusal → Type 0
SitedUnworn ident (Err n) = Unit {0}
SitedUnworn ident (Ok t) = ident t.cell ≡ worn_ident → ⊥

abbrev pub LookedUnworn : List ℕ → Result Look Refusal → Type 0
LookedUnworn w (Err n) = Unit {0}
LookedUnworn w (Ok o) = (view_of o.layout w).ident o.site.cell ≡ worn_ident → ⊥
