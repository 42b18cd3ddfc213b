-- Format's stores: a row is stored word by word, and the words of a formatted store are rows: its head, its headers, its nodes.
use Prim.Native.Nat.{ℕ, suc, ◌+◌, ◌≤◌, ◌<◌}
use mathlib.Core.Path.{◌≡◌, refl, ap, ap₂, ◌∙◌, sym}
use mathlib.Core.List.{List, [], ◌∷◌, ◌++◌}
use native.Mathlib.Omega.{arith}
use native.Mathlib.Nat.{add-zero}
use native.Mathlib.Numerals.{add-one}
use lib.ListN.{length, get_or, drop, length-append}
use lib.Seq.{drop-cons, drop-length, append_snoc, set_at}
use Rattle.stores.specs.declared.Write.{Write}
use Rattle.stores.specs.Stores.{write, run, in_row}
use Rattle.layout.specs.declared.Layout.{Layout}
use Rattle.layout.specs.Words.{head_words, header_words, header_at, nodes_at, size_of, head, empty_header, formatted}
use Rattle.layout.proofs.Laws.{header-fits, length-formatted, formatted-head, formatted-header, formatted-node}

-- what is left of a row from its word i on: that word first, and at the end nothing
pub row_next : (a i : ℕ) (vs : List ℕ) → i < length vs → in_row a (drop i vs) ≡ write a (get_or vs i 0) ∷ in_row (a + 1) (drop (i + 1) vs)
unfolding in_row
row_next a i vs h =
    ap (in_row a) (drop-cons vs i 0 h) ∙ ap (λ (m : ℕ). write a (get_or vs i 0) ∷ in_row (a + 1) (drop m vs)) (sym (add-one i))

pub row-end : (a i : ℕ) (vs : List ℕ) → i ≡ length vs → in_row a (drop i vs) ≡ []
unfolding in_row
row-end a i vs e = ap (λ (m : ℕ). in_row a (drop m vs)) e ∙ ap (in_row a) (drop-length vs)

-- the words f from word a on, each at its place
abbrev row_from : List ℕ → ℕ → List Write
row_from f a = in_row a (drop a f)

-- those of vs, which stand there, come first
row_first : (f vs : List ℕ) (a : ℕ) → a + length vs ≤ length f → ((j : ℕ) → j < length vs → get_or f (a + j) 0 ≡ get_or vs j 0)
    → row_from f a ≡ in_row a vs ++ row_from f (a + length vs)
unfolding in_row
row_first f [] a h e = ap (row_from f) (sym (add-zero a))
row_first f (v ∷ vs) a h e =
    let n : a + 1 + length vs ≡ a + suc (length vs) = omega arith in
    row_next a a f (omega arith)
    ∙ ap₂ (λ (x : ℕ) (t : List Write). write a x ∷ t) first (row_first f vs (a + 1) (omega arith) later)
    ∙ ap (λ (m : ℕ). write a v ∷ in_row (a + 1) vs ++ row_from f m) n
  where
    first : get_or f a 0 ≡ v
    first = ap (λ (m : ℕ). get_or f m 0) (sym (add-zero a)) ∙ e 0 (omega arith)

    later : (j : ℕ) → j < length vs → get_or f (a + 1 + j) 0 ≡ get_or vs j 0
    later j k =
        let q : a + 1 + j ≡ a + suc j = omega arith in
        ap (λ (m : ℕ). get_or f m 0) q ∙ e (suc j) (omega arith)

-- words stored one after the other, behind ps; and all of them
row-behind : (ps vs ws : List ℕ) → length vs ≡ length ws → run (in_row (length ps) vs) (ps ++ ws) ≡ ps ++ vs
unfolding run in_row
row-behind ps [] [] e = refl
row-behind ps [] (w ∷ ws) e = absurd (omega arith)
row-behind ps (v ∷ vs) [] e = absurd (omega arith)
row-behind ps (v ∷ vs) (w ∷ ws) e =
    let n : length ps + 1 ≡ length (ps ++ v ∷ []) = sym (length-append ps (v ∷ [])) in
    ap (λ (x : List ℕ). run (in_row (length ps + 1) vs) x) (set_at ps w ws v (length ps) refl ∙ sym (append_snoc ps v ws))
    ∙ ap (λ (m : ℕ). run (in_row m vs) ((ps ++ v ∷ []) ++ ws)) n
    ∙ row-behind (ps ++ v ∷ []) vs ws (omega arith)
    ∙ append_snoc ps v vs

pub row-all : (vs ws : List ℕ) → length vs ≡ length ws → run (in_row 0 vs) ws ≡ vs
row-all vs ws e = row-behind [] vs ws e

-- the headers end within the store
pub headers-fit : (l : Layout) → nodes_at l ≤ size_of l
unfolding size_of
headers-fit l = omega arith

-- what format has yet to store, from word a on: the head, then each header, then 0
abbrev pub left : Layout → ℕ → List Write
left l a = row_from (formatted l) a

pub left-head : (l : Layout) → left l 0 ≡ in_row 0 (head l) ++ left l head_words
unfolding size_of
left-head l =
    row_first (formatted l) (head l) 0 (omega (arith, length-formatted l)) (λ j h. here j ∙ formatted-head l j h)
  where
    here : (j : ℕ) → get_or (formatted l) (0 + j) 0 ≡ get_or (formatted l) j 0
    here j = let e : 0 + j ≡ j = omega arith in ap (λ (m : ℕ). get_or (formatted l) m 0) e

pub left-header : (l : Layout) (k : ℕ) → k < l.lists → left l (header_at l k) ≡ in_row (header_at l k) (empty_header k) ++ left l (header_at l (k + 1))
left-header l k h =
    let e : header_at l k + header_words ≡ header_at l (k + 1) = omega arith in
    row_first (formatted l) (empty_header k) (header_at l k) (omega (arith, length-formatted l, header-fits l k h)) (λ j g. formatted-header l k j h g)
    ∙ ap (λ (a : ℕ). in_row (header_at l k) (empty_header k) ++ left l a) e

pub left-node : (l : Layout) (i : ℕ) → nodes_at l ≤ i → i < size_of l → left l i ≡ write i 0 ∷ left l (i + 1)
left-node l i h g =
    row_next i i (formatted l) (omega (arith, length-formatted l)) ∙ ap (λ (v : ℕ). write i v ∷ left l (i + 1)) (formatted-node l i h)

pub left-none : (l : Layout) (i : ℕ) → i ≡ size_of l → left l i ≡ []
left-none l i e = row-end i i (formatted l) (e ∙ sym (length-formatted l))
