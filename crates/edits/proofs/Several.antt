-- An insert of several records: its stores are the segments of single inserts, and the lists after them are those that inserting the cells
-- into the plain sequence gives.
use Prim.Native.Nat.{ℕ, zero, suc, ◌+◌, ◌*◌, ◌<◌, ◌≤◌}
use mathlib.Core.Path.{◌≡◌, refl, ap, ap₂, fun_ext, ◌∙◌, sym, subst}
use mathlib.Core.List.Memᴰ
use mathlib.Core.List.{List, [], ◌∷◌, ◌++◌, map}
use native.Mathlib.Decide.{ℕ_discrete}
use native.Mathlib.Omega.{arith}
use native.Mathlib.Nat.{zero-mul, suc-mul, mul-le-mul}
use native.Mathlib.Numerals.{add-one}
use lib.ListN.{length, get_or, take, drop, length-append, length-drop, take-append-drop}
use lib.Seq.{length-take-le, take-take}
use Rattle.sequences.specs.Sequence.{◌∈◌}
use Rattle.sequences.proofs.Members.{all_in, in_all, all_append, different-append}
use Rattle.stores.specs.Stores.{Write, run, in_row}
use Rattle.stores.proofs.Laws.{run-append, run_out, length_run, length-row}
use Rattle.layout.specs.declared.Layout.{Layout}
use Rattle.layout.specs.Words.{head_words, tail_words, InRange, Node, layout_of, size_of, ident_at, record_at}
use Rattle.layout.proofs.Laws.{tail-width}
use Rattle.lists.specs.Lists.{Sound, SoundLists, Wiped, SameCells}
use Rattle.lists.proofs.Unique.{nodes-few}
use Rattle.lists.proofs.Same.{same_layout, same-sound}
use Rattle.requests.specs.declared.Site.{Site}
use Rattle.requests.specs.Sites.{gap_site}
use Rattle.edits.specs.Edits.{insert_links, insert_writes, insert_stores, chain, chain_at}
use Rattle.edits.specs.Edited.{insert_at, splice_at, replaced, record_in, records_of, FreeNodes, InsertedAll}
use Rattle.edits.proofs.Edited.{replaced-own, replaced-other}
use Rattle.edits.proofs.Insert as I
use Rattle.edits.proofs.Done.{insert-head}

-- the number of stores: of one record, and of all
pub insert-length : (l : Layout) (k : ℕ) (t : Site) (words : List ℕ) → length (insert_writes l k t words) ≡ length words + 6
unfolding insert_writes insert_links
insert-length l k t words =
    omega (arith, length-append (in_row (record_at l t.cell) words) (insert_links l k t), length-row (record_at l t.cell) words)

-- the words of a first record, and those left for the others
pub first-words : (l : Layout) (n : ℕ) (words : List ℕ) → suc n * l.width ≤ length words → length (take l.width words) ≡ tail_words l
first-words l n words h =
    length-take-le l.width words (omega (arith, suc-mul n l.width)) ∙ sym (tail-width l)

pub other-words : (l : Layout) (n : ℕ) (words : List ℕ) → suc n * l.width ≤ length words → n * l.width ≤ length (drop l.width words)
other-words l n words h = omega (arith, suc-mul n l.width, length-drop l.width words)

pub Chain-length
    : (l : Layout) (k a b n : ℕ) (cells words : List ℕ) → length cells * l.width ≤ length words
    → length (chain l k a b n cells words) ≡ length cells * insert_stores l
unfolding chain
Chain-length l k a b n [] words h = sym (zero-mul (tail_words l + 6))
Chain-length l k a b n (c ∷ cs) words h =
    let t : Site = record { before = a; cell = c; after = b; count = n } in
    omega (
      arith,
      length-append (insert_writes l k t (take l.width words)) (chain l k c b (n + 1) cs (drop l.width words)),
      insert-length l k t (take l.width words),
      first-words l (length cs) words h,
      Chain-length l k c b (n + 1) cs (drop l.width words) (other-words l (length cs) words h),
      suc-mul (length cs) (tail_words l + 6),
    )

-- no more than sixteen bits hold
pub stores-few : (l : Layout) → InRange l → (r : ℕ) → r ≤ l.nodes → r * insert_stores l ≤ 38000
stores-few l i r h =
    let a : r ≤ 2000 = omega (arith, i.nodes) in
    let b : insert_stores l ≤ 19 = omega (arith, i.tail) in
    mul-le-mul a b

-- the first cell and then the others, in plain sequences
pub splice-first : (p c : ℕ) (cs s : List ℕ) → p ≤ length s → splice_at (p + 1) cs (insert_at p c s) ≡ splice_at p (c ∷ cs) s
splice-first p c cs s h = ap (λ (n : ℕ). splice_at n cs (insert_at p c s)) (add-one p) ∙ by p s h
  where
    by : (p : ℕ) (s : List ℕ) → p ≤ length s → splice_at (suc p) cs (insert_at p c s) ≡ splice_at p (c ∷ cs) s
    by zero [] h = refl
    by zero (y ∷ s) h = refl
    by (suc p) [] h = absurd (omega arith)
    by (suc p) (y ∷ s) h = ap (λ (t : List ℕ). y ∷ t) (by p s (omega arith))

-- and the gap behind the first cell
next-before : (k p c : ℕ) (s : List ℕ) → p ≤ length s → get_or (k ∷ insert_at p c s) (p + 1) 0 ≡ c
next-before k p c s h = ap (λ (n : ℕ). get_or (k ∷ insert_at p c s) n 0) (add-one p) ∙ by p s h
  where
    by : (p : ℕ) (s : List ℕ) → p ≤ length s → get_or (insert_at p c s) p 0 ≡ c
    by zero [] h = refl
    by zero (y ∷ s) h = refl
    by (suc p) [] h = absurd (omega arith)
    by (suc p) (y ∷ s) h = by p s (omega arith)

next-after : (k p c : ℕ) (s : List ℕ) → p ≤ length s → get_or (insert_at p c s ++ k ∷ []) (p + 1) 0 ≡ get_or (s ++ k ∷ []) p 0
next-after k p c s h = ap (λ (n : ℕ). get_or (insert_at p c s ++ k ∷ []) n 0) (add-one p) ∙ by p s h
  where
    by : (p : ℕ) (s : List ℕ) → p ≤ length s → get_or (insert_at p c s ++ k ∷ []) (suc p) 0 ≡ get_or (s ++ k ∷ []) p 0
    by zero [] h = refl
    by zero (y ∷ s) h = refl
    by (suc p) [] h = absurd (omega arith)
    by (suc p) (y ∷ s) h = by p s (omega arith)

next-count : (p c : ℕ) (s : List ℕ) → length (insert_at p c s) ≡ length s + 1
next-count p c s =
    omega (arith, length-append (take p s) (c ∷ drop p s), sym (length-append (take p s) (drop p s)) ∙ ap length (take-append-drop p s))

-- the stores of the first cell's insert, then those of the others behind it
pub chain_first
    : (l : Layout) (k p : ℕ) (s : List ℕ) (c : ℕ) (cs words : List ℕ) → p ≤ length s
    → chain_at l k p s (c ∷ cs) words
    ≡ insert_writes l k (gap_site k p c s) (take l.width words) ++ chain_at l k (p + 1) (insert_at p c s) cs (drop l.width words)
unfolding chain
chain_first l k p s c cs words h =
    ap (λ (t : List Write). insert_writes l k (gap_site k p c s) (take l.width words) ++ t)
    (ap (λ (a : ℕ). chain l k a (get_or (s ++ k ∷ []) p 0) (length s + 1) cs (drop l.width words)) (sym (next-before k p c s h))
    ∙ ap₂ (λ (b n : ℕ). chain l k (get_or (k ∷ insert_at p c s) (p + 1) 0) b n cs (drop l.width words))
    (sym (next-after k p c s h)) (sym (next-count p c s)))

-- a list's sequence replaced twice, and by its own
pub replaced-twice : (sequence : ℕ → List ℕ) (k : ℕ) (s t : List ℕ) → replaced (replaced sequence k s) k t ≡ replaced sequence k t
replaced-twice sequence k s t = fun_ext (λ j. by j (ℕ_discrete j k))
  where
    by : (j : ℕ) → Dec (j ≡ k) → replaced (replaced sequence k s) k t j ≡ replaced sequence k t j
    by j (yes e) = replaced-own (replaced sequence k s) k t j e ∙ sym (replaced-own sequence k t j e)
    by j (no n) =
        replaced-other (replaced sequence k s) k t j n ∙ replaced-other sequence k s j n ∙ sym (replaced-other sequence k t j n)

pub replaced-same : (sequence : ℕ → List ℕ) (k : ℕ) (s : List ℕ) → s ≡ sequence k → replaced sequence k s ≡ sequence
replaced-same sequence k s q = fun_ext (λ j. by j (ℕ_discrete j k))
  where
    by : (j : ℕ) → Dec (j ≡ k) → replaced sequence k s j ≡ sequence j
    by j (yes e) = replaced-own sequence k s j e ∙ q ∙ ap sequence (sym e)
    by j (no n) = replaced-other sequence k s j n

-- What an insert of these cells from position p of list k on leaves of words with sound lists: words 0 to 7 as they were, the lists sound
-- with the plain sequence, every other list's words, the records of the list's old members, the records given, the identifiers of all
-- other cells, and blank records in nodes in no list, if they were.
pub record Chained (l : Layout) (w : List ℕ) (s : SoundLists l w) (k p : ℕ) (cells words w' : List ℕ) : Type 0 where
  pub size : length w' ≡ length w
  pub head : (a : ℕ) → a < head_words → get_or w' a 0 ≡ get_or w a 0
  pub lists : SoundLists l w'
  pub sequences : lists.sequence ≡ replaced s.sequence k (splice_at p cells (s.sequence k))
  pub others : (j : ℕ) → j < l.lists → (j ≡ k → ⊥) → SameCells l w w' (j ∷ s.sequence j)
  pub records : (x : ℕ) → x ∈ s.sequence k → record_in l w' x ≡ record_in l w x
  pub given : map (record_in l w') cells ≡ records_of (length cells) l.width words
  pub idents : (x : ℕ) → (x ∈ cells → ⊥) → get_or w' (ident_at l x) 0 ≡ get_or w (ident_at l x) 0
  pub wiped : Wiped l w s.sequence → Wiped l w' lists.sequence

chained-none : (l : Layout) (w : List ℕ) (s : SoundLists l w) (k p : ℕ) (words : List ℕ) → Chained l w s k p [] words w
unfolding records_of
chained-none l w s k p words =
    record {
      size = refl;
      head = λ a h. refl;
      lists = s;
      sequences = sym (replaced-same s.sequence k (splice_at p [] (s.sequence k)) (take-append-drop p (s.sequence k)));
      others = λ j h n c f m g. refl;
      records = λ x m. refl;
      given = refl;
      idents = λ x n. refl;
      wiped = λ h. h;
    }

-- the first cell's insert
module _ (l : Layout) (w : List ℕ) (exact : length w ≡ size_of l) (s : SoundLists l w) (k : ℕ) (hk : k < l.lists)
    (p : ℕ) (hp : p ≤ length (s.sequence k)) (c : ℕ) (cs : List ℕ) (free : FreeNodes l w (c ∷ cs))
    (words : List ℕ) (enough : suc (length cs) * l.width ≤ length words) where
  abbrev S : List ℕ
  S = s.sequence k

  abbrev record_words : List ℕ
  record_words = take l.width words

  abbrev pub First : List Write
  First = insert_writes l k (gap_site k p c S) record_words

  abbrev pub After : List ℕ
  After = run First w

  hc : Node l c
  hc = free.nodes.0

  zero-c : get_or w (ident_at l c) 0 ≡ 0
  zero-c = free.free.0

  pub size : length record_words ≡ tail_words l
  size = first-words l (length cs) words enough

  -- leaves sound lists ..
  pub after-lists : SoundLists l After
  after-lists = (I.insert-lists l w exact s k hk p hp c hc zero-c record_words size).0

  pub after-sequences : after-lists.sequence ≡ replaced s.sequence k (insert_at p c S)
  unfolding after-lists
  after-sequences = (I.insert-lists l w exact s k hk p hp c hc zero-c record_words size).1

  pub after-wiped : Wiped l w s.sequence → Wiped l After after-lists.sequence
  after-wiped h = subst (Wiped l After) (sym after-sequences) (I.insert-wiped l w exact s k hk p hp c hc zero-c record_words size h)

  pub after-own : after-lists.sequence k ≡ insert_at p c S
  after-own = ap (λ (f : ℕ → List ℕ). f k) after-sequences ∙ replaced-own s.sequence k (insert_at p c S) k refl

  pub after-theirs : (j : ℕ) → (j ≡ k → ⊥) → after-lists.sequence j ≡ s.sequence j
  after-theirs j n = ap (λ (f : ℕ → List ℕ). f j) after-sequences ∙ replaced-other s.sequence k (insert_at p c S) j n

  -- .. with room behind the cell, other cells' identifiers as they were, and the other nodes free
  pub after-position : p + 1 ≤ length (after-lists.sequence k)
  after-position = omega (arith, ap length after-own ∙ next-count p c S)

  pub after-ident : (x : ℕ) → (x ≡ c → ⊥) → get_or After (ident_at l x) 0 ≡ get_or w (ident_at l x) 0
  after-ident = I.keeps-ident l w exact s k hk p hp c hc zero-c record_words size

  pub after-exact : length After ≡ size_of l
  after-exact = length_run First w ∙ exact

  pub after-head : (a : ℕ) → a < head_words → get_or After a 0 ≡ get_or w a 0
  after-head a h = run_out First w a (insert-head l k (gap_site k p c S) record_words a h)

  pub after-others : (j : ℕ) → j < l.lists → (j ≡ k → ⊥) → SameCells l w After (j ∷ s.sequence j)
  after-others = I.insert-other l w exact s k hk p hp c hc zero-c record_words size

  pub after_free : FreeNodes l After cs
  after_free =
      record {
        nodes = free.nodes.1;
        different = free.different.1;
        free =
            in_all (λ x. get_or After (ident_at l x) 0 ≡ 0) cs
            (λ x m.
            after-ident x (λ e. free.different.0 (subst (λ (y : ℕ). y ∈ cs) e m))
            ∙ all_in (λ y. get_or w (ident_at l y) 0 ≡ 0) cs free.free.1 m);
      }

  -- the stores behind it are those of the other cells from the next position on
  pub chain-split : chain_at l k p S (c ∷ cs) words ≡ First ++ chain_at l k (p + 1) (after-lists.sequence k) cs (drop l.width words)
  chain-split =
      chain_first l k p S c cs words hp
      ∙ ap (λ (t : List ℕ). First ++ chain_at l k (p + 1) t cs (drop l.width words)) (sym after-own)

  pub chain-after
      : run (chain_at l k p S (c ∷ cs) words) w ≡ run (chain_at l k (p + 1) (after-lists.sequence k) cs (drop l.width words)) After
  chain-after =
      ap (λ (ps : List Write). run ps w) chain-split
      ∙ run-append First (chain_at l k (p + 1) (after-lists.sequence k) cs (drop l.width words)) w

  chained_more : (w' : List ℕ) → Chained l After after-lists k (p + 1) cs (drop l.width words) w' → Chained l w s k p (c ∷ cs) words w'
  unfolding records_of
  chained_more w' h =
      record {
        size = h.size ∙ length_run First w;
        head = λ a g. h.head a g ∙ after-head a g;
        lists = h.lists;
        sequences =
            h.sequences
            ∙ ap₂ (λ (f : ℕ → List ℕ) (t : List ℕ). replaced f k (splice_at (p + 1) cs t)) after-sequences after-own
            ∙ replaced-twice s.sequence k (insert_at p c S) (splice_at (p + 1) cs (insert_at p c S))
            ∙ ap (replaced s.sequence k) (splice-first p c cs S hp);
        others =
            λ j g n x f m b.
            h.others j g n x f (subst (λ (t : List ℕ). x ∈ (j ∷ t)) (sym (after-theirs j n)) m) b ∙ after-others j g n x f m b;
        records =
            λ x m.
            h.records x (subst (λ (t : List ℕ). x ∈ t) (sym after-own) (I.member-insert l w exact s k hk p hp c hc zero-c record_words size x m))
            ∙ I.insert-records l w exact s k hk p hp c hc zero-c record_words size x m;
        given =
            ap₂ (λ (r : List ℕ) (rs : List (List ℕ)). r ∷ rs)
            (h.records c (subst (λ (t : List ℕ). c ∈ t) (sym after-own) (I.new-insert l w exact s k hk p hp c hc zero-c record_words size))
            ∙ I.insert-given l w exact s k hk p hp c hc zero-c record_words size
            ∙ take-take l.width l.width words (omega arith))
            h.given;
        idents = λ x n. h.idents x (λ m. n (Memᴰ.tail m)) ∙ after-ident x (λ e. n (Memᴰ.head e));
        wiped = λ z. h.wiped (after-wiped z);
      }

pub chain-lists
    : (l : Layout) (w : List ℕ) → length w ≡ size_of l → (s : SoundLists l w) (k : ℕ) → k < l.lists → (p : ℕ) → p ≤ length (s.sequence k)
    → (cells : List ℕ) → FreeNodes l w cells → (words : List ℕ) → length cells * l.width ≤ length words
    → Chained l w s k p cells words (run (chain_at l k p (s.sequence k) cells words) w)
unfolding chain run
chain-lists l w exact s k hk p hp [] free words enough = chained-none l w s k p words
chain-lists l w exact s k hk p hp (c ∷ cs) free words enough =
    subst (Chained l w s k p (c ∷ cs) words) (sym (chain-after l w exact s k hk p hp c cs free words enough))
    (chained_more l w exact s k hk p hp c cs free words enough _
    (chain-lists l (After l w exact s k hk p hp c cs free words enough)
    (after-exact l w exact s k hk p hp c cs free words enough) (after-lists l w exact s k hk p hp c cs free words enough) k hk (p + 1)
    (after-position l w exact s k hk p hp c cs free words enough) cs (after_free l w exact s k hk p hp c cs free words enough)
    (drop l.width words) (other-words l (length cs) words enough)))

-- the list has room for them
pub chain-few
    : (l : Layout) (w : List ℕ) (s : SoundLists l w) (k : ℕ) → k < l.lists → (cells : List ℕ) → FreeNodes l w cells
    → length (s.sequence k) + length cells ≤ l.nodes
chain-few l w s k hk cells free =
    let own = s.lists k hk in
    omega (
      arith,
      length-append (s.sequence k) cells,
      nodes-few l (s.sequence k ++ cells) (all_append (Node l) (s.sequence k) cells own.nodes free.nodes)
          (different-append (s.sequence k) cells own.different free.different
          (λ x m q. I.free-out l w s x (all_in (λ c. get_or w (ident_at l c) 0 ≡ 0) cells free.free q) k hk m)),
    )

-- demand 2 of an insert of several records
pub several-inserted
    : (w : List ℕ) (s : Sound w) (k : ℕ) → k < (layout_of w).lists → (p : ℕ) → p ≤ length (s.ordered.lists.sequence k)
    → (cells : List ℕ) → FreeNodes (layout_of w) w cells → (words : List ℕ) → length cells * (layout_of w).width ≤ length words
    → InsertedAll w s k p cells words (run (chain_at (layout_of w) k p (s.ordered.lists.sequence k) cells words) w)
several-inserted w s k hk p hp cells free words enough =
    let w' = run (chain_at (layout_of w) k p (s.ordered.lists.sequence k) cells words) w in
    let h = chain-lists (layout_of w) w s.ordered.exact s.ordered.lists k hk p hp cells free words enough in
    let y = same-sound w w' s.ordered h.head h.size h.lists (h.wiped s.wiped) in
    record {
      edited =
          record {
            sound = y.0;
            layout = same_layout w w' h.head;
            sequences = y.1 ∙ h.sequences;
            others = h.others;
            records = λ x m _. h.records x m;
          };
      free = free;
      given = h.given;
    }
