-- An insert of several records takes the free cells that single inserts would find, each started behind the cell that the one before it
-- used.
use Prim.Native.Nat.{ℕ, suc, ◌+◌, ◌*◌, ◌<◌, ◌≤◌}
use mathlib.Core.Path.{◌≡◌, ap, ap₂, ◌∙◌, sym, subst}
use mathlib.Core.List.Memᴰ
use mathlib.Core.List.{List, [], ◌∷◌, ◌++◌}
use native.Mathlib.Omega.{arith}
use lib.ListN.{length, get_or, take, drop, length-append, take-append-drop}
use borrow.Author.Tests.{lt-ltb, le-leb, eq-eqb}
use Rattle.sequences.specs.Sequence.{◌∈◌, Different}
use Rattle.sequences.proofs.Members.{all_in, in_all, append-all, at_in, in-front}
use Rattle.sequences.proofs.Filter.{filter-different}
use Rattle.stores.specs.Stores.{run}
use Rattle.stores.proofs.Laws.{run_out, length_run}
use Rattle.std.specs.Prelude.{Ok}
use Rattle.layout.specs.declared.Layout.{Layout}
use Rattle.layout.specs.Words.{tail_words, Node, cell_count, size_of, opened, ident_at, ident_of, is_free, InRange, Unlisted, free}
use Rattle.layout.proofs.Laws.{tail-width, node-is, opened-open}
use Rattle.layout.proofs.Apart.{links-words}
use Rattle.lists.specs.Lists.{SoundLists, Wiped}
use Rattle.lists.specs.Decide.{view_of}
use Rattle.lists.proofs.Agree.{agrees-holds}
use Rattle.lists.proofs.Unique.{list-sequence, member-ident}
use Rattle.lists.proofs.Nodes.{list-used}
use Rattle.lists.proofs.Decided.{lists-sound}
use Rattle.lists.proofs.Same.{ident-word, ring-cell, same-opened}
use Rattle.requests.specs.declared.Site.{Site}
use Rattle.requests.specs.declared.Request.TheVariants.{Gap}
use Rattle.requests.specs.Requests.{next_cell, around, free_cells, gap_at, site_in, site_of, look_of, at_site}
use Rattle.requests.specs.Sites.{gap_site}
use Rattle.requests.proofs.Laws.{look_at}
use Rattle.requests.proofs.Turn.{around-nodes, around-different, free_in, free-first}
use Rattle.edits.specs.Edits.{insert_writes, chain}
use Rattle.edits.specs.Edited.{FreeNodes}
use Rattle.edits.proofs.Writes.{insert-spares, insert-ident}
use Rattle.requests.proofs.Search.{free-behind}
use Rattle.edits.proofs.Several as S

-- the free cells that a turn meets are different free nodes, and so are the first of them
pub turn-nodes : (l : Layout) (w : List ℕ) (c : ℕ) → Node l c → FreeNodes l w (free_cells (view_of l w).ident (around l c l.nodes))
turn-nodes l w c h =
    let cells = around l c l.nodes in
    let met = free_in (view_of l w).ident cells in
    record {
      nodes = in_all (Node l) _ (λ x m. all_in (Node l) cells (around-nodes l c l.nodes h) (met x m).0);
      different = filter-different (λ x. is_free ((view_of l w).ident x)) cells (around-different l c h);
      free = in_all (λ x. get_or w (ident_at l x) 0 ≡ 0) _ (λ x m. (met x m).1);
    }

pub front-nodes : (l : Layout) (w xs ys : List ℕ) → FreeNodes l w (xs ++ ys) → FreeNodes l w xs
front-nodes l w xs ys h =
    record {
      nodes = (append-all (Node l) xs ys h.nodes).0;
      different = front xs h.different;
      free = (append-all (λ x. get_or w (ident_at l x) 0 ≡ 0) xs ys h.free).0;
    }
  where
    front : (s : List ℕ) → Different (s ++ ys) → Different s
    front [] d = tt
    front (x ∷ s) d = ((λ m. d.0 (Memᴰ.append_left ys m)), front s d.1)

pub turn-free : (l : Layout) (w : List ℕ) (c r : ℕ) → Node l c
    → FreeNodes l w (take r (free_cells (view_of l w).ident (around l c l.nodes)))
turn-free l w c r h =
    let cells = free_cells (view_of l w).ident (around l c l.nodes) in
    front-nodes l w (take r cells) (drop r cells) (subst (FreeNodes l w) (sym (take-append-drop r cells)) (turn-nodes l w c h))

-- an insert into a gap between cells that are in use, at the first free cell of a turn
module _ (l : Layout) (range : InRange l) (w : List ℕ) (exact : length w ≡ size_of l) (k : ℕ) (hk : k < l.lists) (t : Site)
    (ha : t.before < cell_count l) (hb : t.after < cell_count l)
    (na : Unlisted (get_or w (ident_at l t.before) 0) → ⊥) (nb : Unlisted (get_or w (ident_at l t.after) 0) → ⊥)
    (words : List ℕ) (size : length words ≡ tail_words l)
    (c : ℕ) (hc : Node l c) (xs : List ℕ) (first : free_cells (view_of l w).ident (around l c l.nodes) ≡ t.cell ∷ xs) where
  abbrev Done : List ℕ
  Done = run (insert_writes l k t words) w

  found : FreeNodes l w (t.cell ∷ xs)
  found = subst (FreeNodes l w) first (turn-nodes l w c hc)

  ca : t.cell ≡ t.before → ⊥
  ca e = na (free (ap (λ (x : ℕ). get_or w (ident_at l x) 0) (sym e) ∙ found.free.0))

  cb : t.cell ≡ t.after → ⊥
  cb e = nb (free (ap (λ (x : ℕ). get_or w (ident_at l x) 0) (sym e) ∙ found.free.0))

  -- the cell is not free any more
  pub used-ident : get_or Done (ident_at l t.cell) 0 ≡ ident_of k
  used-ident = insert-ident l w exact k t hk ha hb found.nodes.0 ca cb words size

  pub kept-ident : (x : ℕ) → (x ≡ t.cell → ⊥) → get_or Done (ident_at l x) 0 ≡ get_or w (ident_at l x) 0
  kept-ident x n =
      ap (λ (a : ℕ). get_or Done a 0) (ident-word l x)
      ∙ run_out (insert_writes l k t words) w _
      (insert-spares l w exact k t hk ha hb found.nodes.0 ca cb words size x 0 (links-words l x 0 (omega arith)) n
      (λ _ e. omega arith) (λ _ e. omega arith) (λ _ e. omega arith))
      ∙ ap (λ (a : ℕ). get_or w a 0) (sym (ident-word l x))

  -- and the turn begun behind it meets the other free cells, in the same order
  pub insert-free : free_cells (view_of l Done).ident (around l (next_cell l t.cell) l.nodes) ≡ xs
  insert-free =
      free-behind l (view_of l w).ident (view_of l Done).ident c t.cell xs hc first (λ e. omega (arith, sym used-ident ∙ e)) kept-ident

  -- so the next gap, behind the cell, lies between cells that are in use
  pub next-before : Unlisted (get_or Done (ident_at l t.cell) 0) → ⊥
  next-before = list-used range hk used-ident

  pub next-after : Unlisted (get_or Done (ident_at l t.after) 0) → ⊥
  next-after z = nb (subst Unlisted (kept-ident t.after (λ e. cb (sym e))) z)

  -- and the stores of one record more are these, then those of the others from the words that they leave
  pub Chain-next
      : (ws : List ℕ) → words ≡ take l.width ws → (r : ℕ)
      → chain l k t.before t.after t.count (take (suc r) (free_cells (view_of l w).ident (around l c l.nodes))) ws
      ≡ insert_writes l k t words
      ++ chain l k t.cell t.after (t.count + 1) (take r (free_cells (view_of l Done).ident (around l (next_cell l t.cell) l.nodes))) (drop l.width ws)
  unfolding chain
  Chain-next ws q r =
      ap (λ (cells : List ℕ). chain l k t.before t.after t.count (take (suc r) cells) ws) first
      ∙ ap₂ (λ (record' cells : List ℕ). insert_writes l k t record' ++ chain l k t.cell t.after (t.count + 1) (take r cells) (drop l.width ws))
      (sym q) (sym insert-free)

next-node : (l : Layout) (c : ℕ) → Node l c → Node l (next_cell l c)
unfolding around
next-node l c h = (around-nodes l c 2 h).1.0

-- what a single insert asks of sound lists and records is answered with the gap and the first free cell
pub gap-look
    : (l : Layout) (w : List ℕ) → opened w ≡ Ok l → (s : SoundLists l w) → Wiped l w s.sequence → (k : ℕ) → k < l.lists
    → (p : ℕ) → p ≤ length (s.sequence k)
    → (c : ℕ) → Node l c → (m : ℕ) → m ≡ l.width → (x : ℕ) (xs : List ℕ) → free_cells (view_of l w).ident (around l c l.nodes) ≡ x ∷ xs
    → look_of w (Gap k p c m) ≡ at_site l (gap_site k p x (s.sequence k))
unfolding site_in gap_at
gap-look l w o s wiped k hk p hp c hc m q x xs e = sym (look_at w (Gap k p c m) o site)
  where
    site : site_of l w (Gap k p c m) ≡ Ok (gap_site k p x (s.sequence k))
    site =
        rw (
          lt-ltb k l.lists hk,
          lists-sound l (opened-open w l o).2 w s wiped,
          list-sequence l w k hk (s.sequence k) (s.lists k hk),
          le-leb p (length (s.sequence k)) hp,
          node-is l c hc,
          eq-eqb m l.width q,
          free-first (view_of l w).ident (around l c l.nodes) x xs e,
        )

-- the cells of a list are in use
pub ring-ident : (l : Layout) → InRange l → (w : List ℕ) (s : SoundLists l w) (k : ℕ) → k < l.lists → (x : ℕ) → x ∈ (k ∷ s.sequence k) → Unlisted (get_or w (ident_at l x) 0) → ⊥
ring-ident l r w s k h x (Memᴰ.head e) =
    list-used r h (ap (λ (y : ℕ). get_or w (ident_at l y) 0) e ∙ (agrees-holds l w k (s.sequence k) (s.lists k h).agrees).ident)
ring-ident l r w s k h x (Memᴰ.tail m) = list-used r h (member-ident l w k (s.sequence k) x (s.lists k h) m)

-- a gap of a list: its cells are cells of the store, and in use
module _ (l : Layout) (w : List ℕ) (s : SoundLists l w) (k : ℕ) (hk : k < l.lists) (p : ℕ) (hp : p ≤ length (s.sequence k)) where
  abbrev R : List ℕ
  R = s.sequence k

  pub before-in : get_or (k ∷ R) p 0 ∈ (k ∷ R)
  before-in = at_in (k ∷ R) p (omega arith)

  pub after-in : get_or (R ++ k ∷ []) p 0 ∈ (k ∷ R)
  after-in = in-front k R (at_in (R ++ k ∷ []) p (omega (arith, length-append R (k ∷ []))))

-- The single insert of the first record, as asked of sound lists and records: it gets the first free cell, its stores are the first segment of
-- the chain (chain-split), the records stay sound (after-wiped), and the next one, started behind that cell, meets the other free cells.
module _ (l : Layout) (w : List ℕ) (o : opened w ≡ Ok l) (exact : length w ≡ size_of l) (s : SoundLists l w) (k : ℕ) (hk : k < l.lists)
    (p : ℕ) (hp : p ≤ length (s.sequence k)) (c : ℕ) (hc : Node l c) (x : ℕ) (xs ys words : List ℕ)
    (e : free_cells (view_of l w).ident (around l c l.nodes) ≡ x ∷ xs ++ ys) (enough : suc (length xs) * l.width ≤ length words) where
  pub first-free-nodes : FreeNodes l w (x ∷ xs)
  first-free-nodes = front-nodes l w (x ∷ xs) ys (subst (FreeNodes l w) e (turn-nodes l w c hc))

  size : length (take l.width words) ≡ tail_words l
  size = S.first-words l (length xs) words enough

  -- the words that it leaves
  abbrev pub FirstDone : List ℕ
  FirstDone = run (insert_writes l k (gap_site k p x (s.sequence k)) (take l.width words)) w

  pub first-look : Wiped l w s.sequence → look_of w (Gap k p c (length (take l.width words))) ≡ at_site l (gap_site k p x (s.sequence k))
  first-look wiped = gap-look l w o s wiped k hk p hp c hc (length (take l.width words)) (size ∙ tail-width l) x (xs ++ ys) e

  pub next_start : Node l (next_cell l x)
  next_start = next-node l x first-free-nodes.nodes.0

  pub next-opened : opened FirstDone ≡ Ok l
  next-opened =
      same-opened w FirstDone (S.after-head l w exact s k hk p hp x xs first-free-nodes words enough)
      (length_run (insert_writes l k (gap_site k p x (s.sequence k)) (take l.width words)) w)
      ∙ o

  pub next-turn : free_cells (view_of l FirstDone).ident (around l (next_cell l x) l.nodes) ≡ xs ++ ys
  next-turn =
      let R = s.sequence k in
      let range = (opened-open w l o).2 in
      insert-free l range w exact k hk (gap_site k p x R) (ring-cell l w k hk R (s.lists k hk) _ (before-in l w s k hk p hp))
      (ring-cell l w k hk R (s.lists k hk) _ (after-in l w s k hk p hp)) (ring-ident l range w s k hk _ (before-in l w s k hk p hp))
      (ring-ident l range w s k hk _ (after-in l w s k hk p hp)) (take l.width words) size c hc (xs ++ ys) e
