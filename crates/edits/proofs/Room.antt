-- An insert of several records as a loop makes it: a site with room for all, one record's stores, and the next site with room for the others.
use Prim.Native.Nat.{ℕ, suc, ◌+◌, ◌*◌, ◌/◌, ◌-◌, ◌<◌, ◌≤◌}
use mathlib.Core.Path.{◌≡◌, refl, ap, ◌∙◌, sym, subst}
use mathlib.Core.List.{List, [], ◌∷◌, ◌++◌, append-nil}
use native.Mathlib.Omega.{arith}
use lib.ListN.{length, get_or, take, drop}
use borrow.Author.Tests.{eq-eqb}
use Rattle.stores.specs.Stores.{run}
use Rattle.stores.proofs.Laws.{length_run}
use Rattle.std.specs.Prelude.{Ok}
use Rattle.layout.specs.declared.Layout.{Layout}
use Rattle.layout.specs.Words.{tail_words, Node, Laid, ident_at}
use Rattle.lists.specs.Lists.{SoundLists}
use Rattle.lists.specs.Decide.{view_of}
use Rattle.lists.proofs.Unique.{list-sequence}
use Rattle.lists.proofs.Decided.{sound-lists}
use Rattle.lists.proofs.Same.{ring-cell}
use Rattle.requests.specs.declared.Site.{Site}
use Rattle.requests.specs.declared.Request.TheVariants.{Gaps}
use Rattle.requests.specs.Requests.{next_cell, around, first_free, free_cells, site_of, look_of, at_site}
use Rattle.requests.specs.Sites.{gap_site, next_site}
use Rattle.requests.proofs.Laws.{opened-laid}
use Rattle.requests.proofs.Sites.{next-found}
use Rattle.requests.proofs.Turn.{around-nodes, free-first, free-found}
use Rattle.edits.specs.Edits.{insert_writes, chain, chain_from, Room}
use Rattle.edits.specs.Edited.{FreeNodes}
use Rattle.edits.proofs.Done.{looked}
use Rattle.requests.proofs.Search.{free-from}
use Rattle.edits.proofs.Several.{chain-few}
use Rattle.edits.proofs.OneByOne as O
use Rattle.edits.proofs.Gaps.{GapsLooked, gaps-looked, gaps-cells, gaps-number, gaps-position}

-- one record into a site with room
module _ (l : Layout) (w : List ℕ) (k : ℕ) (t : Site) (r : ℕ) (h : Room l w k t (suc r)) (words : List ℕ) (size : length words ≡ tail_words l) where
  abbrev pub Done : List ℕ
  Done = run (insert_writes l k t words) w

  abbrev pub others : List ℕ
  others = drop 1 (free_cells (view_of l w).ident (around l t.cell l.nodes))

  -- its cell is the first of the free ones
  first : free_cells (view_of l w).ident (around l t.cell l.nodes) ≡ t.cell ∷ others
  unfolding around first_free
  first =
      let m : l.nodes ≡ suc (l.nodes - 1) = omega (arith, h.placed.in_range.some_nodes) in
      free-found (view_of l w).ident (around l t.cell l.nodes) t.cell
      (ap (λ (n : ℕ). first_free (view_of l w).ident (around l t.cell n)) m ∙ rw (eq-eqb (get_or w (ident_at l t.cell) 0) 0 h.free))

  node : Node l (next_cell l t.cell)
  unfolding around
  node = (around-nodes l t.cell 2 h.placed.cell).1.0

  left : free_cells (view_of l Done).ident (around l (next_cell l t.cell) l.nodes) ≡ others
  left =
      O.insert-free l h.placed.in_range w h.exact k h.placed.list t h.placed.before h.placed.after h.before h.after words size t.cell
      h.placed.cell others first

  -- the stores: those of this record, and of the others from where the search goes on
  pub room-parted : (ws : List ℕ) → words ≡ take l.width ws
      → chain_from l w k t (suc r) ws ≡ insert_writes l k t words ++ chain l k t.cell t.after (t.count + 1) (take r others) (drop l.width ws)
  room-parted ws q =
      O.Chain-next l h.placed.in_range w h.exact k h.placed.list t h.placed.before h.placed.after h.before h.after words size t.cell
      h.placed.cell others first ws q r
      ∙ ap (λ (cells : List ℕ). insert_writes l k t words ++ chain l k t.cell t.after (t.count + 1) (take r cells) (drop l.width ws)) left

  -- no other
  pub room-last : (ws : List ℕ) → words ≡ take l.width ws → r ≡ 0 → chain_from l w k t (suc r) ws ≡ insert_writes l k t words
  unfolding chain
  room-last ws q z =
      room-parted ws q
      ∙ ap (λ (n : ℕ). insert_writes l k t words ++ chain l k t.cell t.after (t.count + 1) (take n others) (drop l.width ws)) z
      ∙ append-nil (insert_writes l k t words)

  -- or one more at least: a free cell is found
  module _ (some : 0 < r) where
    abbrev x : ℕ
    x = get_or others 0 0

    abbrev next : Site
    next = next_site l (view_of l Done).ident t

    second : others ≡ x ∷ drop 1 others
    second = by others (omega (arith, h.enough, ap length first))
      where
        by : (s : List ℕ) → 0 < length s → s ≡ get_or s 0 0 ∷ drop 1 s
        by [] g = absurd (omega arith)
        by (y ∷ s) g = refl

    next-is : next ≡ record { before = t.cell; cell = x; after = t.after; count = t.count + 1 }
    next-is =
        sym (next-found l (view_of l Done).ident t
        (sym (free-first (view_of l Done).ident (around l (next_cell l t.cell) l.nodes) x (drop 1 others) (left ∙ second))))

    -- from which on the free cells are the others
    from : free_cells (view_of l Done).ident (around l x l.nodes) ≡ others
    from =
        free-from l (view_of l Done).ident (next_cell l t.cell) x (drop 1 others) node h.placed.in_range.some_nodes (left ∙ second)
        ∙ sym second

    pub room-more : (ws : List ℕ) → words ≡ take l.width ws
        → chain_from l w k t (suc r) ws ≡ insert_writes l k t words ++ chain_from l Done k next r (drop l.width ws)
    room-more ws q =
        room-parted ws q
        ∙ ap (λ (cells : List ℕ). insert_writes l k t words ++ chain l k t.cell t.after (t.count + 1) (take r cells) (drop l.width ws)) (sym from)
        ∙ ap (λ (u : Site). insert_writes l k t words ++ chain_from l Done k u r (drop l.width ws)) (sym next-is)

    pub room_next : Room l Done k next r
    room_next =
        subst (λ (u : Site). Room l Done k u r) (sym next-is)
        (record {
          placed =
              record {
                in_range = h.placed.in_range;
                list = h.placed.list;
                cell = found.nodes.0;
                before = h.placed.cell.high;
                after = h.placed.after;
                count = omega (arith, h.count);
              };
          exact = length_run (insert_writes l k t words) w ∙ h.exact;
          before =
              O.next-before l h.placed.in_range w h.exact k h.placed.list t h.placed.before h.placed.after h.before h.after words size t.cell
              h.placed.cell others first;
          after =
              O.next-after l h.placed.in_range w h.exact k h.placed.list t h.placed.before h.placed.after h.before h.after words size t.cell
              h.placed.cell others first;
          free = found.free.0;
          enough = omega (arith, h.enough, ap length first, ap length from);
          count = omega (arith, h.count);
        })
      where
        found : FreeNodes l Done (x ∷ drop 1 others)
        found = subst (FreeNodes l Done) (left ∙ second) (O.turn-nodes l Done (next_cell l t.cell) node)

-- the site that the questions of several records get has room for them
pub record SeveralRoom (l : Layout) (w : List ℕ) (k c m : ℕ) (t : Site) : Type 0 where
  pub room : Room l w k t (m / l.width)
  pub some : 0 < m
  pub whole : m ≡ m / l.width * l.width
  pub cells : free_cells (view_of l w).ident (around l c l.nodes) ≡ free_cells (view_of l w).ident (around l t.cell l.nodes)

pub several-room : (w : List ℕ) (k p c m : ℕ) (l : Layout) (t : Site) → look_of w (Gaps k p c m) ≡ at_site l t → SeveralRoom l w k c m t
several-room w k p c m l t e =
    record {
      room = subst (λ (u : Site). Room l w k u r) (sym site) there;
      some = g.facts.some;
      whole = g.facts.whole;
      cells = found ∙ sym from;
    }
  where
    sited : site_of l w (Gaps k p c m) ≡ Ok t
    sited = (looked w (Gaps k p c m) l t e).1

    laid : Laid l w
    laid = opened-laid w l (looked w (Gaps k p c m) l t e).0

    g : GapsLooked l w k p c m t
    g = gaps-looked l w k p c m t sited

    lists : SoundLists l w
    lists = sound-lists l laid.in_range w g.sound

    r : ℕ
    r = m / l.width

    S : List ℕ
    S = lists.sequence k

    position : p ≤ length S
    position = gaps-position l w lists k p c m t sited

    others : List ℕ
    others = drop 1 (free_cells (view_of l w).ident (around l c l.nodes))

    found : free_cells (view_of l w).ident (around l c l.nodes) ≡ t.cell ∷ others
    found = free-found (view_of l w).ident (around l c l.nodes) t.cell g.facts.first

    from : free_cells (view_of l w).ident (around l t.cell l.nodes) ≡ t.cell ∷ others
    from = free-from l (view_of l w).ident c t.cell others g.facts.start laid.in_range.some_nodes found

    free : FreeNodes l w (t.cell ∷ others)
    free = subst (FreeNodes l w) found (O.turn-nodes l w c g.facts.start)

    site : t ≡ gap_site k p t.cell S
    site = g.facts.site ∙ ap (gap_site k p t.cell) (list-sequence l w k g.list S (lists.lists k g.list))

    few : length S + r ≤ l.nodes
    few =
        omega (
          arith,
          chain-few l w lists k g.list _ (gaps-cells l w lists k p c m t sited),
          gaps-number l w lists k p c m t sited,
        )

    there : Room l w k (gap_site k p t.cell S) r
    there =
        record {
          placed =
              record {
                in_range = laid.in_range;
                list = g.list;
                cell = free.nodes.0;
                before = ring-cell l w k g.list S (lists.lists k g.list) _ (O.before-in l w lists k g.list p position);
                after = ring-cell l w k g.list S (lists.lists k g.list) _ (O.after-in l w lists k g.list p position);
                count = omega (arith, few);
              };
          exact = laid.exact;
          before = O.ring-ident l laid.in_range w lists k g.list _ (O.before-in l w lists k g.list p position);
          after = O.ring-ident l laid.in_range w lists k g.list _ (O.after-in l w lists k g.list p position);
          free = free.free.0;
          enough = omega (arith, g.facts.enough, ap length found, ap length from);
          count = few;
        }
