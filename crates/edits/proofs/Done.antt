-- Demand 2: insert and delete, planned on a sound store and done, leave what plain sequences would; insert refuses with Full only
-- where no node is free.
use Prim.Native.Nat.{ℕ, ◌+◌, ◌<◌, ◌≤◌}
use mathlib.Core.Path.{◌≡◌, refl, ap, ◌∙◌, sym, subst}
use mathlib.Core.List.Memᴰ
use mathlib.Core.List.{List, [], ◌∷◌, ◌++◌}
use mathlib.Core.Bool.{Bool, true, false}
use native.Mathlib.Omega.{arith}
use lib.Dec.{eqb, leb, ltb}
use lib.ListN.{length, get_or, replicate}
use lib.Seq.{take_all}
use borrow.Author.Tests.{leb-true, ltb-true, eqb-true}
use Rattle.sequences.specs.Sequence.{◌∈◌, All}
use Rattle.sequences.proofs.Members.{all_in, all_append}
use Rattle.stores.specs.Stores.{Write, run, Spares, in_row}
use Rattle.stores.proofs.Laws.{run_out, length_run, row-spares}
use Rattle.std.specs.Prelude.{Option, Some, None, Result, Ok, Err}
use Rattle.layout.specs.declared.Refusal.{Refusal}
use Rattle.layout.specs.declared.Refusal.TheVariants.{NoList, Unsound, NoPosition, NoNode, RecordSize, Full}
use Rattle.layout.specs.declared.Layout.{Layout}
use Rattle.layout.specs.Words.{number_of, head_words, tail_words, ask, after_open, opened, is_node, Node, layout_of, node_at, record_at, ident_at, is_free}
use Rattle.layout.proofs.Laws.{tail-width, opened-open, is-node}
use Rattle.layout.proofs.Apart.{cell-behind}
use Rattle.lists.specs.Lists.{Sound, SoundLists, Ordered, Wiped, SameCells}
use Rattle.lists.specs.Decide.{view_of, sound_of, sequence_of}
use Rattle.lists.proofs.Unique.{list-sequence}
use Rattle.lists.proofs.Same.{same_layout, same-sound}
use Rattle.requests.specs.declared.Site.{Site}
use Rattle.requests.specs.declared.Request.{Request}
use Rattle.requests.specs.declared.Request.TheVariants.{Member, Gap, Mark}
use Rattle.requests.specs.declared.Look.{Look}
use Rattle.requests.specs.Sites.{gap_site}
use Rattle.requests.specs.Requests.{around, first_free, with_free, member_at, gap_at, site_in, site_of, with_site, look_of, FirstFree, at_site}
use Rattle.requests.proofs.Turn.{around-all, around-nodes}
use Rattle.edits.specs.Edits.{insert_links, insert_writes, delete_links, delete_writes}
use Rattle.edits.specs.Edited.{insert_at, delete_at, replaced, record_in, Edited, Inserted, Deleted}
use Rattle.requests.proofs.Search.{first-free, none_free}
use Rattle.edits.proofs.Insert.{insert-lists, insert-wiped, insert-other, insert-given, insert-records}
use Rattle.edits.proofs.Delete.{delete-lists, delete-wiped, delete-other, delete-free, delete-blank, delete-records}

-- a question that did not refuse was answered yes
pub yes-at : (b : Bool) (n : Refusal) (r : Result Site Refusal) (t : Site) → ask b (Err n) r ≡ Ok t → (b ≡ true) × (r ≡ Ok t)
yes-at true n r t e = (refl, e)
yes-at false n r t e = let z : ◌≡◌ {A = ℕ} 0 1 = cc in absurd (omega arith)

-- a look that is not refused: the layout, and the site of the request
pub looked : (w : List ℕ) (q : Request) (l : Layout) (t : Site) → look_of w q ≡ at_site l t → (opened w ≡ Ok l) × (site_of l w q ≡ Ok t)
unfolding look_of
looked w q l t = by (opened w) refl
  where
    sited : (m : Layout) (x : Result Site Refusal) → with_site x Err (λ u. at_site m u) ≡ at_site l t → (m ≡ l) × (x ≡ Ok t)
    sited m (Ok u) e =
        let q : ◌≡◌ {A = Look} (record { layout = m; site = u }) (record { layout = l; site = t }) = cc in
        (ap (λ (x : Look). x.layout) q, ap (λ (x : Look). Ok x.site) q)
    sited m (Err n) e = let z : ◌≡◌ {A = ℕ} 0 1 = cc in absurd (omega arith)

    by : (o : Result Layout Refusal) → opened w ≡ o → after_open o Err (λ m. with_site (site_of m w q) Err (λ u. at_site m u)) ≡ at_site l t
        → (opened w ≡ Ok l) × (site_of l w q ≡ Ok t)
    by (Err n) p e = let z : ◌≡◌ {A = ℕ} 0 1 = cc in absurd (omega arith)
    by (Ok m) p e =
        let r = sited m (site_of m w q) e in
        (p ∙ ap Ok r.0, subst (λ (a : Layout). site_of a w q ≡ Ok t) r.0 r.1)

-- what the questions of insert tell of the gap and the free cell
pub record GapFacts (l : Layout) (w : List ℕ) (k p c m : ℕ) (t : Site) : Type 0 where
  pub list : k < l.lists
  pub sound : sound_of l w ≡ true
  pub position : p ≤ length (sequence_of l w k)
  pub start : Node l c
  pub size : m ≡ tail_words l
  pub first : FirstFree (view_of l w).ident (around l c l.nodes) t.cell
  pub site : t ≡ record { before = get_or (k ∷ sequence_of l w k) p 0; cell = t.cell; after = get_or (sequence_of l w k ++ k ∷ []) p 0; count = length (sequence_of l w k) }

pub gap-facts : (l : Layout) (w : List ℕ) (k p c m : ℕ) (t : Site) → site_of l w (Gap k p c m) ≡ Ok t → GapFacts l w k p c m t
unfolding site_in gap_at
gap-facts l w k p c m t e =
    let s = sequence_of l w k in
    let a = yes-at (ltb k l.lists) _ _ t e in
    let b = yes-at (sound_of l w) _ _ t a.1 in
    let d = yes-at (leb p (length s)) _ _ t b.1 in
    let f = yes-at (is_node l c) _ _ t d.1 in
    let g = yes-at (eqb m l.width) _ _ t f.1 in
    let r = found (first_free (view_of l w).ident (around l c l.nodes)) refl g.1 in
    record {
      list = ltb-true k l.lists a.0;
      sound = b.0;
      position = leb-true p (length s) d.0;
      start = is-node l c f.0;
      size = eqb-true m l.width g.0 ∙ sym (tail-width l);
      first = r.0;
      site = r.1;
    }
  where
    at : ℕ → Site
    at i = record { before = get_or (k ∷ sequence_of l w k) p 0; cell = i; after = get_or (sequence_of l w k ++ k ∷ []) p 0; count = length (sequence_of l w k) }

    found : (x : Option ℕ) → first_free (view_of l w).ident (around l c l.nodes) ≡ x → with_free x (Err Full) (λ i. Ok (at i)) ≡ Ok t
        → FirstFree (view_of l w).ident (around l c l.nodes) t.cell × (t ≡ at t.cell)
    found None q e = let z : ◌≡◌ {A = ℕ} 0 1 = cc in absurd (omega arith)
    found (Some i) q e =
        let u : at i ≡ t = cc in
        let v : i ≡ t.cell = ap (λ (x : Site). x.cell) u in
        (first-free _ _ t.cell (q ∙ ap Some v), sym u ∙ ap at v)

-- what the questions of delete tell of the member
pub record MemberFacts (l : Layout) (w : List ℕ) (k p : ℕ) (t : Site) : Type 0 where
  pub list : k < l.lists
  pub sound : sound_of l w ≡ true
  pub position : p < length (sequence_of l w k)
  pub site : t ≡ record { before = get_or (k ∷ sequence_of l w k) p 0; cell = get_or (sequence_of l w k) p 0; after = get_or (sequence_of l w k ++ k ∷ []) (p + 1) 0; count = length (sequence_of l w k) }

pub member-facts : (l : Layout) (w : List ℕ) (k p : ℕ) (t : Site) → site_of l w (Member k p) ≡ Ok t → MemberFacts l w k p t
unfolding site_in member_at
member-facts l w k p t e =
    let s = sequence_of l w k in
    let a = yes-at (ltb k l.lists) _ _ t e in
    let b = yes-at (sound_of l w) _ _ t a.1 in
    let d = yes-at (ltb p (length s)) _ _ t b.1 in
    record { list = ltb-true k l.lists a.0; sound = b.0; position = ltb-true p (length s) d.0; site = cc d.1 }

-- what the questions of mark tell of the node
pub record MarkFacts (l : Layout) (w : List ℕ) (c : ℕ) (t : Site) : Type 0 where
  pub sound : sound_of l w ≡ true
  pub node : Node l c
  pub free : get_or w (ident_at l c) 0 ≡ 0
  pub cell : t.cell ≡ c

pub mark-facts : (l : Layout) (w : List ℕ) (c : ℕ) (t : Site) → site_of l w (Mark c) ≡ Ok t → MarkFacts l w c t
unfolding site_in
mark-facts l w c t e =
    let a = yes-at (sound_of l w) _ _ t e in
    let b = yes-at (is_node l c) _ _ t a.1 in
    let d = yes-at (is_free ((view_of l w).ident c)) _ (Ok (record { before = 0; cell = c; after = 0; count = 0 })) t b.1 in
    record { sound = a.0; node = is-node l c b.0; free = eqb-true _ 0 d.0; cell = cc d.1 }

-- no store goes to words 0 to 7
node-behind : (l : Layout) (i : ℕ) → head_words ≤ node_at l i
unfolding node_at
node-behind l i = omega arith

pub insert-head : (l : Layout) (k : ℕ) (t : Site) (words : List ℕ) (a : ℕ) → a < head_words → Spares a (insert_writes l k t words)
unfolding insert_writes insert_links
insert-head l k t words a h =
    all_append (λ (p : Write). a ≡ p.at → ⊥) (in_row (record_at l t.cell) words) (insert_links l k t)
    (row-spares a (record_at l t.cell) words (λ j g e. omega (arith, node-behind l t.cell))) (
      (λ e. omega (arith, cell-behind l t.cell)),
      (
        (λ e. omega (arith, cell-behind l t.cell)),
        (
          (λ e. omega (arith, cell-behind l t.cell)),
          (
            (λ e. omega arith),
            (
              (λ e. omega (arith, cell-behind l t.before)),
              ((λ e. omega (arith, cell-behind l t.after)), tt),
            ),
          ),
        ),
      ),
    )

pub delete-head : (l : Layout) (k : ℕ) (t : Site) (a : ℕ) → a < head_words → Spares a (delete_writes l k t)
unfolding delete_writes delete_links
delete-head l k t a h = (
  (λ e. omega (arith, cell-behind l t.after)),
  (
    (λ e. omega (arith, cell-behind l t.before)),
    (
      (λ e. omega arith),
      (
        (λ e. omega (arith, cell-behind l t.cell)),
        row-spares a (record_at l t.cell) (replicate (tail_words l) 0) (λ j g e. omega (arith, node-behind l t.cell)),
      ),
    ),
  ),
)

-- words whose lists and records are sound with list k replaced, as an edit of a sound store
edit
    : (w : List ℕ) (s : Sound w) (k : ℕ) (t : List ℕ) (ps : List Write) → ((a : ℕ) → a < head_words → Spares a ps)
    → ((x : SoundLists (layout_of w) (run ps w)) × (x.sequence ≡ replaced s.ordered.lists.sequence k t))
    → Wiped (layout_of w) (run ps w) (replaced s.ordered.lists.sequence k t)
    → ((j : ℕ) → j < (layout_of w).lists → (j ≡ k → ⊥) → SameCells (layout_of w) w (run ps w) (j ∷ s.ordered.lists.sequence j))
    → ((x : ℕ) → x ∈ s.ordered.lists.sequence k → x ∈ t → record_in (layout_of w) (run ps w) x ≡ record_in (layout_of w) w x)
    → Edited w s k t (run ps w)
edit w s k t ps head lists wiped others records =
    let h : (a : ℕ) → a < head_words → get_or (run ps w) a 0 ≡ get_or w a 0 = λ a g. run_out ps w a (head a g) in
    let y = same-sound w (run ps w) s.ordered h (length_run ps w) lists.0 (subst (Wiped (layout_of w) (run ps w)) (sym lists.1) wiped) in
    record {
      sound = y.0;
      layout = same_layout w (run ps w) h;
      sequences = y.1 ∙ lists.1;
      others = others;
      records = records;
    }

module _ (w : List ℕ) (s : Ordered w) (k p : ℕ) (l : Layout) (t : Site) where
  -- the layout is that of the words, and the sequence is the list's own
  pub its-layout : (q : Request) → look_of w q ≡ at_site l t → l ≡ layout_of w
  its-layout q e = (opened-open w l (looked w q l t e).0).0

  pub its-site : (q : Request) → look_of w q ≡ at_site l t → site_of (layout_of w) w q ≡ Ok t
  its-site q e = subst (λ (m : Layout). site_of m w q ≡ Ok t) (its-layout q e) (looked w q l t e).1

  pub its-sequence : k < (layout_of w).lists → sequence_of (layout_of w) w k ≡ s.lists.sequence k
  its-sequence h = list-sequence (layout_of w) w k h (s.lists.sequence k) (s.lists.lists k h)

module _ (w : List ℕ) (s : Sound w) (k p : ℕ) (l : Layout) (t : Site) where
  abbrev order : Ordered w
  order = s.ordered

  -- insert
  pub insert-done
      : (c : ℕ) (words : List ℕ) → look_of w (Gap k p c (length words)) ≡ at_site l t
      → Inserted w s k p t.cell words (run (insert_writes l k t words) w)
  insert-done c words e =
      let f = gap-facts (layout_of w) w k p c (length words) t (its-site w order k p l t (Gap k p c (length words)) e) in
      let q = its-sequence w order k p l t f.list in
      subst (λ (m : Layout). Inserted w s k p t.cell words (run (insert_writes m k t words) w)) (sym (its-layout w order k p l t (Gap k p c (length words)) e))
      (subst (λ (u : Site). Inserted w s k p t.cell words (run (insert_writes (layout_of w) k u words) w)) (sym (f.site ∙ ap (site-with t.cell) q))
      (inserted f.list (subst (λ (x : List ℕ). p ≤ length x) q f.position) f.start f.size f.first))
    where
      site-with : ℕ → List ℕ → Site
      site-with i x = record { before = get_or (k ∷ x) p 0; cell = i; after = get_or (x ++ k ∷ []) p 0; count = length x }

      inserted : k < (layout_of w).lists → p ≤ length (order.lists.sequence k) → Node (layout_of w) c → length words ≡ tail_words (layout_of w)
          → FirstFree (view_of (layout_of w) w).ident (around (layout_of w) c (layout_of w).nodes) t.cell
          → Inserted w s k p t.cell words (run (insert_writes (layout_of w) k (site-with t.cell (order.lists.sequence k)) words) w)
      inserted hk hp hc size f =
          let hi : Node (layout_of w) t.cell =
          all_in (Node (layout_of w)) (around (layout_of w) c (layout_of w).nodes) (around-nodes (layout_of w) c (layout_of w).nodes hc)
          (subst (λ (x : List ℕ). t.cell ∈ x) (sym f.order) (Memᴰ.append_right f.passed (Memᴰ.head refl))) in
          record {
            edited =
                edit w s k (insert_at p t.cell (order.lists.sequence k)) (insert_writes (layout_of w) k (site-with t.cell (order.lists.sequence k)) words)
                (insert-head (layout_of w) k (site-with t.cell (order.lists.sequence k)) words)
                (insert-lists (layout_of w) w order.exact order.lists k hk p hp t.cell hi f.free words size)
                (insert-wiped (layout_of w) w order.exact order.lists k hk p hp t.cell hi f.free words size s.wiped)
                (insert-other (layout_of w) w order.exact order.lists k hk p hp t.cell hi f.free words size)
                (λ x m _. insert-records (layout_of w) w order.exact order.lists k hk p hp t.cell hi f.free words size x m);
            free = f.free;
            given =
                insert-given (layout_of w) w order.exact order.lists k hk p hp t.cell hi f.free words size
                ∙ take_all (layout_of w).width words (omega (arith, tail-width (layout_of w)));
          }

  -- delete
  pub delete-done : look_of w (Member k p) ≡ at_site l t → Deleted w s k p (run (delete_writes l k t) w)
  delete-done e =
      let f = member-facts (layout_of w) w k p t (its-site w order k p l t (Member k p) e) in
      let q = its-sequence w order k p l t f.list in
      subst (λ (m : Layout). Deleted w s k p (run (delete_writes m k t) w)) (sym (its-layout w order k p l t (Member k p) e))
      (subst (λ (u : Site). Deleted w s k p (run (delete_writes (layout_of w) k u) w)) (sym (f.site ∙ ap site-with q))
      (deleted f.list (subst (λ (x : List ℕ). p < length x) q f.position)))
    where
      site-with : List ℕ → Site
      site-with x = record { before = get_or (k ∷ x) p 0; cell = get_or x p 0; after = get_or (x ++ k ∷ []) (p + 1) 0; count = length x }

      deleted : k < (layout_of w).lists → p < length (order.lists.sequence k)
          → Deleted w s k p (run (delete_writes (layout_of w) k (site-with (order.lists.sequence k))) w)
      deleted hk hp =
          record {
            edited =
                edit w s k (delete_at p (order.lists.sequence k)) (delete_writes (layout_of w) k (site-with (order.lists.sequence k)))
                (delete-head (layout_of w) k (site-with (order.lists.sequence k)))
                (delete-lists (layout_of w) w order.exact order.lists k hk p hp)
                (delete-wiped (layout_of w) w order.exact order.lists k hk p hp s.wiped)
                (delete-other (layout_of w) w order.exact order.lists k hk p hp)
                (λ x _ m. delete-records (layout_of w) w order.exact order.lists k hk p hp x m);
            free = delete-free (layout_of w) w order.exact order.lists k hk p hp;
            wiped = delete-blank (layout_of w) w order.exact order.lists k hk p hp;
          }

-- Full is answered only where no node is free
pub no-at : (b : Bool) (m n : Refusal) (r : Result Site Refusal) → (number_of m ≡ number_of n → ⊥) → ask b (Err m) r ≡ Err n → (b ≡ true) × (r ≡ Err n)
no-at true m n r d e = (refl, e)
no-at false m n r d e = let q : m ≡ n = cc in absurd (d (ap number_of q))

pub insert-full : (l : Layout) (w : List ℕ) (k p c m : ℕ) → site_of l w (Gap k p c m) ≡ Err Full → (x : ℕ) → Node l x → get_or w (ident_at l x) 0 ≡ 0 → ⊥
unfolding site_in gap_at
insert-full l w k p c m e x hx z =
    let a = no-at (ltb k l.lists) NoList Full _ (λ q. omega arith) e in
    let b = no-at (sound_of l w) Unsound Full _ (λ q. omega arith) a.1 in
    let d = no-at (leb p (length (sequence_of l w k))) NoPosition Full _ (λ q. omega arith) b.1 in
    let f = no-at (is_node l c) NoNode Full _ (λ q. omega arith) d.1 in
    let g = no-at (eqb m l.width) RecordSize Full _ (λ q. omega arith) f.1 in
    all_in (λ y. get_or w (ident_at l y) 0 ≡ 0 → ⊥) (around l c l.nodes)
    (full (first_free (view_of l w).ident (around l c l.nodes)) refl g.1) (around-all l c x (is-node l c f.0) hx) z
  where
    full : (y : Option ℕ) → first_free (view_of l w).ident (around l c l.nodes) ≡ y
        → with_free y (Err Full) (λ i. Ok (gap_site k p i (sequence_of l w k))) ≡ Err Full
        → All (λ y. get_or w (ident_at l y) 0 ≡ 0 → ⊥) (around l c l.nodes)
    full None q e = none_free (view_of l w).ident (around l c l.nodes) q
    full (Some i) q e = let z : ◌≡◌ {A = ℕ} 0 1 = cc in absurd (omega arith)
