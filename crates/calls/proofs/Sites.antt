-- The sites that a look gives lie in the store.
use Prim.Native.Nat.{ℕ, ◌+◌, ◌<◌, ◌≤◌}
use mathlib.Core.Path.{◌≡◌, refl, sym, subst}
use mathlib.Core.List.Memᴰ
use mathlib.Core.List.{List, [], ◌∷◌, ◌++◌}
use native.Mathlib.Omega.{arith}
use lib.ListN.{length, get_or, length-append}
use Rattle.sequences.specs.Sequence.{◌∈◌, All}
use Rattle.sequences.proofs.Members.{all_in, at_in, in-front}
use Rattle.sequences.proofs.Trail.{trail-inside, trail-length}
use Rattle.layout.specs.declared.Layout.{Layout}
use Rattle.layout.specs.Words.{tail_words, Node, Laid, is_node, cell_count, size_of, record_at}
use Rattle.layout.proofs.Laws.{opened-open, node-fits}
use Rattle.lists.specs.Decide.{view_of, sequence_of}
use Rattle.lists.proofs.Unique.{all-nodes}
use Rattle.requests.specs.declared.Site.{Site}
use Rattle.requests.specs.declared.Request.TheVariants.{Member, Gap, Mark}
use Rattle.requests.specs.Requests.{look_of, around, at_site}
use Rattle.requests.proofs.Laws.{opened-laid}
use Rattle.requests.proofs.Turn.{around-nodes}
use Rattle.edits.specs.Edits.{Placed}
use Rattle.edits.proofs.Done.{looked, member-facts, gap-facts, mark-facts}

module _ (l : Layout) (w : List ℕ) (k : ℕ) (h : k < l.lists) where
  abbrev S : List ℕ
  S = sequence_of l w k

  nodes : All (Node l) S
  nodes = all-nodes l S (trail-inside (view_of l w).forward (is_node l) l.nodes ((view_of l w).forward k))

  few : length S ≤ l.nodes
  few = trail-length (view_of l w).forward (is_node l) l.nodes ((view_of l w).forward k)

  cell : (x : ℕ) → x ∈ (k ∷ S) → x < cell_count l
  cell x (Memᴰ.head e) = omega arith
  cell x (Memᴰ.tail m) = (all_in (Node l) S nodes m).high

  before : (p : ℕ) → p ≤ length S → get_or (k ∷ S) p 0 < cell_count l
  before p q = cell (get_or (k ∷ S) p 0) (at_in (k ∷ S) p (omega arith))

  after : (p : ℕ) → p ≤ length S → get_or (S ++ k ∷ []) p 0 < cell_count l
  after p q = cell (get_or (S ++ k ∷ []) p 0) (in-front k S (at_in (S ++ k ∷ []) p (omega (arith, length-append S (k ∷ [])))))

module _ (w : List ℕ) (k p : ℕ) (l : Layout) (t : Site) where
  pub member-placed : look_of w (Member k p) ≡ at_site l t → Placed l k t × (length w ≡ size_of l)
  member-placed e =
      let a = looked w (Member k p) l t e in
      let o = opened-open w l a.0 in
      let f = member-facts l w k p t a.1 in
      let s = sequence_of l w k in (
        subst (Placed l k) (sym f.site) (record {
          in_range = o.2;
          list = f.list;
          cell = all_in (Node l) s (nodes l w k f.list) (at_in s p f.position);
          before = before l w k f.list p (omega (arith, f.position));
          after = after l w k f.list (p + 1) (omega (arith, f.position));
          count = few l w k f.list;
        }),
        o.3,
      )

  pub gap-placed : (c m : ℕ) → look_of w (Gap k p c m) ≡ at_site l t → Placed l k t × (m ≡ tail_words l) × (length w ≡ size_of l)
  gap-placed c m e =
      let a = looked w (Gap k p c m) l t e in
      let o = opened-open w l a.0 in
      let f = gap-facts l w k p c m t a.1 in (
        subst (Placed l k) (sym f.site) (record {
          in_range = o.2;
          list = f.list;
          cell =
              all_in (Node l) (around l c l.nodes) (around-nodes l c l.nodes f.start)
              (subst (λ (x : List ℕ). t.cell ∈ x) (sym f.first.order) (Memᴰ.append_right f.first.passed (Memᴰ.head refl)));
          before = before l w k f.list p f.position;
          after = after l w k f.list p f.position;
          count = few l w k f.list;
        }),
        f.size,
        o.3,
      )

-- the node to mark
pub mark-placed : (w : List ℕ) (c : ℕ) (l : Layout) (t : Site) → look_of w (Mark c) ≡ at_site l t → Laid l w × Node l t.cell
mark-placed w c l t e =
    let a = looked w (Mark c) l t e in
    let f = mark-facts l w c t a.1 in
    (opened-laid w l a.0, subst (Node l) (sym f.cell) f.node)

-- the record of a site lies in the store
pub record-fits : (l : Layout) (k : ℕ) (t : Site) → Placed l k t → record_at l t.cell + l.width ≤ size_of l
record-fits l k t p = omega (arith, node-fits l t.cell p.cell)
