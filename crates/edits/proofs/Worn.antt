-- No store of insert, delete or mark goes to a worn node.
use Prim.Native.Nat.{ℕ, ◌+◌, ◌*◌, ◌<◌, ◌≤◌}
use mathlib.Core.Path.{◌≡◌, refl, ap, ◌∙◌, sym, subst}
use mathlib.Core.List.Memᴰ
use mathlib.Core.List.{List, [], ◌∷◌, append-nil}
use native.Mathlib.Omega.{arith}
use native.Mathlib.Nat.{suc-mul}
use lib.ListN.{length, get_or, take, drop, length-drop}
use lib.Seq.{length-take-le, take_all}
use Rattle.sequences.specs.Sequence.{◌∈◌}
use Rattle.sequences.proofs.Members.{all_in, all_append, all_take}
use Rattle.stores.specs.Stores.{Write, Spares, applied}
use Rattle.stores.proofs.Laws.{run_out}
use Rattle.layout.specs.declared.Layout.{Layout}
use Rattle.layout.specs.Words.{tail_words, cell_count, Node, InRange, size_of, cell_at, cell_words, ident_at, worn_ident, Unlisted, free, worn}
use Rattle.layout.proofs.Laws.{tail-width}
use Rattle.layout.proofs.Apart.{cells-apart, links-words}
use Rattle.lists.specs.Lists.{SoundLists, SameCells, KeepsWorn}
use Rattle.lists.specs.Decide.{view_of}
use Rattle.lists.proofs.Same.{ident-word, ring-cell}
use Rattle.requests.specs.declared.Site.{Site}
use Rattle.requests.specs.Requests.{around, free_cells}
use Rattle.requests.specs.Sites.{gap_site}
use Rattle.edits.specs.Edits.{insert_writes, chain, chain_at, chain_from, delete_writes, mark_writes, Room}
use Rattle.edits.specs.Edited.{FreeNodes}
use Rattle.edits.proofs.Writes.{insert-spares, delete-spares}
use Rattle.edits.proofs.Several.{first-words}
use Rattle.edits.proofs.Delete as D
use Rattle.edits.proofs.OneByOne as O

-- stores that go to no word of a cell keep it, however many of them are made
pub spares-cell : (l : Layout) (w : List ℕ) (ps : List Write) (c : ℕ) → ((f : ℕ) → f < cell_words l c → Spares (cell_at l c + f) ps)
    → (m : ℕ) → SameCells l w (applied ps m w) (c ∷ [])
spares-cell l w ps c h m d f i g =
    run_out (take m ps) w (cell_at l d + f)
    (all_take (λ (p : Write). cell_at l d + f ≡ p.at → ⊥) ps m
    (subst (λ (x : ℕ). f < cell_words l x → Spares (cell_at l x + f) ps) (sym (Memᴰ.eq_of_singleton i)) (h f) g))

module _ (l : Layout) (w : List ℕ) where
  spares-keep : (ps : List Write) → ((c f : ℕ) → Node l c → get_or w (ident_at l c) 0 ≡ worn_ident → f < cell_words l c → Spares (cell_at l c + f) ps)
      → (m : ℕ) → KeepsWorn l w (applied ps m w)
  spares-keep ps h m c n z = spares-cell l w ps c (λ f g. h c f n z g) m

  -- a node that is worn is none that is free, and none in use; a cell in use is none of free nodes
  free-apart : {c x : ℕ} → get_or w (ident_at l c) 0 ≡ worn_ident → get_or w (ident_at l x) 0 ≡ 0 → c ≡ x → ⊥
  free-apart z e q = omega (arith, sym z ∙ ap (λ (y : ℕ). get_or w (ident_at l y) 0) q ∙ e)

  used-apart : {c x : ℕ} → get_or w (ident_at l c) 0 ≡ worn_ident → (Unlisted (get_or w (ident_at l x) 0) → ⊥) → c ≡ x → ⊥
  used-apart z n q = n (worn (ap (λ (y : ℕ). get_or w (ident_at l y) 0) (sym q) ∙ z))

  used-out : {x : ℕ} {cells : List ℕ} → FreeNodes l w cells → (Unlisted (get_or w (ident_at l x) 0) → ⊥) → x ∈ cells → ⊥
  used-out {x} {cells} nodes n m = n (free (all_in (λ c. get_or w (ident_at l c) 0 ≡ 0) cells nodes.free m))

  -- inserts of several records between cells in use, in free nodes
  module _ (exact : length w ≡ size_of l) (k : ℕ) (hk : k < l.lists) (b : ℕ) (hb : b < cell_count l) (nb : Unlisted (get_or w (ident_at l b) 0) → ⊥) where
    chain-spares : (c f : ℕ) → Node l c → get_or w (ident_at l c) 0 ≡ worn_ident → f < cell_words l c → (cells words : List ℕ) (a count : ℕ)
        → FreeNodes l w cells → length words ≡ length cells * l.width → a < cell_count l → (a ∈ cells → ⊥) → (b ∈ cells → ⊥) → (c ≡ a → ⊥)
        → Spares (cell_at l c + f) (chain l k a b count cells words)
    unfolding chain
    chain-spares c f n z g [] words a count nodes size ha na nbs ca = tt
    chain-spares c f n z g (x ∷ cs) words a count nodes size ha na nbs ca =
        let enough = suc-mul (length cs) l.width in
        let t : Site = record { before = a; cell = x; after = b; count = count } in
        let cx : c ≡ x → ⊥ = free-apart z nodes.free.0 in
        all_append (λ (p : Write). cell_at l c + f ≡ p.at → ⊥) (insert_writes l k t (take l.width words)) (chain l k x b (count + 1) cs (drop l.width words))
        (insert-spares l w exact k t hk ha hb nodes.nodes.0
        (λ e. na (Memᴰ.head (sym e))) (λ e. nbs (Memᴰ.head (sym e))) (take l.width words)
        (first-words l (length cs) words (omega (arith, size))) c f g cx
        (λ e _. omega (arith, n.low)) (λ e _. ca e) (λ e _. used-apart z nb e))
        (chain-spares c f n z g cs (drop l.width words) x (count + 1)
        (record { nodes = nodes.nodes.1; different = nodes.different.1; free = nodes.free.1 })
        (omega (arith, size, enough, length-drop l.width words)) nodes.nodes.0.high nodes.different.0
        (λ m. nbs (Memᴰ.tail m)) cx)

    -- worn nodes keep all their words, wherever they are cut
    kept : (a count : ℕ) → a < cell_count l → (Unlisted (get_or w (ident_at l a) 0) → ⊥) → (cells words : List ℕ) → FreeNodes l w cells
        → length words ≡ length cells * l.width → (m : ℕ) → KeepsWorn l w (applied (chain l k a b count cells words) m w)
    kept a count ha na cells words nodes size =
        spares-keep (chain l k a b count cells words)
        (λ c f n z g. chain-spares c f n z g cells words a count nodes size ha (used-out nodes na) (used-out nodes nb) (used-apart z na))

-- from a site with room for them
pub room-keeps : (l : Layout) (w : List ℕ) (k : ℕ) (t : Site) (r : ℕ) → Room l w k t r → (words : List ℕ) → r * l.width ≡ length words → (m : ℕ)
    → KeepsWorn l w (applied (chain_from l w k t r words) m w)
room-keeps l w k t r h words size =
    let all = free_cells (view_of l w).ident (around l t.cell l.nodes) in
    kept l w h.exact k h.placed.list t.after h.placed.after h.after t.before t.count h.placed.before h.before
    (take r all) words (O.turn-free l w t.cell r h.placed.cell) (sym size ∙ ap (λ (x : ℕ). x * l.width) (sym (length-take-le r all h.enough)))

-- at a position of a list of sound lists, and of one record there
module _ (l : Layout) (r : InRange l) (w : List ℕ) (exact : length w ≡ size_of l) (s : SoundLists l w) (k : ℕ) (hk : k < l.lists)
    (p : ℕ) (hp : p ≤ length (s.sequence k)) where
  abbrev S : List ℕ
  S = s.sequence k

  pub chain-keeps : (cells words : List ℕ) → FreeNodes l w cells → length words ≡ length cells * l.width → (m : ℕ)
      → KeepsWorn l w (applied (chain_at l k p S cells words) m w)
  chain-keeps =
      let before = O.before-in l w s k hk p hp in
      let after = O.after-in l w s k hk p hp in
      kept l w exact k hk _ (ring-cell l w k hk S (s.lists k hk) _ after) (O.ring-ident l r w s k hk _ after) _ (length S)
      (ring-cell l w k hk S (s.lists k hk) _ before) (O.ring-ident l r w s k hk _ before)

  pub gap-keeps : (i : ℕ) → Node l i → get_or w (ident_at l i) 0 ≡ 0 → (words : List ℕ) → length words ≡ tail_words l → (m : ℕ)
      → KeepsWorn l w (applied (insert_writes l k (gap_site k p i S) words) m w)
  unfolding chain
  gap-keeps i n e words size m =
      subst (λ (ps : List Write). KeepsWorn l w (applied ps m w))
      (append-nil (insert_writes l k (gap_site k p i S) (take l.width words))
      ∙ ap (insert_writes l k (gap_site k p i S)) (take_all l.width words (omega (arith, size, tail-width l))))
      (chain-keeps (i ∷ []) words (record { nodes = (n, tt); different = ((λ q. elim q [ ]), tt); free = (e, tt) })
      (omega (arith, size, tail-width l)) m)

-- a delete, and a mark of a free node
pub member-keeps : (l : Layout) → InRange l → (w : List ℕ) (exact : length w ≡ size_of l) (s : SoundLists l w) (k : ℕ) (hk : k < l.lists)
    (p : ℕ) (hp : p < length (s.sequence k)) (m : ℕ) → KeepsWorn l w (applied (delete_writes l k (D.site l w exact s k hk p hp)) m w)
member-keeps l r w exact s k hk p hp =
    spares-keep l w (delete_writes l k (D.site l w exact s k hk p hp))
    (λ c f n z g.
    let ring : (x : ℕ) → x ∈ (k ∷ s.sequence k) → c ≡ x → ⊥ = λ x i q. used-apart l w z (O.ring-ident l r w s k hk x i) q in
    let cell : c ≡ D.c l w exact s k hk p hp → ⊥ = λ q. ring _ (Memᴰ.tail (D.cell_in l w exact s k hk p hp)) q in
    delete-spares l w exact k (D.site l w exact s k hk p hp) hk (D.ha l w exact s k hk p hp) (D.hb l w exact s k hk p hp) (D.hc l w exact s k hk p hp)
    (D.ca l w exact s k hk p hp) (D.cb l w exact s k hk p hp) c f g
    (λ q _. cell q) (λ q _. cell q) (λ q _. ring k (Memᴰ.head refl) q)
    (λ q _. ring _ (D.before-in l w exact s k hk p hp) q) (λ q _. ring _ (D.after-in l w exact s k hk p hp) q))

pub mark-keeps : (l : Layout) (w : List ℕ) (x : ℕ) → get_or w (ident_at l x) 0 ≡ 0 → (m : ℕ) → KeepsWorn l w (applied (mark_writes l x) m w)
mark-keeps l w x e =
    spares-keep l w (mark_writes l x)
    (λ c f n z g. (
      (λ q.
          cells-apart l c x f 0 (free-apart l w z e) g (links-words l x 0 (omega arith))
          (q ∙ ident-word l x)),
      tt,
    ))
