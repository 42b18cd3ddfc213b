-- What the questions of several records tell of a store whose lists are sound; and the stores go to words of the store.
use Prim.Native.Nat.{ℕ, suc, ◌+◌, ◌*◌, ◌/◌, ◌%◌, ◌<◌, ◌≤◌}
use mathlib.Core.Path.{◌≡◌, refl, ap, ◌∙◌, sym, subst}
use mathlib.Core.List.{List, [], ◌∷◌, ◌++◌}
use mathlib.Core.Bool.{Bool, true, false, ◌&&◌, and-eq-true_iff}
use native.Mathlib.Omega.{arith}
use native.Mathlib.Nat.{zero-mul, suc-mul, div-add-mod', le-div_iff_mul-le}
use lib.Dec.{eqb, leb, ltb}
use lib.ListN.{length, get_or, take, drop, length-append}
use lib.Seq.{length-take-le}
use borrow.Author.Tests.{ltb-true, leb-true, leb-false, eqb-true}
use Rattle.sequences.specs.Sequence.{All}
use Rattle.sequences.proofs.Members.{all_in, all_append, at_in, in-front}
use Rattle.sequences.proofs.Pigeonhole.{pigeonhole}
use Rattle.stores.specs.Stores.{Write}
use Rattle.std.specs.Prelude.{Option, Some, None, Ok, Err}
use Rattle.layout.specs.declared.Refusal.TheVariants.{NoList, Unsound, NoPosition, NoNode, RecordSize, Full}
use Rattle.layout.specs.declared.Layout.{Layout}
use Rattle.layout.specs.Words.{ask, InRange, Node, is_node, cell_count, size_of, ident_at}
use Rattle.layout.proofs.Laws.{is-node}
use Rattle.lists.specs.Lists.{SoundLists}
use Rattle.lists.specs.Decide.{view_of, sound_of, sequence_of}
use Rattle.lists.proofs.Unique.{list-sequence}
use Rattle.lists.proofs.Same.{ring-cell}
use Rattle.requests.specs.declared.Site.{Site}
use Rattle.requests.specs.declared.Request.TheVariants.{Gaps}
use Rattle.requests.specs.Requests.{around, first_free, with_free, free_cells, free_gap, gaps_at, site_in, site_of}
use Rattle.requests.specs.Sites.{gap_site}
use Rattle.requests.proofs.Sites.{GapsFacts, gaps-facts}
use Rattle.requests.proofs.Turn.{around-all, in-free, free-taken}
use Rattle.edits.specs.Edits.{insert_writes, chain, chain_at, Placed, free_from}
use Rattle.edits.specs.Edited.{FreeNodes}
use Rattle.requests.proofs.Search.{none_free}
use Rattle.edits.proofs.Done.{yes-at, no-at}
use Rattle.edits.proofs.Inside.{insert-inside}
use Rattle.edits.proofs.Several.{first-words, other-words, chain-few}
use Rattle.edits.proofs.OneByOne.{turn-free}

-- a site: questions 5 to 10 are answered yes
pub record GapsLooked (l : Layout) (w : List ℕ) (k p c m : ℕ) (t : Site) : Type 0 where
  pub list : k < l.lists
  pub sound : sound_of l w ≡ true
  pub facts : GapsFacts l (view_of l w).ident k p c m (sequence_of l w k) t

pub gaps-looked : (l : Layout) (w : List ℕ) (k p c m : ℕ) (t : Site) → site_of l w (Gaps k p c m) ≡ Ok t → GapsLooked l w k p c m t
unfolding site_in
gaps-looked l w k p c m t e =
    let a = yes-at (ltb k l.lists) _ _ t e in
    let b = yes-at (sound_of l w) _ _ t a.1 in
    record {
      list = ltb-true k l.lists a.0;
      sound = b.0;
      facts = gaps-facts l (view_of l w).ident k p c m (sequence_of l w k) t b.1;
    }

-- free nodes are no more than the free cells that a turn meets
pub free-most
    : (l : Layout) (w : List ℕ) (c : ℕ) → Node l c → (cells : List ℕ) → FreeNodes l w cells
    → length cells ≤ length (free_cells (view_of l w).ident (around l c l.nodes))
free-most l w c h cells f =
    pigeonhole cells (free_cells (view_of l w).ident (around l c l.nodes)) f.different
    (λ x m.
    in-free (view_of l w).ident (around l c l.nodes) x (around-all l c x h (all_in (Node l) cells f.nodes m))
    (all_in (λ y. get_or w (ident_at l y) 0 ≡ 0) cells f.free m))

-- Full is answered only where free nodes are fewer than the records
pub gaps-full
    : (l : Layout) (w : List ℕ) → 0 < l.width → (k p c m : ℕ) → site_of l w (Gaps k p c m) ≡ Err Full
    → (cells : List ℕ) → FreeNodes l w cells → length cells * l.width < m
unfolding site_in gaps_at
gaps-full l w some k p c m e cells f =
    let a = no-at (ltb k l.lists) NoList Full _ (λ q. omega arith) e in
    let b = no-at (sound_of l w) Unsound Full _ (λ q. omega arith) a.1 in
    let d = no-at (leb p (length (sequence_of l w k))) NoPosition Full _ (λ q. omega arith) b.1 in
    let g = no-at (is_node l c) NoNode Full _ (λ q. omega arith) d.1 in
    let h = no-at (ltb 0 m && eqb (m % l.width) 0) RecordSize Full _ (λ q. omega arith) g.1 in
    let q = (and-eq-true_iff (ltb 0 m) (eqb (m % l.width) 0)).0 h.0 in
    let few = free-most l w c (is-node l c g.0) cells f in
    fewer (ltb-true 0 m q.0) (eqb-true (m % l.width) 0 q.1) few (leb (m / l.width) number) refl h.1
  where
    number : ℕ
    number = length (free_cells (view_of l w).ident (around l c l.nodes))

    fewer : 0 < m → m % l.width ≡ 0 → length cells ≤ number → (b : Bool) → leb (m / l.width) number ≡ b
        → ask b (Err Full) (free_gap l (view_of l w).ident k p c (sequence_of l w k)) ≡ Err Full → length cells * l.width < m
    fewer pos z few false q x =
        omega (arith, suc-mul (length cells) l.width, (le-div_iff_mul-le {k = l.width} {x = suc (length cells)} {y = m} some).0 (omega (arith, leb-false (m / l.width) number q)))
    fewer pos z few true q x = none (first_free (view_of l w).ident (around l c l.nodes)) refl x
      where
        none : (y : Option ℕ) → first_free (view_of l w).ident (around l c l.nodes) ≡ y
            → with_free y (Err Full) (λ i. Ok (gap_site k p i (sequence_of l w k))) ≡ Err Full → length cells * l.width < m
        none (Some i) u x = let z : ◌≡◌ {A = ℕ} 0 1 = cc in absurd (omega arith)
        none None u x =
            let n : m / l.width ≡ 0 =
            omega (arith, leb-true (m / l.width) number q, ap length (free-taken (view_of l w).ident (around l c l.nodes) (none_free (view_of l w).ident (around l c l.nodes) u))) in
            absurd (omega (arith, z, div-add-mod' m l.width, ap (λ (i : ℕ). i * l.width) n, zero-mul l.width))

-- every store of several inserts goes to a word of the store
chain-inside
    : (l : Layout) → InRange l → (k : ℕ) → k < l.lists → (a b n : ℕ) → a < cell_count l → b < cell_count l
    → (cells words : List ℕ) → All (Node l) cells → n + length cells ≤ l.nodes → length cells * l.width ≤ length words
    → All (λ (q : Write). q.at < size_of l) (chain l k a b n cells words)
unfolding chain
chain-inside l r k hk a b n ha hb [] words nodes few enough = tt
chain-inside l r k hk a b n ha hb (c ∷ cs) words nodes few enough =
    let t : Site = record { before = a; cell = c; after = b; count = n } in
    let placed : Placed l k t = record { in_range = r; list = hk; cell = nodes.0; before = ha; after = hb; count = omega arith } in
    all_append (λ (q : Write). q.at < size_of l) (insert_writes l k t (take l.width words)) (chain l k c b (n + 1) cs (drop l.width words))
    (insert-inside placed (take l.width words) (first-words l (length cs) words enough))
    (chain-inside l r k hk c b (n + 1) nodes.0.high hb cs (drop l.width words) nodes.1 (omega arith) (other-words l (length cs) words enough))

-- at a site: the stores are those at position p of the list's sequence, in as many cells as there are records
module _ (l : Layout) (w : List ℕ) (s : SoundLists l w) (k p c m : ℕ) (t : Site) (e : site_of l w (Gaps k p c m) ≡ Ok t) where
  abbrev pub Cells : List ℕ
  Cells = free_from l w c (m / l.width)

  looked : GapsLooked l w k p c m t
  looked = gaps-looked l w k p c m t e

  sequence-is : sequence_of l w k ≡ s.sequence k
  sequence-is = list-sequence l w k looked.list (s.sequence k) (s.lists k looked.list)

  pub gaps-position : p ≤ length (s.sequence k)
  gaps-position = subst (λ (x : List ℕ). p ≤ length x) sequence-is looked.facts.position

  pub gaps-cells : FreeNodes l w Cells
  gaps-cells = turn-free l w c (m / l.width) looked.facts.start

  pub gaps-number : length Cells ≡ m / l.width
  gaps-number = length-take-le (m / l.width) _ looked.facts.enough

  pub gaps-words : m ≡ length Cells * l.width
  gaps-words = looked.facts.whole ∙ ap (λ (n : ℕ). n * l.width) (sym gaps-number)

  pub gaps-chain : (words : List ℕ) → chain l k t.before t.after t.count Cells words ≡ chain_at l k p (s.sequence k) Cells words
  gaps-chain words =
      ap (λ (u : Site). chain l k u.before u.after u.count Cells words) looked.facts.site
      ∙ ap (λ (x : List ℕ). chain_at l k p x Cells words) sequence-is

  pub gaps-inside : InRange l → (words : List ℕ) → length words ≡ m → All (λ (q : Write). q.at < size_of l) (chain_at l k p (s.sequence k) Cells words)
  gaps-inside r words q =
      let R = s.sequence k in
      let hk = looked.list in
      chain-inside l r k hk (get_or (k ∷ R) p 0) (get_or (R ++ k ∷ []) p 0) (length R)
      (ring-cell l w k hk R (s.lists k hk) _ (at_in (k ∷ R) p (omega (arith, gaps-position))))
      (ring-cell l w k hk R (s.lists k hk) _ (in-front k R (at_in (R ++ k ∷ []) p (omega (arith, gaps-position, length-append R (k ∷ []))))))
      Cells words gaps-cells.nodes (chain-few l w s k hk Cells gaps-cells) (omega (arith, gaps-words, q))
