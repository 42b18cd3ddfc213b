-- Demand 2 of delete: the lists after its stores are those that deleting from the plain sequence gives, and nothing is left of the record.
use Prim.Native.Nat.{ℕ, suc, ◌+◌, ◌-◌, ◌<◌, ◌≤◌}
use mathlib.Core.Path.{◌≡◌, refl, ap, ◌∙◌, sym, subst}
use mathlib.Core.List.Memᴰ
use mathlib.Core.List.{List, [], ◌∷◌, ◌++◌, append_assoc}
use mathlib.Core.Logic.{◌⊎◌, inl, inr, ⊎_elim}
use native.Mathlib.Omega.{arith}
use native.Mathlib.Numerals.{add-one}
use lib.ListN.{length, get_or, take, drop, length-append, get_or-append}
use lib.Seq.{split_at}
use Rattle.sequences.specs.Sequence.{◌∈◌, Different, Forward, Backward, last_of, first_of}
use Rattle.sequences.proofs.Members.{all_in, in_all, at_in, in-front, different-at, in-with, different-without, out-without}
use Rattle.sequences.proofs.Splice.{last-at, first-at, cut-forward, cut-backward}
use Rattle.stores.specs.Stores.{run, Spares}
use Rattle.stores.proofs.Laws.{run_out, length_run}
use Rattle.layout.specs.declared.Layout.{Layout}
use Rattle.layout.specs.Words.{cell_count, Node, size_of, cell_at, cell_words, ident_at, forward_at, back_at, ident_of}
use Rattle.layout.proofs.Apart.{links-words}
use Rattle.lists.specs.Lists.{IsList, SoundLists, Blank, Wiped, SameCells}
use Rattle.lists.specs.Decide.{view_of}
use Rattle.lists.proofs.Agree.{agrees-holds}
use Rattle.lists.proofs.Unique.{ring-list}
use Rattle.lists.proofs.Same.{ident-word, header-apart, ring-different, ring-different-behind, ring-cell, lists-apart}
use Rattle.requests.specs.declared.Site.{Site}
use Rattle.edits.specs.Edits.{delete_writes}
use Rattle.edits.specs.Edited.{delete_at, replaced, record_in}
use Rattle.edits.proofs.Edited.{out-cell, edited-lists, edited-wiped}
use Rattle.edits.proofs.Writes.{record_same, delete-spares, delete-after, delete-before, delete-count, delete-ident, delete-record}

module _ (l : Layout) (w : List ℕ) (exact : length w ≡ size_of l) (s : SoundLists l w) (k : ℕ) (hk : k < l.lists)
    (p : ℕ) (hp : p < length (s.sequence k)) where
  abbrev pub S : List ℕ
  S = s.sequence k

  abbrev pub c : ℕ
  c = get_or S p 0

  abbrev pub site : Site
  site = record { before = get_or (k ∷ S) p 0; cell = c; after = get_or (S ++ k ∷ []) (p + 1) 0; count = length S }

  abbrev pub Gone : List ℕ
  Gone = run (delete_writes l k site) w

  pub own : IsList l w k S
  own = s.lists k hk

  -- the cells before and after are cells of the list, and not the one deleted
  pub cell_in : c ∈ S
  cell_in = at_in S p hp

  pub before-in : get_or (k ∷ S) p 0 ∈ (k ∷ S)
  before-in = at_in (k ∷ S) p (omega arith)

  behind-length : length (S ++ k ∷ []) ≡ length S + 1
  behind-length = omega (arith, length-append S (k ∷ []))

  pub after-in : get_or (S ++ k ∷ []) (p + 1) 0 ∈ (k ∷ S)
  after-in = in-front k S (at_in (S ++ k ∷ []) (p + 1) (omega (arith, behind-length)))

  pub hc : Node l c
  hc = all_in (Node l) S own.nodes cell_in

  pub ha : get_or (k ∷ S) p 0 < cell_count l
  ha = ring-cell l w k hk S own (get_or (k ∷ S) p 0) before-in

  pub hb : get_or (S ++ k ∷ []) (p + 1) 0 < cell_count l
  hb = ring-cell l w k hk S own (get_or (S ++ k ∷ []) (p + 1) 0) after-in

  pub ca : c ≡ get_or (k ∷ S) p 0 → ⊥
  ca e = different-at (k ∷ S) p (suc p) (ring-different l w k hk S own) (omega arith) (omega arith) (sym e)

  pub cb : c ≡ get_or (S ++ k ∷ []) (p + 1) 0 → ⊥
  cb e =
      different-at (S ++ k ∷ []) p (p + 1) (ring-different-behind l w k hk S own) (omega arith) (omega (arith, behind-length))
      (get_or-append S (k ∷ []) 0 p hp ∙ e)

  -- a word stays, but for the cell's identifier and record, the count, the link before and the back link after
  pub delete-keeps
      : (x f : ℕ) → f < cell_words l x → (x ≡ c → f ≡ 0 → ⊥) → (x ≡ c → 3 ≤ f → ⊥) → (x ≡ k → f ≡ 3 → ⊥)
      → (x ≡ get_or (k ∷ S) p 0 → f ≡ 1 → ⊥) → (x ≡ get_or (S ++ k ∷ []) (p + 1) 0 → f ≡ 2 → ⊥)
      → get_or Gone (cell_at l x + f) 0 ≡ get_or w (cell_at l x + f) 0
  delete-keeps x f h nc nr nk na nb =
      run_out (delete_writes l k site) w (cell_at l x + f)
      (delete-spares l w exact k site hk ha hb hc ca cb x f h nc nr nk na nb)

  keeps-ident : (x : ℕ) → (x ≡ c → ⊥) → get_or Gone (ident_at l x) 0 ≡ get_or w (ident_at l x) 0
  keeps-ident x n =
      ap (λ (a : ℕ). get_or Gone a 0) (ident-word l x)
      ∙ delete-keeps x 0 (links-words l x 0 (omega arith)) (λ e _. n e) (λ _ e. omega arith) (λ _ e. omega arith) (λ _ e. omega arith) (λ _ e. omega arith)
      ∙ ap (λ (a : ℕ). get_or w a 0) (sym (ident-word l x))

  pub parted : S ≡ take p S ++ c ∷ drop (p + 1) S
  parted = split_at S p 0 hp ∙ ap (λ (n : ℕ). take p S ++ c ∷ drop n S) (sym (add-one p))

  pub before_last : get_or (k ∷ S) p 0 ≡ last_of k (take p S)
  before_last = last-at k S p (omega arith)

  pub after_first : get_or (S ++ k ∷ []) (p + 1) 0 ≡ first_of (drop (p + 1) S) k
  after_first = first-at S k (p + 1) (omega arith)

  -- a member of the new sequence is an old one, and not the one deleted
  pub delete-member : (x : ℕ) → x ∈ delete_at p S → x ∈ S
  delete-member x m = subst (λ (t : List ℕ). x ∈ t) (sym parted) (in-with (take p S) c (drop (p + 1) S) m)

  pub delete-out : c ∈ delete_at p S → ⊥
  delete-out = out-without (take p S) c (drop (p + 1) S) (subst Different parted own.different)

  -- an old member is in it, or was deleted
  pub member-delete : (x : ℕ) → x ∈ S → (x ∈ delete_at p S) ⊎ (x ≡ c)
  member-delete x m =
      ⊎_elim (λ q. inl (Memᴰ.append_left (drop (p + 1) S) q)) behind-it
      (Memᴰ.append_cases (take p S) (subst (λ (t : List ℕ). x ∈ t) parted m))
    where
      behind-it : x ∈ (c ∷ drop (p + 1) S) → (x ∈ delete_at p S) ⊎ (x ≡ c)
      behind-it (Memᴰ.head e) = inr e
      behind-it (Memᴰ.tail q) = inl (Memᴰ.append_right (take p S) q)

  ring_in : (x : ℕ) → x ∈ (k ∷ delete_at p S) → x ∈ (k ∷ S)
  ring_in x (Memᴰ.head e) = Memᴰ.head e
  ring_in x (Memᴰ.tail m) = Memᴰ.tail (delete-member x m)

  pub forwards : Forward (view_of l Gone).forward k (delete_at p S) k
  forwards =
      cut-forward c (drop (p + 1) S) k (view_of l w).forward (view_of l Gone).forward k (take p S) (
        (λ m. header-apart l k S hk own.nodes (delete-member k m)),
        different-without (take p S) c (drop (p + 1) S) (subst Different parted own.different),
      )
      (λ y m n.
      delete-keeps y 1 (links-words l y 1 (omega arith)) (λ _ e. omega arith) (λ _ e. omega arith) (λ _ e. omega arith) (λ e _. n (e ∙ before_last)) (λ _ e. omega arith))
      (ap (λ (a : ℕ). get_or Gone (forward_at l a) 0) (sym before_last) ∙ delete-before l w exact k site hk ha hb hc ca cb ∙ after_first)
      (subst (λ (t : List ℕ). Forward (view_of l w).forward k t k) parted (agrees-holds l w k S own.agrees).turn.forwards)

  behind : S ++ k ∷ [] ≡ take p S ++ c ∷ (drop (p + 1) S ++ k ∷ [])
  behind = ap (λ (t : List ℕ). t ++ k ∷ []) parted ∙ append_assoc (take p S) (c ∷ drop (p + 1) S) (k ∷ [])

  pub backs : Backward (view_of l Gone).back k (delete_at p S) k
  backs =
      cut-backward c (drop (p + 1) S) k (view_of l w).back (view_of l Gone).back k (take p S)
      (different-without (take p S) c (drop (p + 1) S ++ k ∷ []) (subst Different behind (ring-different-behind l w k hk S own)))
      (λ y m n.
      delete-keeps y 2 (links-words l y 2 (omega arith)) (λ _ e. omega arith) (λ _ e. omega arith) (λ _ e. omega arith) (λ _ e. omega arith) (λ e _. n (e ∙ after_first)))
      (ap (λ (a : ℕ). get_or Gone (back_at l a) 0) (sym after_first) ∙ delete-after l w exact k site hk ha hb hc ca cb ∙ before_last)
      (subst (λ (t : List ℕ). Backward (view_of l w).back k t k) parted (agrees-holds l w k S own.agrees).turn.backs)

  pub not-cell : (x : ℕ) → x ∈ (k ∷ delete_at p S) → x ≡ c → ⊥
  not-cell x (Memᴰ.head e) q = header-apart l k S hk own.nodes (subst (λ (y : ℕ). y ∈ S) (sym q ∙ e) cell_in)
  not-cell x (Memᴰ.tail m) q = delete-out (subst (λ (y : ℕ). y ∈ delete_at p S) q m)

  pub counted : length S - 1 ≡ length (delete_at p S)
  counted = omega (arith, length-append (take p S) (drop (p + 1) S), ap length parted ∙ length-append (take p S) (c ∷ drop (p + 1) S))

  -- list k has the new sequence
  pub delete-own : IsList l Gone k (delete_at p S)
  delete-own =
      let a = agrees-holds l w k S own.agrees in
      ring-list l Gone k hk (delete_at p S)
      (in_all (Node l) (delete_at p S) (λ x m. all_in (Node l) S own.nodes (delete-member x m))) (record {
        ident = keeps-ident k (not-cell k (Memᴰ.head refl)) ∙ a.ident;
        turn =
            record {
              idents =
                  in_all (λ y. get_or Gone (ident_at l y) 0 ≡ ident_of k) (delete_at p S)
                  (λ x m.
                  keeps-ident x (not-cell x (Memᴰ.tail m))
                  ∙ all_in (λ y. get_or w (ident_at l y) 0 ≡ ident_of k) S a.turn.idents (delete-member x m));
              forwards = forwards;
              backs = backs;
            };
        count = delete-count l w exact k site hk ha hb hc ca cb ∙ counted;
      })

  -- no store goes to a word of another list
  pub delete-spares-other : (j : ℕ) → j < l.lists → (j ≡ k → ⊥) → (x f : ℕ) → x ∈ (j ∷ s.sequence j) → f < cell_words l x
      → Spares (cell_at l x + f) (delete_writes l k site)
  delete-spares-other j h n x f m g =
      delete-spares l w exact k site hk ha hb hc ca cb x f g
      (λ e _. apart c (Memᴰ.tail cell_in) e)
      (λ e _. apart c (Memᴰ.tail cell_in) e)
      (λ e _. apart k (Memᴰ.head refl) e)
      (λ e _. apart (get_or (k ∷ S) p 0) before-in e)
      (λ e _. apart (get_or (S ++ k ∷ []) (p + 1) 0) after-in e)
    where
      apart : (y : ℕ) → y ∈ (k ∷ S) → x ≡ y → ⊥
      apart y q e = lists-apart l w j k (s.sequence j) S h hk n (s.lists j h) own x y m q e

  -- every other list is as it was, word for word
  pub delete-other : (j : ℕ) → j < l.lists → (j ≡ k → ⊥) → SameCells l w Gone (j ∷ s.sequence j)
  delete-other j h n x f m g = run_out (delete_writes l k site) w (cell_at l x + f) (delete-spares-other j h n x f m g)

  -- a node that the list has not and had not keeps its words
  pub delete-outside : (x : ℕ) → Node l x → (x ∈ delete_at p S → ⊥) → (x ∈ S → ⊥) → (f : ℕ) → f < cell_words l x
      → get_or Gone (cell_at l x + f) 0 ≡ get_or w (cell_at l x + f) 0
  delete-outside x n _ o f g =
      delete-keeps x f g (λ e _. out-cell hk n o c (Memᴰ.tail cell_in) e) (λ e _. out-cell hk n o c (Memᴰ.tail cell_in) e)
      (λ e _. out-cell hk n o k (Memᴰ.head refl) e) (λ e _. out-cell hk n o _ before-in e) (λ e _. out-cell hk n o _ after-in e)

  -- the cell is free, and nothing is left of its record
  pub delete-free : get_or Gone (ident_at l c) 0 ≡ 0
  delete-free = delete-ident l w exact k site hk ha hb hc ca cb

  pub delete-blank : Blank l Gone c
  delete-blank = delete-record l w exact k site hk ha hb hc ca cb

  -- the words are sound, with the new sequences, and so are the records
  pub delete-lists : (x : SoundLists l Gone) × (x.sequence ≡ replaced s.sequence k (delete_at p S))
  delete-lists =
      edited-lists l w s k hk Gone (delete_at p S) delete-outside delete-own delete-other
      (λ x m. ⊎_elim inl (λ e. inr (ap (λ (y : ℕ). get_or Gone (ident_at l y) 0) e ∙ delete-free)) (member-delete x m))

  pub delete-wiped : Wiped l w s.sequence → Wiped l Gone (replaced s.sequence k (delete_at p S))
  delete-wiped h =
      edited-wiped l w s k hk Gone (delete_at p S) delete-outside h
      (λ x m. ⊎_elim inl (λ e. inr (subst (Blank l Gone) (sym e) delete-blank)) (member-delete x m))

  -- and no record of another member changes
  pub delete-records : (x : ℕ) → x ∈ delete_at p S → record_in l Gone x ≡ record_in l w x
  delete-records x m =
      let q = delete-member x m in
      record_same l w Gone x (all_in (Node l) S own.nodes q) (length_run (delete_writes l k site) w)
      (λ j g.
      delete-keeps x (3 + j) g (λ _ e. omega arith) (λ e _. not-cell x (Memᴰ.tail m) e)
      (λ e _. header-apart l k S hk own.nodes (subst (λ (y : ℕ). y ∈ S) e q))
      (λ _ e. omega arith) (λ _ e. omega arith))
