-- Demand 2 of insert: the lists after its stores are those that inserting into the plain sequence gives.
use Prim.Native.Nat.{ℕ, ◌+◌, ◌<◌, ◌≤◌}
use mathlib.Core.Path.{◌≡◌, refl, ap, ◌∙◌, sym, subst}
use mathlib.Core.List.Memᴰ
use mathlib.Core.List.{List, [], ◌∷◌, ◌++◌, append_assoc}
use mathlib.Core.Logic.{◌⊎◌, inl, inr, ⊎_elim}
use native.Mathlib.Omega.{arith}
use lib.ListN.{length, get_or, take, drop, take-append-drop, length-append}
use Rattle.sequences.specs.Sequence.{◌∈◌, All, Different, Forward, Backward, last_of, first_of}
use Rattle.sequences.proofs.Members.{all_in, in_all, at_in, in-front}
use Rattle.sequences.proofs.Splice.{last-at, first-at, splice-forward, splice-backward}
use Rattle.stores.specs.Stores.{run, Spares}
use Rattle.stores.proofs.Laws.{run_out, length_run}
use Rattle.layout.specs.declared.Layout.{Layout}
use Rattle.layout.specs.Words.{tail_words, cell_count, Node, size_of, cell_at, cell_words, ident_at, forward_at, back_at, ident_of}
use Rattle.layout.proofs.Apart.{links-words}
use Rattle.lists.specs.Lists.{IsList, SoundLists, Wiped, SameCells}
use Rattle.lists.specs.Decide.{view_of}
use Rattle.lists.proofs.Agree.{agrees-holds}
use Rattle.lists.proofs.Unique.{member-ident, ring-list}
use Rattle.lists.proofs.Same.{ident-word, header-apart, ring-different, ring-different-behind, ring-cell, lists-apart}
use Rattle.requests.specs.declared.Site.{Site}
use Rattle.edits.specs.Edits.{insert_writes}
use Rattle.edits.specs.Edited.{insert_at, replaced, record_in}
use Rattle.edits.proofs.Edited.{in-splice, out-cell, edited-lists, edited-wiped}
use Rattle.edits.proofs.Writes.{record_same, insert-spares, insert-forward, insert-back, insert-ident, insert-count, insert-before, insert-after, insert-record}

-- a node with identifier 0 is in no list
pub free-out : (l : Layout) (w : List ℕ) (s : SoundLists l w) (i : ℕ) → get_or w (ident_at l i) 0 ≡ 0
    → (j : ℕ) → j < l.lists → i ∈ s.sequence j → ⊥
free-out l w s i e j h m = omega (arith, sym (member-ident l w j (s.sequence j) i (s.lists j h) m) ∙ e)

module _ (l : Layout) (w : List ℕ) (exact : length w ≡ size_of l) (s : SoundLists l w) (k : ℕ) (hk : k < l.lists)
    (p : ℕ) (hp : p ≤ length (s.sequence k)) (i : ℕ) (hi : Node l i) (free : get_or w (ident_at l i) 0 ≡ 0)
    (words : List ℕ) (size : length words ≡ tail_words l) where
  abbrev pub S : List ℕ
  S = s.sequence k

  abbrev pub site : Site
  site = record { before = get_or (k ∷ S) p 0; cell = i; after = get_or (S ++ k ∷ []) p 0; count = length S }

  abbrev pub Done : List ℕ
  Done = run (insert_writes l k site words) w

  pub own : IsList l w k S
  own = s.lists k hk

  -- the cells before and after are cells of the list, and not the new one
  pub before-in : get_or (k ∷ S) p 0 ∈ (k ∷ S)
  before-in = at_in (k ∷ S) p (omega arith)

  pub after-in : get_or (S ++ k ∷ []) p 0 ∈ (k ∷ S)
  after-in = in-front k S (at_in (S ++ k ∷ []) p (omega (arith, length-append S (k ∷ []))))

  pub fresh : (j : ℕ) → j < l.lists → (x : ℕ) → x ∈ (j ∷ s.sequence j) → x ≡ i → ⊥
  fresh j h x (Memᴰ.head e) q = omega (arith, hi.low)
  fresh j h x (Memᴰ.tail m) q = free-out l w s i free j h (subst (λ (y : ℕ). y ∈ s.sequence j) q m)

  pub ha : get_or (k ∷ S) p 0 < cell_count l
  ha = ring-cell l w k hk S own (get_or (k ∷ S) p 0) before-in

  pub hb : get_or (S ++ k ∷ []) p 0 < cell_count l
  hb = ring-cell l w k hk S own (get_or (S ++ k ∷ []) p 0) after-in

  pub ca : i ≡ get_or (k ∷ S) p 0 → ⊥
  ca e = fresh k hk (get_or (k ∷ S) p 0) before-in (sym e)

  pub cb : i ≡ get_or (S ++ k ∷ []) p 0 → ⊥
  cb e = fresh k hk (get_or (S ++ k ∷ []) p 0) after-in (sym e)

  -- a word of another cell than the new one stays, but for the count, the link before and the back link after
  pub insert-keeps
      : (x f : ℕ) → f < cell_words l x → (x ≡ i → ⊥) → (x ≡ k → f ≡ 3 → ⊥)
      → (x ≡ get_or (k ∷ S) p 0 → f ≡ 1 → ⊥) → (x ≡ get_or (S ++ k ∷ []) p 0 → f ≡ 2 → ⊥)
      → get_or Done (cell_at l x + f) 0 ≡ get_or w (cell_at l x + f) 0
  insert-keeps x f h nc nk na nb =
      run_out (insert_writes l k site words) w (cell_at l x + f)
      (insert-spares l w exact k site hk ha hb hi ca cb words size x f h nc nk na nb)

  pub keeps-ident : (x : ℕ) → (x ≡ i → ⊥) → get_or Done (ident_at l x) 0 ≡ get_or w (ident_at l x) 0
  keeps-ident x n =
      ap (λ (a : ℕ). get_or Done a 0) (ident-word l x)
      ∙ insert-keeps x 0 (links-words l x 0 (omega arith)) n (λ _ e. omega arith) (λ _ e. omega arith) (λ _ e. omega arith)
      ∙ ap (λ (a : ℕ). get_or w a 0) (sym (ident-word l x))

  pub parted : take p S ++ drop p S ≡ S
  parted = take-append-drop p S

  pub before_last : get_or (k ∷ S) p 0 ≡ last_of k (take p S)
  before_last = last-at k S p hp

  pub after_first : get_or (S ++ k ∷ []) p 0 ≡ first_of (drop p S) k
  after_first = first-at S k p hp

  pub forwards : Forward (view_of l Done).forward k (insert_at p i S) k
  forwards =
      splice-forward i (drop p S) k (view_of l w).forward (view_of l Done).forward k (take p S)
      (subst (λ (t : List ℕ). Different (k ∷ t)) (sym parted) (ring-different l w k hk S own))
      (λ y m n.
      insert-keeps y 1 (links-words l y 1 (omega arith))
      (fresh k hk y (subst (λ (t : List ℕ). y ∈ (k ∷ t)) parted m)) (λ _ e. omega arith) (λ e _. n (e ∙ before_last)) (λ _ e. omega arith))
      (ap (λ (a : ℕ). get_or Done (forward_at l a) 0) (sym before_last) ∙ insert-before l w exact k site hk ha hb hi ca cb words size)
      (insert-forward l w exact k site hk ha hb hi ca cb words size ∙ after_first)
      (subst (λ (t : List ℕ). Forward (view_of l w).forward k t k) (sym parted) (agrees-holds l w k S own.agrees).turn.forwards)

  behind : take p S ++ (drop p S ++ k ∷ []) ≡ S ++ k ∷ []
  behind = sym (append_assoc (take p S) (drop p S) (k ∷ [])) ∙ ap (λ (t : List ℕ). t ++ k ∷ []) parted

  pub backs : Backward (view_of l Done).back k (insert_at p i S) k
  backs =
      splice-backward i (drop p S) k (view_of l w).back (view_of l Done).back k (take p S)
      (subst Different (sym behind) (ring-different-behind l w k hk S own))
      (λ y m n.
      insert-keeps y 2 (links-words l y 2 (omega arith))
      (fresh k hk y (in-front k S (subst (λ (t : List ℕ). y ∈ t) behind m))) (λ _ e. omega arith) (λ _ e. omega arith) (λ e _. n (e ∙ after_first)))
      (ap (λ (a : ℕ). get_or Done (back_at l a) 0) (sym after_first) ∙ insert-after l w exact k site hk ha hb hi ca cb words size)
      (insert-back l w exact k site hk ha hb hi ca cb words size ∙ before_last)
      (subst (λ (t : List ℕ). Backward (view_of l w).back k t k) (sym parted) (agrees-holds l w k S own.agrees).turn.backs)

  -- a member of the new sequence: the new cell or an old one
  pub insert-member : (x : ℕ) → x ∈ insert_at p i S → (x ≡ i) ⊎ (x ∈ S)
  insert-member x m = ⊎_elim (λ q. inr (subst (λ (t : List ℕ). x ∈ t) parted (Memᴰ.append_left (drop p S) q))) behind-it (Memᴰ.append_cases (take p S) m)
    where
      behind-it : x ∈ (i ∷ drop p S) → (x ≡ i) ⊎ (x ∈ S)
      behind-it (Memᴰ.head e) = inl e
      behind-it (Memᴰ.tail q) = inr (subst (λ (t : List ℕ). x ∈ t) parted (Memᴰ.append_right (take p S) q))

  pub member-insert : (x : ℕ) → x ∈ S → x ∈ insert_at p i S
  member-insert = in-splice p (i ∷ []) S

  pub new-insert : i ∈ insert_at p i S
  new-insert = Memᴰ.append_right (take p S) (Memᴰ.head refl)

  all_insert : (P : ℕ → Type 0) → All P S → P i → All P (insert_at p i S)
  all_insert P h q = in_all P (insert_at p i S) (λ x m. ⊎_elim (λ e. subst P (sym e) q) (λ n. all_in P S h n) (insert-member x m))

  pub counted : length (insert_at p i S) ≡ length S + 1
  counted = omega (arith, length-append (take p S) (i ∷ drop p S), sym (length-append (take p S) (drop p S)) ∙ ap length parted)

  -- list k has the new sequence
  pub insert-own : IsList l Done k (insert_at p i S)
  insert-own =
      let a = agrees-holds l w k S own.agrees in
      ring-list l Done k hk (insert_at p i S) (all_insert (Node l) own.nodes hi) (record {
        ident = keeps-ident k (fresh k hk k (Memᴰ.head refl)) ∙ a.ident;
        turn =
            record {
              idents =
                  all_insert (λ c. get_or Done (ident_at l c) 0 ≡ ident_of k)
                  (in_all (λ c. get_or Done (ident_at l c) 0 ≡ ident_of k) S
                  (λ x m. keeps-ident x (fresh k hk x (Memᴰ.tail m)) ∙ all_in (λ c. get_or w (ident_at l c) 0 ≡ ident_of k) S a.turn.idents m))
                  (insert-ident l w exact k site hk ha hb hi ca cb words size);
              forwards = forwards;
              backs = backs;
            };
        count = insert-count l w exact k site hk ha hb hi ca cb words size ∙ sym counted;
      })

  -- no store goes to a word of another list
  pub insert-spares-other : (j : ℕ) → j < l.lists → (j ≡ k → ⊥) → (x f : ℕ) → x ∈ (j ∷ s.sequence j) → f < cell_words l x
      → Spares (cell_at l x + f) (insert_writes l k site words)
  insert-spares-other j h n x f m g =
      insert-spares l w exact k site hk ha hb hi ca cb words size x f g (fresh j h x m)
      (λ e _. apart k (Memᴰ.head refl) e)
      (λ e _. apart (get_or (k ∷ S) p 0) before-in e)
      (λ e _. apart (get_or (S ++ k ∷ []) p 0) after-in e)
    where
      apart : (y : ℕ) → y ∈ (k ∷ S) → x ≡ y → ⊥
      apart y q e = lists-apart l w j k (s.sequence j) S h hk n (s.lists j h) own x y m q e

  -- every other list is as it was, word for word
  pub insert-other : (j : ℕ) → j < l.lists → (j ≡ k → ⊥) → SameCells l w Done (j ∷ s.sequence j)
  insert-other j h n x f m g = run_out (insert_writes l k site words) w (cell_at l x + f) (insert-spares-other j h n x f m g)

  -- a node that the list has not and had not keeps its words
  pub insert-outside : (x : ℕ) → Node l x → (x ∈ insert_at p i S → ⊥) → (x ∈ S → ⊥) → (f : ℕ) → f < cell_words l x
      → get_or Done (cell_at l x + f) 0 ≡ get_or w (cell_at l x + f) 0
  insert-outside x n m o f g =
      insert-keeps x f g (λ e. m (subst (λ (c : ℕ). c ∈ insert_at p i S) (sym e) new-insert))
      (λ e _. out-cell hk n o k (Memᴰ.head refl) e) (λ e _. out-cell hk n o _ before-in e) (λ e _. out-cell hk n o _ after-in e)

  -- the words are sound, with the new sequences, and so are the records
  pub insert-lists : (x : SoundLists l Done) × (x.sequence ≡ replaced s.sequence k (insert_at p i S))
  insert-lists = edited-lists l w s k hk Done (insert_at p i S) insert-outside insert-own insert-other (λ x m. inl (member-insert x m))

  pub insert-wiped : Wiped l w s.sequence → Wiped l Done (replaced s.sequence k (insert_at p i S))
  insert-wiped h = edited-wiped l w s k hk Done (insert_at p i S) insert-outside h (λ x m. inl (member-insert x m))

  -- the record is stored as given, and the old records stay
  pub insert-given : record_in l Done i ≡ take l.width words
  insert-given = insert-record l w exact k site hk ha hb hi ca cb words size

  pub insert-records : (x : ℕ) → x ∈ S → record_in l Done x ≡ record_in l w x
  insert-records x m =
      record_same l w Done x (all_in (Node l) S own.nodes m) (length_run (insert_writes l k site words) w)
      (λ j g.
      insert-keeps x (3 + j) g (fresh k hk x (Memᴰ.tail m))
      (λ e _. header-apart l k S hk own.nodes (subst (λ (y : ℕ). y ∈ S) e m))
      (λ _ e. omega arith) (λ _ e. omega arith))
