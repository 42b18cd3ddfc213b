-- An insert cut after m stores: before the central store the list named has its old sequence, from it on the new one; and what it leaves
-- behind is what recovery needs to know of a cut call.
use Prim.Native.Nat.{ℕ, ◌+◌, ◌-◌, ◌<◌, ◌≤◌}
use mathlib.Core.Path.{◌≡◌, refl, ap, ◌∙◌, sym, subst}
use mathlib.Core.List.Memᴰ
use mathlib.Core.List.{List, [], ◌∷◌, ◌++◌, append_assoc}
use mathlib.Core.Bool.{Bool, true, false, cond}
use mathlib.Core.Logic.{◌⊎◌, inl, inr, ⊎_elim}
use native.Mathlib.Decide.{ℕ_discrete}
use native.Mathlib.Omega.{arith}
use lib.Dec.{ltb}
use lib.ListN.{length, get_or, take, drop, length-append, take-append-drop}
use lib.Seq.{take-append-le, take-append-add, drop-append-add, get_or-set_other}
use borrow.Author.Tests.{ltb-true, ltb-false}
use Rattle.sequences.specs.Sequence.{◌∈◌, All}
use Rattle.sequences.proofs.Members.{all_take, all_drop, all_append, in-front}
use Rattle.sequences.proofs.Splice.{backward-same}
use Rattle.stores.specs.Stores.{Write, write, store, run, applied, Spares, in_row}
use Rattle.stores.proofs.Laws.{run-append, length_run, run_out, run-either, applied-none, applied-all, row-spares}
use Rattle.layout.specs.declared.Layout.{Layout}
use Rattle.layout.specs.Words.{tail_words, Node, cell_count, size_of, cell_at, cell_words, ident_at, forward_at, back_at, record_at, ident_of, Unlisted}
use Rattle.layout.proofs.Apart.{words-apart, links-words, words-header, words-node}
use Rattle.lists.specs.Lists.{IsList, SoundLists, SameCells}
use Rattle.lists.specs.Decide.{view_of}
use Rattle.lists.proofs.Agree.{agrees-holds}
use Rattle.lists.proofs.Same.{ident-word, count-word, header-apart}
use Rattle.requests.specs.declared.Site.{Site}
use Rattle.edits.specs.Edits.{insert_links, insert_writes, insert_central}
use Rattle.edits.specs.Edited.{insert_at}
use Rattle.edits.proofs.Writes.{First, first-central, first-length, first-spares, insert-spares, record-word}
use Rattle.edits.proofs.Insert as I
use Rattle.edits.proofs.Done.{insert-head}
use Rattle.recovery.specs.Fits.{Counted}
use Rattle.recovery.proofs.Candidates.{right-forward}
use Rattle.courses.specs.Course.{due_of, untouched, altered}
use Rattle.courses.proofs.Own.{Own}
use Rattle.courses.proofs.Other.{forwards-right, count-right, altered-fits, settled}
use Rattle.courses.proofs.Cut.{Cut, rest-ident, list-apart}

-- stores that spare word a put no other value than v there
spares-only : (a v : ℕ) (ps : List Write) → Spares a ps → All (λ (x : Write). a ≡ x.at → x.value ≡ v) ps
spares-only a v [] h = tt
spares-only a v (x ∷ ps) h = ((λ e. absurd (h.0 e)), spares-only a v ps h.1)

module _ (l : Layout) (w : List ℕ) (exact : length w ≡ size_of l) (s : SoundLists l w) (k : ℕ) (hk : k < l.lists)
    (p : ℕ) (hp : p ≤ length (s.sequence k)) (i : ℕ) (hi : Node l i) (free : get_or w (ident_at l i) 0 ≡ 0)
    (words : List ℕ) (size : length words ≡ tail_words l) where
  abbrev S : List ℕ
  S = s.sequence k

  abbrev site : Site
  site = record { before = get_or (k ∷ S) p 0; cell = i; after = get_or (S ++ k ∷ []) p 0; count = length S }

  abbrev full : List Write
  full = insert_writes l k site words

  -- the list as it was, and the cell that is in none
  own : IsList l w k S
  own = s.lists k hk

  fresh : (j : ℕ) → j < l.lists → (x : ℕ) → x ∈ (j ∷ s.sequence j) → x ≡ i → ⊥
  fresh = I.fresh l w exact s k hk p hp i hi free words size

  -- the cells before and after are cells of the store, and not the new one
  ha : get_or (k ∷ S) p 0 < cell_count l
  ha = I.ha l w exact s k hk p hp i hi free words size

  hb : get_or (S ++ k ∷ []) p 0 < cell_count l
  hb = I.hb l w exact s k hk p hp i hi free words size

  ca : i ≡ get_or (k ∷ S) p 0 → ⊥
  ca = I.ca l w exact s k hk p hp i hi free words size

  cb : i ≡ get_or (S ++ k ∷ []) p 0 → ⊥
  cb = I.cb l w exact s k hk p hp i hi free words size

  -- the stores before the central one, and the two from it on
  A : List Write
  A = First l w exact k site hk ha hb hi ca cb words size

  abbrev B : List Write
  B = write (forward_at l site.before) i ∷ write (back_at l site.after) i ∷ []

  split : full ≡ A ++ B
  unfolding A
  split = first-central l w exact k site hk ha hb hi ca cb words size

  A-length : length A ≡ tail_words l + 4
  unfolding A
  A-length = first-length l w exact k site hk ha hb hi ca cb words size

  A-spares : (x f : ℕ) → f < cell_words l x → (x ≡ i → ⊥) → (x ≡ k → f ≡ 3 → ⊥) → Spares (cell_at l x + f) A
  unfolding A
  A-spares = first-spares l w exact k site hk ha hb hi ca cb words size

  full-length : length full ≡ tail_words l + 6
  full-length = omega (arith, A-length, ap length split ∙ length-append A B)

  -- before the central store the links are the old ones, and only the count may be wrong
  insert-before-central : (m : ℕ) → m < insert_central l → Own l (applied full m w) k S
  insert-before-central m h =
      settled l w (applied full m w) k hk S own (altered k 3 0) kept (λ c t. omega (arith, t.1)) (λ c t. omega (arith, t.1))
    where
      first : take m full ≡ take m A
      first = ap (take m) split ∙ take-append-le m A _ (omega (arith, A-length))

      kept : (c f : ℕ) → c ∈ (k ∷ S) → f < cell_words l c → ((c ≡ k) × (f ≡ 3) → ⊥) → get_or (applied full m w) (cell_at l c + f) 0 ≡ get_or w (cell_at l c + f) 0
      kept c f q g n =
          ap (λ (ps : List Write). get_or (run ps w) (cell_at l c + f) 0) first
          ∙ run_out (take m A) w (cell_at l c + f)
          (all_take (λ (x : Write). cell_at l c + f ≡ x.at → ⊥) A m (A-spares c f g (fresh k hk c q) (λ a b. n (a, b))))

  -- just after the central store: all is as in the end but for the back link of the cell after
  abbrev Central : List ℕ
  Central = run (A ++ write (forward_at l site.before) i ∷ []) w

  last-store : run full w ≡ store Central (write (back_at l site.after) i)
  unfolding run
  last-store =
      ap (λ (ps : List Write). run ps w) (split ∙ sym (append_assoc A (write (forward_at l site.before) i ∷ []) (write (back_at l site.after) i ∷ [])))
      ∙ run-append (A ++ write (forward_at l site.before) i ∷ []) (write (back_at l site.after) i ∷ []) w

  new : IsList l (run full w) k (insert_at p i S)
  new = I.insert-own l w exact s k hk p hp i hi free words size

  kept-central : (c f : ℕ) → c ∈ (k ∷ insert_at p i S) → f < cell_words l c → ((c ≡ site.after) × (f ≡ 2) → ⊥)
      → get_or Central (cell_at l c + f) 0 ≡ get_or (run full w) (cell_at l c + f) 0
  kept-central c f q g n =
      sym (ap (λ (x : List ℕ). get_or x (cell_at l c + f) 0) last-store
      ∙ get_or-set_other Central (back_at l site.after) (cell_at l c + f) i 0
      (λ e. words-apart l c site.after f 2 (λ a b. n (a, b)) g (links-words l site.after 2 (omega arith)) e))

  insert-at-central : Own l Central k (insert_at p i S)
  insert-at-central =
      record {
        fits = altered-fits l (run full w) Central k hk (insert_at p i S) new (altered site.after 2 0) kept-central;
        forward =
            right-forward l Central k (insert_at p i S)
            (forwards-right l (run full w) Central k hk (insert_at p i S) new (altered site.after 2 0) kept-central (λ c t. omega (arith, t.1)));
        other = S;
        nodes = own.nodes;
        within = I.member-insert l w exact s k hk p hp i hi free words size;
        back =
            backward-same (view_of l w).back (view_of l Central).back k S k
            (λ c m.
            run_out (A ++ write (forward_at l site.before) i ∷ []) w (back_at l c)
            (all_append (λ (x : Write). back_at l c ≡ x.at → ⊥) A (write (forward_at l site.before) i ∷ [])
            (A-spares c 2 (links-words l c 2 (omega arith)) (fresh k hk c (in-front k S m)) (λ _ b. omega arith))
            ((λ e. words-apart l c site.before 2 1 (λ _ b. omega arith) (links-words l c 2 (omega arith)) (links-words l site.before 1 (omega arith)) e), tt)))
            (agrees-holds l w k S own.agrees).turn.backs;
        told = inr (count, λ e. omega (arith, e, count, I.counted l w exact s k hk p hp i hi free words size));
      }
    where
      -- the count is the new one already, and not the old
      count : Counted l Central k (insert_at p i S)
      count = count-right l (run full w) Central k hk (insert_at p i S) new (altered site.after 2 0) kept-central (λ c t. omega (arith, t.1))

  -- from it on the new sequence's forward links are right; the last store brings the back link
  insert-from-central : (m : ℕ) → insert_central l ≤ m → Own l (applied full m w) k (insert_at p i S)
  insert-from-central m h = by (ℕ_discrete m (tail_words l + 5))
    where
      whole : tail_words l + 6 ≤ m → applied full m w ≡ run full w
      whole g = applied-all full m w (omega (arith, full-length))

      central : m ≡ tail_words l + 5 → applied full m w ≡ Central
      central e =
          ap (λ (ps : List Write). run ps w)
          (ap (λ (n : ℕ). take n full) (e ∙ n-is) ∙ ap (take (length A + 1)) split ∙ take-append-add A _ 1)
        where
          n-is : tail_words l + 5 ≡ length A + 1
          n-is = omega (arith, A-length)

      by : Dec (m ≡ tail_words l + 5) → Own l (applied full m w) k (insert_at p i S)
      by (no n) =
          subst (λ (y : List ℕ). Own l y k (insert_at p i S)) (sym (whole (omega arith)))
          (settled l (run full w) (run full w) k hk (insert_at p i S) new untouched (λ c f a b n. refl) (λ c t. t) (λ c t. t))
      by (yes e) = subst (λ (y : List ℕ). Own l y k (insert_at p i S)) (sym (central e)) insert-at-central

  -- a word that none of the stores goes to stays in every cut
  cut_out : (m a : ℕ) → Spares a full → get_or (applied full m w) a 0 ≡ get_or w a 0
  cut_out m a h = run_out (take m full) w a (all_take (λ (x : Write). a ≡ x.at → ⊥) full m h)

  -- so words 0 to 7 stay
  head : (m b : ℕ) → b < 8 → get_or (applied full m w) b 0 ≡ get_or w b 0
  head m b h = cut_out m b (insert-head l k site words b h)

  -- and so do the words of every other list
  others : (m j : ℕ) → j < l.lists → (j ≡ k → ⊥) → SameCells l w (applied full m w) (j ∷ s.sequence j)
  others m j h n c f q g = cut_out m (cell_at l c + f) (I.insert-spares-other l w exact s k hk p hp i hi free words size j h n c f q g)

  -- the only store to an identifier is the one with the list's
  ident-stores : (c : ℕ) → All (λ (x : Write). ident_at l c ≡ x.at → x.value ≡ ident_of k) full
  unfolding insert_writes insert_links
  ident-stores c =
      all_append (λ (x : Write). ident_at l c ≡ x.at → x.value ≡ ident_of k) (in_row (record_at l i) words) (insert_links l k site)
      (spares-only (ident_at l c) (ident_of k) (in_row (record_at l i) words)
      (row-spares (ident_at l c) (record_at l i) words
      (λ j g e. other i (3 + j) (omega arith) (omega (arith, words-node l i hi.low)) (e ∙ record-word l i j hi)))) (
        (λ e. absurd (other i 1 (omega arith) (links-words l i 1 (omega arith)) e)),
        (
          (λ e. absurd (other i 2 (omega arith) (links-words l i 2 (omega arith)) e)),
          (
            (λ e. refl),
            (
              (λ e. absurd (other k 3 (omega arith) (omega (arith, words-header l k hk)) (e ∙ count-word l k hk))),
              (
                (λ e. absurd (other site.before 1 (omega arith) (links-words l site.before 1 (omega arith)) e)),
                ((λ e. absurd (other site.after 2 (omega arith) (links-words l site.after 2 (omega arith)) e)), tt),
              ),
            ),
          ),
        ),
      )
    where
      other : (d g : ℕ) → 0 < g → g < cell_words l d → ident_at l c ≡ cell_at l d + g → ⊥
      other d g h b e = words-apart l c d 0 g (λ _ q. omega arith) (links-words l c 0 (omega arith)) b (sym (ident-word l c) ∙ e)

  -- a node in no other list is free, worn or has the list's identifier
  rest : (m c : ℕ) → Node l c → ((j : ℕ) → j < l.lists → (j ≡ k → ⊥) → c ∈ s.sequence j → ⊥)
      → Unlisted (get_or (applied full m w) (ident_at l c) 0) ⊎ (get_or (applied full m w) (ident_at l c) 0 ≡ ident_of k)
  rest m c nc o =
      ⊎_elim (λ e. ⊎_elim (λ z. inl (subst Unlisted (sym e) z)) (λ z. inr (e ∙ z)) (rest-ident l w s k c nc o)) inr
      (run-either (take m full) w (ident_at l c) (ident_of k)
      (all_take (λ (x : Write). ident_at l c ≡ x.at → x.value ≡ ident_of k) full m (ident-stores c)))

  -- before the central store: the old sequence, with the words of the sound store
  insert-cut-before : (m : ℕ) → m < insert_central l → Cut l w s k S w (applied full m w)
  insert-cut-before m h =
      record {
        size = length_run (take m full) w;
        head = head m;
        others = others m;
        rest = rest m;
        own = λ _. insert-before-central m h;
        apart = list-apart l w s k;
        list = λ _. own;
        records = λ _ c f q b g.
            cut_out m (cell_at l c + f)
            (insert-spares l w exact k site hk ha hb hi ca cb words size c f g
            (fresh k hk c (Memᴰ.tail q)) (λ e _. header-apart l k S hk own.nodes (subst (λ (x : ℕ). x ∈ S) e q))
            (λ _ e. omega arith) (λ _ e. omega arith));
      }

  -- from the central store on: the new sequence, with the words of the whole insert
  insert-cut-after : (m : ℕ) → insert_central l ≤ m → Cut l w s k (insert_at p i S) (run full w) (applied full m w)
  insert-cut-after m h =
      record {
        size = length_run (take m full) w;
        head = head m;
        others = others m;
        rest = rest m;
        own = λ _. insert-from-central m h;
        apart = λ _. among;
        list = λ _. new;
        records = λ _ c f q b g. sym (whole (cell_at l c + f) ∙ run_out (drop m full) (applied full m w) (cell_at l c + f) (spared c f b g));
      }
    where
      among : (c : ℕ) → c ∈ (k ∷ insert_at p i S) → (j : ℕ) → j < l.lists → (j ≡ k → ⊥) → c ∈ (j ∷ s.sequence j) → ⊥
      among c (Memᴰ.head e) j g n z = list-apart l w s k hk c (Memᴰ.head e) j g n z
      among c (Memᴰ.tail q) j g n z =
          ⊎_elim (λ e. fresh j g c z e) (λ t. list-apart l w s k hk c (Memᴰ.tail t) j g n z) (I.insert-member l w exact s k hk p hp i hi free words size c q)

      last : drop m full ≡ drop (m - length A) B
      last =
          let e : m ≡ length A + (m - length A) = omega (arith, A-length) in
          ap (λ (n : ℕ). drop n full) e ∙ ap (drop (length A + (m - length A))) split ∙ drop-append-add A B (m - length A)

      whole : (a : ℕ) → get_or (run full w) a 0 ≡ get_or (run (drop m full) (applied full m w)) a 0
      whole a = ap (λ (x : List ℕ). get_or x a 0) (ap (λ (ps : List Write). run ps w) (sym (take-append-drop m full)) ∙ run-append (take m full) (drop m full) w)

      spared : (c f : ℕ) → 3 ≤ f → f < cell_words l c → Spares (cell_at l c + f) (drop m full)
      spared c f b g =
          subst (Spares (cell_at l c + f)) (sym last)
          (all_drop (λ (x : Write). cell_at l c + f ≡ x.at → ⊥) B (m - length A) (
            words-apart l c site.before f 1 (λ _ e. omega arith) g (links-words l site.before 1 (omega arith)),
            (words-apart l c site.after f 2 (λ _ e. omega arith) g (links-words l site.after 2 (omega arith)), tt),
          ))

  -- wherever it is cut
  pub insert-cut : (m : ℕ) → (own : List ℕ) × Cut l w s k own (applied full (due_of (insert_central l) (tail_words l + 6) m) w) (applied full m w)
  insert-cut m = by (ltb m (insert_central l)) refl
    where
      by : (b : Bool) → ltb m (insert_central l) ≡ b → (own : List ℕ) × Cut l w s k own (applied full (cond b 0 (tail_words l + 6)) w) (applied full m w)
      by true e =
          (S, subst (λ (x : List ℕ). Cut l w s k S x (applied full m w)) (sym (applied-none full w)) (insert-cut-before m (ltb-true m (insert_central l) e)))
      by false e = (
        insert_at p i S,
        subst (λ (x : List ℕ). Cut l w s k (insert_at p i S) x (applied full m w)) (sym (applied-all full (tail_words l + 6) w (omega (arith, full-length))))
            (insert-cut-after m (ltb-false m (insert_central l) e)),
      )
