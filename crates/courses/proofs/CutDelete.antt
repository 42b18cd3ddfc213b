-- A delete cut after m stores: before the central store the list named has its old sequence, from it on the new one; and what it leaves
-- behind is what recovery needs to know of a cut call.
use Prim.Native.Nat.{ℕ, zero, suc, ◌+◌, ◌-◌, ◌<◌, ◌≤◌}
use mathlib.Core.Path.{◌≡◌, refl, ap, ◌∙◌, sym, subst}
use mathlib.Core.List.Memᴰ
use mathlib.Core.List.{List, [], ◌∷◌, ◌++◌}
use mathlib.Core.Bool.{Bool, true, false, cond}
use mathlib.Core.Logic.{◌⊎◌, inl, inr, ⊎_elim}
use native.Mathlib.Omega.{arith}
use lib.Dec.{ltb}
use lib.ListN.{length, get_or, set, take, drop, replicate, length-append, length-replicate}
use lib.Seq.{take-add, get_or-set_other}
use borrow.Author.Tests.{ltb-true, ltb-false}
use Rattle.sequences.specs.Sequence.{◌∈◌, All}
use Rattle.sequences.proofs.Members.{all_in, in_all, all_take}
use Rattle.sequences.proofs.Splice.{backward-same}
use Rattle.stores.specs.Stores.{Write, run, applied, Spares}
use Rattle.stores.proofs.Laws.{length_run, run_out, run-either, applied-none, applied-all, length-row, run-append}
use Rattle.stores.proofs.Segments.{applied-first}
use Rattle.layout.specs.declared.Layout.{Layout}
use Rattle.layout.specs.Words.{tail_words, Node, size_of, cell_at, cell_words, ident_at, back_at, record_at, ident_of, Unlisted, free}
use Rattle.layout.proofs.Apart.{words-apart, links-words, words-header}
use Rattle.lists.specs.Lists.{IsList, SoundLists, SameCells, blank_asked}
use Rattle.lists.specs.Decide.{view_of}
use Rattle.lists.proofs.Same.{ident-word, count-word, header-apart, list_same}
use Rattle.requests.specs.declared.Site.{Site}
use Rattle.edits.specs.Edits.{delete_links, delete_writes, delete_central}
use Rattle.edits.specs.Edited.{delete_at}
use Rattle.edits.proofs.Writes.{blank-spares, delete-spares}
use Rattle.edits.proofs.Delete as D
use Rattle.edits.proofs.Done.{delete-head}
use Rattle.recovery.specs.Fits.{Counted}
use Rattle.recovery.proofs.Candidates.{right-forward}
use Rattle.courses.specs.Course.{due_of, untouched, altered}
use Rattle.courses.proofs.Own.{Own}
use Rattle.courses.proofs.Other.{forwards-right, count-right, altered-fits, settled}
use Rattle.courses.proofs.Cut.{Cut, rest-ident, list-apart}

module _ (l : Layout) (w : List ℕ) (exact : length w ≡ size_of l) (s : SoundLists l w) (k : ℕ) (hk : k < l.lists)
    (p : ℕ) (hp : p < length (s.sequence k)) where
  abbrev S : List ℕ
  S = s.sequence k

  abbrev c : ℕ
  c = get_or S p 0

  abbrev site : Site
  site = record { before = get_or (k ∷ S) p 0; cell = c; after = get_or (S ++ k ∷ []) (p + 1) 0; count = length S }

  abbrev full : List Write
  full = delete_writes l k site

  own : IsList l w k S
  own = s.lists k hk

  new : IsList l (run full w) k (delete_at p S)
  new = D.delete-own l w exact s k hk p hp

  -- the wipes go to the record words of the cell
  wipe-spares : (x f : ℕ) → f < cell_words l x → (x ≡ c → 3 ≤ f → ⊥) → Spares (cell_at l x + f) (blank_asked l c)
  wipe-spares = blank-spares l w exact k site hk (D.ha l w exact s k hk p hp) (D.hb l w exact s k hk p hp) (D.hc l w exact s k hk p hp)
      (D.ca l w exact s k hk p hp) (D.cb l w exact s k hk p hp)

  -- the words after one store, and what the others do to them
  abbrev One : List ℕ
  One = set w (back_at l site.after) site.before

  kept-one : (x f : ℕ) → x ∈ (k ∷ S) → f < cell_words l x → ((x ≡ site.after) × (f ≡ 2) → ⊥) → get_or One (cell_at l x + f) 0 ≡ get_or w (cell_at l x + f) 0
  kept-one x f q g n =
      get_or-set_other w (back_at l site.after) (cell_at l x + f) site.before 0
      (λ e. words-apart l x site.after f 2 (λ a b. n (a, b)) g (links-words l site.after 2 (omega arith)) e)

  back_one : (x : ℕ) → get_or One (back_at l x) 0 ≡ get_or (run full w) (back_at l x) 0
  unfolding run delete_writes delete_links
  back_one x =
      sym (run_out (drop 1 full) One (back_at l x) (
        (λ e. words-apart l x site.before 2 1 (λ _ b. omega arith) (links-words l x 2 (omega arith)) (links-words l site.before 1 (omega arith)) e),
        (
          (λ e. words-apart l x k 2 3 (λ _ b. omega arith) (links-words l x 2 (omega arith)) (omega (arith, words-header l k hk)) (e ∙ count-word l k hk)),
          (
            (λ e. words-apart l x c 2 0 (λ _ b. omega arith) (links-words l x 2 (omega arith)) (links-words l c 0 (omega arith)) (e ∙ ident-word l c)),
            wipe-spares x 2 (links-words l x 2 (omega arith)) (λ _ e. omega arith),
          ),
        ),
      ))

  delete-after-one : Own l One k S
  delete-after-one =
      record {
        fits = altered-fits l w One k hk S own (altered site.after 2 0) kept-one;
        forward =
            right-forward l One k S (forwards-right l w One k hk S own (altered site.after 2 0) kept-one (λ x t. omega (arith, t.1)));
        other = delete_at p S;
        nodes = new.nodes;
        within = D.delete-member l w exact s k hk p hp;
        back =
            backward-same (view_of l (run full w)).back (view_of l One).back k (delete_at p S) k (λ x m. back_one x)
            (D.backs l w exact s k hk p hp);
        told = inr (count, λ e. omega (arith, e, count, D.counted l w exact s k hk p hp));
      }
    where
      -- the count is still the old one, and not the new
      count : Counted l One k S
      count = count-right l w One k hk S own (altered site.after 2 0) kept-one (λ x t. omega (arith, t.1))

  full-length : length full ≡ 4 + tail_words l
  unfolding delete_writes delete_links
  full-length =
      omega (
        arith,
        length-append (delete_links l k site) (blank_asked l c),
        length-row (record_at l c) (replicate (tail_words l) 0),
        length-replicate {A = ℕ} (tail_words l) 0,
      )

  delete-before-central : (m : ℕ) → m < delete_central → Own l (applied full m w) k S
  unfolding run delete_writes delete_links
  delete-before-central zero h =
      settled l w w k hk S own untouched (λ c f a b n. refl) (λ c t. t) (λ c t. t)
  delete-before-central (suc zero) h = delete-after-one
  delete-before-central (suc (suc m)) h = absurd (omega arith)

  -- later stores go to the count, and to the identifier and the record of the cell that has left the list
  kept-late : (x f : ℕ) → x ∈ (k ∷ delete_at p S) → f < cell_words l x → ((x ≡ k) × (f ≡ 3) → ⊥) → Spares (cell_at l x + f) (drop delete_central full)
  unfolding delete_writes delete_links
  kept-late x f q g n = (
    (λ e. words-apart l x k f 3 (λ a b. n (a, b)) g (omega (arith, words-header l k hk)) (e ∙ count-word l k hk)),
    (
      (λ e. words-apart l x c f 0 (λ a _. D.not-cell l w exact s k hk p hp x q a) g (links-words l c 0 (omega arith)) (e ∙ ident-word l c)),
      wipe-spares x f g (λ a _. D.not-cell l w exact s k hk p hp x q a),
    ),
  )

  -- after the first j stores, words that none of the later ones goes to are as in the end
  as-last : (j m a : ℕ) → j ≤ m → Spares a (drop j full) → get_or (applied full m w) a 0 ≡ get_or (run full w) a 0
  as-last j m a h q =
      let all = applied-all full (m + length full) w (omega arith) in
      from m h ∙ sym (from (m + length full) (omega arith)) ∙ ap (λ (y : List ℕ). get_or y a 0) all
    where
      from : (n : ℕ) → j ≤ n → get_or (applied full n w) a 0 ≡ get_or (applied full j w) a 0
      from n g =
          let e : n ≡ j + (n - j) = omega arith in
          ap (λ (y : List ℕ). get_or y a 0)
          (ap (λ (i : ℕ). applied full i w) e ∙ ap (λ (ps : List Write). run ps w) (take-add j (n - j) full) ∙ run-append (take j full) (take (n - j) (drop j full)) w)
          ∙ run_out (take (n - j) (drop j full)) (applied full j w) a (all_take (λ (x : Write). a ≡ x.at → ⊥) (drop j full) (n - j) q)

  delete-from-central : (m : ℕ) → delete_central ≤ m → Own l (applied full m w) k (delete_at p S)
  delete-from-central m h =
      settled l (run full w) (applied full m w) k hk (delete_at p S) new (altered k 3 0)
      (λ x f q g n. as-last delete_central m (cell_at l x + f) h (kept-late x f q g n)) (λ x t. omega (arith, t.1)) (λ x t. omega (arith, t.1))

  -- from the fourth store on the list has all its words
  listed : (d : ℕ) → 4 ≤ d → SameCells l (run full w) (applied full d w) (k ∷ delete_at p S)
  unfolding delete_writes delete_links
  listed d h x f q g = as-last 4 d (cell_at l x + f) h (wipe-spares x f g (λ a _. D.not-cell l w exact s k hk p hp x q a))

  -- a word that no store goes to stays, wherever the delete is cut
  stays : (m a : ℕ) → Spares a full → get_or (applied full m w) a 0 ≡ get_or w a 0
  stays m a h = run_out (take m full) w a (all_take (λ (x : Write). a ≡ x.at → ⊥) full m h)

  -- the only store to an identifier is 0
  idents : (x : ℕ) → All (λ (q : Write). ident_at l x ≡ q.at → q.value ≡ 0) full
  unfolding delete_writes delete_links
  idents x = (
    (λ e. absurd (word site.after 2 (omega arith) (links-words l site.after 2 (omega arith)) e)),
    (
      (λ e. absurd (word site.before 1 (omega arith) (links-words l site.before 1 (omega arith)) e)),
      (
        (λ e. absurd (word k 3 (omega arith) (omega (arith, words-header l k hk)) (e ∙ count-word l k hk))),
        (
          (λ e. refl),
          in_all (λ (q : Write). ident_at l x ≡ q.at → q.value ≡ 0) (blank_asked l c)
              (λ q m e. absurd (all_in (λ (t : Write). ident_at l x ≡ t.at → ⊥) (blank_asked l c) wipes m e)),
        ),
      ),
    ),
  )
    where
      wipes : Spares (ident_at l x) (blank_asked l c)
      wipes = subst (λ (a : ℕ). Spares a (blank_asked l c)) (sym (ident-word l x)) (wipe-spares x 0 (links-words l x 0 (omega arith)) (λ _ e. omega arith))

      word : (y g : ℕ) → 1 ≤ g → g < cell_words l y → ident_at l x ≡ cell_at l y + g → ⊥
      word y g h i e = words-apart l x y 0 g (λ _ b. omega arith) (links-words l x 0 (omega arith)) i (sym (ident-word l x) ∙ e)

  -- a node in no list but k is free, worn or has the identifier of k, wherever the delete is cut
  rest : (m x : ℕ) → Node l x → ((j : ℕ) → j < l.lists → (j ≡ k → ⊥) → x ∈ s.sequence j → ⊥)
      → Unlisted (get_or (applied full m w) (ident_at l x) 0) ⊎ (get_or (applied full m w) (ident_at l x) 0 ≡ ident_of k)
  rest m x n o =
      ⊎_elim (λ e. ⊎_elim (λ z. inl (subst Unlisted (sym e) z)) (λ z. inr (e ∙ z)) (rest-ident l w s k x n o)) (λ z. inl (free z))
      (run-either (take m full) w (ident_at l x) 0 (all_take (λ (q : Write). ident_at l x ≡ q.at → q.value ≡ 0) full m (idents x)))

  -- no store goes to a record word of a member, but of the one deleted
  spares-record : (x f : ℕ) → x ∈ S → (x ≡ c → ⊥) → 3 ≤ f → f < cell_words l x → Spares (cell_at l x + f) full
  spares-record x f m o h g =
      delete-spares l w exact k site hk (D.ha l w exact s k hk p hp) (D.hb l w exact s k hk p hp) (D.hc l w exact s k hk p hp)
      (D.ca l w exact s k hk p hp) (D.cb l w exact s k hk p hp) x f g (λ _ e. omega arith) (λ e _. o e)
      (λ e _. header-apart l k S hk own.nodes (subst (λ (y : ℕ). y ∈ S) e m)) (λ _ e. omega arith) (λ _ e. omega arith)

  -- and before the central store none goes to a record word
  before-record : (m x f : ℕ) → m < delete_central → 3 ≤ f → f < cell_words l x → get_or (applied full m w) (cell_at l x + f) 0 ≡ get_or w (cell_at l x + f) 0
  unfolding run delete_writes delete_links
  before-record zero x f h a g = refl
  before-record (suc zero) x f h a g =
      get_or-set_other w (back_at l site.after) (cell_at l x + f) site.before 0
      (λ e. words-apart l x site.after f 2 (λ _ b. omega arith) g (links-words l site.after 2 (omega arith)) e)
  before-record (suc (suc m)) x f h a g = absurd (omega arith)

  -- a delete cut before its central store: the old sequence and the old words
  delete-cut-before : (m : ℕ) → m < delete_central → Cut l w s k S w (applied full m w)
  delete-cut-before m h =
      record {
        size = length_run (take m full) w;
        head = λ b g. stays m b (delete-head l k site b g);
        others = λ j i n x f q g. stays m (cell_at l x + f) (D.delete-spares-other l w exact s k hk p hp j i n x f q g);
        rest = rest m;
        own = λ _. delete-before-central m h;
        apart = list-apart l w s k;
        list = s.lists k;
        records = λ _ x f q a g. before-record m x f h a g;
      }

  -- a delete cut at its central store or later: the new sequence and the words that any four stores and more leave of the list
  delete-cut-after : (m d : ℕ) → delete_central ≤ m → 4 ≤ d → Cut l w s k (delete_at p S) (applied full d w) (applied full m w)
  delete-cut-after m d h i =
      record {
        size = length_run (take m full) w;
        head = λ b g. stays m b (delete-head l k site b g);
        others = λ j i n x f q g. stays m (cell_at l x + f) (D.delete-spares-other l w exact s k hk p hp j i n x f q g);
        rest = rest m;
        own = λ _. delete-from-central m h;
        apart = λ i x q. list-apart l w s k i x (old x q);
        list = λ _. list_same l (run full w) k hk (delete_at p S) new (applied full d w) (listed d i);
        records =
            λ _ x f q a g.
            let t = spares-record x f (D.delete-member l w exact s k hk p hp x q) (D.not-cell l w exact s k hk p hp x (Memᴰ.tail q)) a g in
            stays m (cell_at l x + f) t ∙ sym (stays d (cell_at l x + f) t);
      }
    where
      old : (x : ℕ) → x ∈ (k ∷ delete_at p S) → x ∈ (k ∷ S)
      old x (Memᴰ.head e) = Memᴰ.head e
      old x (Memᴰ.tail q) = Memᴰ.tail (D.delete-member l w exact s k hk p hp x q)

  -- wherever it is cut, with so many stores due
  cut-with : (d : ℕ) → 4 ≤ d → (m : ℕ) → (own : List ℕ) × Cut l w s k own (applied full (due_of delete_central d m) w) (applied full m w)
  cut-with d i m = by (ltb m delete_central) refl
    where
      by : (b : Bool) → ltb m delete_central ≡ b → (own : List ℕ) × Cut l w s k own (applied full (cond b 0 d) w) (applied full m w)
      by true e =
          (S, subst (λ (x : List ℕ). Cut l w s k S x (applied full m w)) (sym (applied-none full w)) (delete-cut-before m (ltb-true m delete_central e)))
      by false e = (delete_at p S, delete-cut-after m d (ltb-false m delete_central e) i)

  pub delete-cut : (m : ℕ) → (own : List ℕ) × Cut l w s k own (applied full (due_of delete_central (4 + tail_words l) m) w) (applied full m w)
  delete-cut = cut-with (4 + tail_words l) (omega arith)

  -- The four stores alone are the first of these: cut after m, they leave what a cut after m, at most four, leaves.
  abbrev bare : List Write
  bare = delete_links l k site

  abbrev pub four_at_most : ℕ → ℕ
  four_at_most m = cond (ltb m 4) m 4

  first-four : (n : ℕ) → n ≤ 4 → applied full n w ≡ applied bare n w
  unfolding delete_writes delete_links
  first-four n h = applied-first bare (blank_asked l c) n w h

  pub as-bare : (m : ℕ) → applied full (four_at_most m) w ≡ applied bare m w
  unfolding delete_links
  as-bare m = by (ltb m 4) refl
    where
      by : (b : Bool) → ltb m 4 ≡ b → applied full (cond b m 4) w ≡ applied bare m w
      by true e = let h = ltb-true m 4 e in first-four m (omega arith)
      by false e = first-four 4 (omega arith) ∙ applied-all bare 4 w (omega arith) ∙ sym (applied-all bare m w (ltb-false m 4 e))

  pub bare-cut : (m : ℕ) → (own : List ℕ) × Cut l w s k own (applied bare (due_of delete_central 4 m) w) (applied bare m w)
  bare-cut m =
      let r = cut-with 4 (omega arith) (four_at_most m) in (
        r.0,
        subst (Cut l w s k r.0 (applied bare (due_of delete_central 4 m) w)) (as-bare m)
            (subst (λ (x : List ℕ). Cut l w s k r.0 x (applied full (four_at_most m) w)) (due-same (ltb m 4) refl (ltb m delete_central) refl) r.1),
      )
    where
      due-same : (b : Bool) → ltb m 4 ≡ b → (d : Bool) → ltb m delete_central ≡ d
          → applied full (due_of delete_central 4 (cond b m 4)) w ≡ applied bare (cond d 0 4) w
      due-same true e true q = ap (λ (x : Bool). applied full (cond x 0 4) w) q ∙ first-four 0 (omega arith)
      due-same true e false q = ap (λ (x : Bool). applied full (cond x 0 4) w) q ∙ first-four 4 (omega arith)
      due-same false e true q = absurd (omega (arith, ltb-false m 4 e, ltb-true m delete_central q))
      due-same false e false q = first-four 4 (omega arith)
