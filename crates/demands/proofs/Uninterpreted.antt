-- Nothing interprets a record: no question, answer or store depends on a word of one, but for what recovery wipes.
use Prim.Native.Nat.{ℕ, zero, suc, ◌+◌, ◌*◌, ◌/◌, ◌≤◌, ◌<◌}
use mathlib.Core.Path.{◌≡◌, refl, ap, ◌∙◌, sym, subst, fun_ext}
use mathlib.Core.List.Memᴰ
use mathlib.Core.List.{List, [], ◌∷◌, ◌++◌, map, reverse, append-nil, append_assoc, Memᴰ}
use mathlib.Core.Bool.{Bool, true, false, not, ◌&&◌}
use mathlib.Core.Logic.{⊎_elim}
use native.Mathlib.Omega.{arith}
use native.Mathlib.Nat.{zero-mul, one-mul, suc-mul}
use lib.Dec.{eqb, leb}
use lib.ListN.{length, get_or, take, drop, length-drop}
use lib.Seq.{take_all}
use borrow.Author.Tests.{eqb-true}
use Rattle.sequences.specs.Sequence.{All, trail, range}
use Rattle.sequences.proofs.Members.{in_all}
use Rattle.sequences.proofs.Range.{range-between}
use Rattle.sequences.proofs.Filter.{filter_same}
use Rattle.stores.specs.Stores.{Write, write, stores}
use Rattle.std.specs.Prelude.{Option, Some, None, Result, Ok, Err}
use Rattle.layout.specs.declared.Refusal.{Refusal}
use Rattle.requests.specs.declared.Look.{Look}
use Rattle.layout.specs.declared.Layout.{Layout}
use Rattle.layout.specs.Words.{link_words, tail_words, first_node, Node, is_node, cell_at, cell_words, ident_at, record_at, is_free, layout_of, opened, after_open}
use Rattle.layout.proofs.Laws.{tail-width, opened-open}
use Rattle.layout.proofs.Apart.{words-apart, words-header, words-node, links-words, tail-word, cell-behind}
use Rattle.lists.specs.Lists.{asked, others_asked, count_asked}
use Rattle.lists.specs.Decide.{View, view_of, count_in, sequence_in, unwiped, sequence_of}
use Rattle.lists.proofs.Decided.{sound-lists}
use Rattle.lists.proofs.Same.{ident-word, count-word, same-opened}
use Rattle.requests.specs.declared.Site.{Site}
use Rattle.requests.specs.declared.Request.{Request}
use Rattle.requests.specs.declared.Request.TheVariants.{Check, Whole, Member, Gap, Gaps, Mark}
use Rattle.requests.specs.Requests.{around, free_cells, site_in, site_of, with_site, look_of, at_site}
use Rattle.requests.proofs.Laws.{site-same}
use Rattle.edits.specs.Edits.{insert_links, insert_writes, chain, free_from}
use Rattle.edits.proofs.Writes.{record-word}
use Rattle.edits.proofs.Done.{looked}
use Rattle.edits.proofs.Gaps.{gaps-looked, gaps-cells, gaps-words}
use Rattle.recovery.specs.Fits.{wrong, backward_of, few_wrong, same, has_count, fitting, fit_of}
use Rattle.recovery.specs.Plan.{joined, out_of, nodes_out, lists_asked, clears_asked, blanks_asked, required, recover_stores, only_of, fitting_of, fit_refusal, refusal_from, recover_of, recover_plan}
use Rattle.recovery.proofs.Slots.{Value, ident, forward, back, count, slot}
use Rattle.recovery.proofs.Required.{wrong-append, wrong-same}
use Rattle.recovery.proofs.Joined.{out-is}
use Rattle.recovery.proofs.Count.{in-lists, in-clears}
use Rattle.recovery.proofs.Whole.{plan-same}
use Rattle.calls.specs.Calls.{format_answer, check_answer, length_answer, read_number, read_start, insert_plan, several_plan, delete_plan, mark_plan}
use Rattle.calls.proofs.Cases.{insert-refused, insert-at, several-refused, several-at}
use Rattle.calls.proofs.Sites.{gap-placed}
use Rattle.demands.specs.Records.{RecordWord, SameButRecords, Outside, SameRecovery, neither, both, SameCalls, SameWrites, none, next, SameStores, refused, stored, Uninterpreted}
use Rattle.demands.proofs.Views.{blank-same, with_blank, site-with}

-- words 0 to 7 are no record words, and of a cell's words only those behind a node's links are, if the node is not free
head_apart : (l : Layout) (w : List ℕ) (a : ℕ) → a < 8 → RecordWord l w a → ⊥
head_apart l w a h r = omega (arith, r.at, record-word l r.cell r.word r.node, cell-behind l r.cell)

word-apart
    : (l : Layout) (w : List ℕ) (c f : ℕ) → f < cell_words l c → (Node l c → (get_or w (ident_at l c) 0 ≡ 0 → ⊥) → f < 3)
    → RecordWord l w (cell_at l c + f) → ⊥
word-apart l w c f h n r =
    words-apart l c r.cell f (3 + r.word) own h (omega (arith, words-node l r.cell r.node.low, r.inside))
    (omega (arith, r.at, record-word l r.cell r.word r.node))
  where
    own : c ≡ r.cell → f ≡ 3 + r.word → ⊥
    own e q = omega (arith, n (subst (Node l) (sym e) r.node) (subst (λ (x : ℕ). get_or w (ident_at l x) 0 ≡ 0 → ⊥) (sym e) r.held))

module _ (w w' : List ℕ) (s : SameButRecords w w') where
  abbrev l : Layout
  l = layout_of w

  -- the same identifiers, links and counts
  same-link : (c f : ℕ) → f < 3 → get_or w' (cell_at l c + f) 0 ≡ get_or w (cell_at l c + f) 0
  same-link c f h = s.agree _ (word-apart l w c f (links-words l c f h) (λ _ _. h))

  same-fourth : (k : ℕ) → k < l.lists → get_or w' (cell_at l k + 3) 0 ≡ get_or w (cell_at l k + 3) 0
  same-fourth k h = s.agree _ (word-apart l w k 3 (omega (arith, words-header l k h)) (λ n _. absurd (omega (arith, n.low))))

  moved : {a b : ℕ} → a ≡ b → get_or w' b 0 ≡ get_or w b 0 → get_or w' a 0 ≡ get_or w a 0
  moved e h = rw e h

  same-ident : (c : ℕ) → get_or w' (ident_at l c) 0 ≡ get_or w (ident_at l c) 0
  same-ident c = moved (ident-word l c) (same-link c 0 (omega arith))

  same-idents : (view_of l w').ident ≡ (view_of l w).ident
  same-idents = fun_ext same-ident

  same_view : view_of l w' ≡ with_blank (view_of l w) (view_of l w').blank
  same_view =
      λ i.
      record {
        ident = same-idents i;
        forward = fun_ext (λ c. same-link c 1 (omega arith)) i;
        back = fun_ext (λ c. same-link c 2 (omega arith)) i;
        blank = (view_of l w').blank;
      }

  -- and the same record words of free nodes, so the same of these are blank
  same-blank : (c : ℕ) → Node l c → get_or w (ident_at l c) 0 ≡ 0 → (view_of l w').blank c ≡ (view_of l w).blank c
  same-blank c n z =
      blank-same w w' (record_at l c) (tail_words l)
      (λ f h.
      let a = tail-word l c f n.low h in
      moved a.0 (s.agree _ (word-apart l w c (link_words + f) a.1 (λ _ held. absurd (held z)))))

  same-unwiped : unwiped (with_blank (view_of l w) (view_of l w').blank) (first_node l) l.nodes ≡ unwiped (view_of l w) (first_node l) l.nodes
  same-unwiped =
      filter_same _ _ (range (first_node l) l.nodes)
      (in_all _ (range (first_node l) l.nodes)
      (λ c m.
      let b = range-between (first_node l) l.nodes c m in
      by c (same-blank c (record { low = b.0; high = b.1 })) (is_free (get_or w (ident_at l c) 0)) refl))
    where
      by : (c : ℕ) → (get_or w (ident_at l c) 0 ≡ 0 → (view_of l w').blank c ≡ (view_of l w).blank c)
          → (b : Bool) → is_free (get_or w (ident_at l c) 0) ≡ b → (b && not ((view_of l w').blank c)) ≡ (b && not ((view_of l w).blank c))
      by c h true q = ap not (h (eqb-true _ 0 q))
      by c h false q = refl

  same_count : (k : ℕ) → k < l.lists → count_in l w' k ≡ count_in l w k
  same_count k h = moved (count-word l k h) (same-fourth k h)

  -- the same questions 1 to 4, and what follows them is asked of one layout
  opens : opened w' ≡ opened w
  opens = same-opened w w' (λ a h. s.agree a (head_apart l w a h)) s.size

  after : {A : Type 0} (r : Refusal → A) (f g : Layout → A) → f l ≡ g l → after_open (opened w') r f ≡ after_open (opened w) r g
  after {A} r f g h = ap (λ (o : Result Layout Refusal). after_open o r f) opens ∙ by (opened w) refl
    where
      by : (o : Result Layout Refusal) → opened w ≡ o → after_open o r f ≡ after_open o r g
      by (Err n) e = refl
      by (Ok m) e = subst (λ (y : Layout). f y ≡ g y) (sym (opened-open w m e).0) h

  -- the same sites
  same-site : (q : Request) → site_of l w' q ≡ site_of l w q
  same-site q =
      ap (λ (v : View). site_in l v (count_in l w') q) same_view
      ∙ site-with l (view_of l w) (view_of l w').blank (count_in l w') same-unwiped q
      ∙ site-same l (view_of l w) (count_in l w') (count_in l w) q same_count

  same-look : (q : Request) → look_of w' q ≡ look_of w q
  unfolding look_of
  same-look q =
      after Err (λ m. with_site (site_of m w' q) Err (at_site m)) (λ m. with_site (site_of m w q) Err (at_site m))
      (ap (λ (t : Result Site Refusal). with_site t Err (at_site l)) (same-site q))

  -- of what is asked of a list, the same words are wrong; so the same sequences fit
  same_asked : (k : ℕ) → k < l.lists → (t : List ℕ) (p : Write) → Memᴰ p (asked l k t) → get_or w' p.at 0 ≡ get_or w p.at 0
  same_asked k h t p m = let y = slot l k t h m in moved y.at (word y.value)
    where
      word : {c f v : ℕ} → Value k t c f v → get_or w' (cell_at l c + f) 0 ≡ get_or w (cell_at l c + f) 0
      word {c} {f} (ident e q) = same-link c f (omega arith)
      word {c} {f} (forward p e m q r) = same-link c f (omega arith)
      word {c} {f} (back p e m q r) = same-link c f (omega arith)
      word (count e q r) = rw (e, q) (same-fourth k h)

  same-fit : (k : ℕ) → k < l.lists → fit_of l w' k ≡ fit_of l w k
  unfolding fit_of few_wrong has_count asked
  same-fit k h = λ i. fitting (few i (front i)) (few i (behind i)) (same (front i) (behind i)) (has i (front i)) (has i (behind i)) (front i) (behind i)
    where
      front : sequence_of l w' k ≡ sequence_of l w k
      front = ap (λ (v : View). sequence_in l v k) same_view

      behind : backward_of l w' k ≡ backward_of l w k
      behind = ap (λ (v : View). reverse (trail v.back (is_node l) l.nodes (v.back k))) same_view

      few : few_wrong l w' k ≡ few_wrong l w k
      few = fun_ext (λ t. ap (λ (ps : List Write). leb (length ps) 1) (wrong-same w w' (others_asked l k t) (λ p m. same_asked k h t p (Memᴰ.append_left (count_asked l k t) m))))

      has : has_count l w' k ≡ has_count l w k
      has = fun_ext (λ t. ap (λ (n : ℕ). eqb n (length t)) (moved (count-word l k h) (same-fourth k h)))

  same-refusal : (k n : ℕ) → k + n ≤ l.lists → refusal_from l w' k n ≡ refusal_from l w k n
  unfolding refusal_from
  same-refusal k zero h = refl
  same-refusal k (suc n) h = λ i. fit_refusal (same-fit k (omega arith) i) (same-refusal (suc k) n (omega arith) i)

  -- recovery mends and clears the same words, and wipes the same nodes
  abbrev mends : List Write
  mends = lists_asked l (fitting_of l w) ++ clears_asked l w (fitting_of l w)

  abbrev outs : List ℕ
  outs = nodes_out l w (fitting_of l w)

  same-outs : nodes_out l w' (fitting_of l w) ≡ outs
  same-outs = ap (λ (ident : ℕ → ℕ). out_of ident (joined (fitting_of l w) l.lists) (first_node l) l.nodes) same-idents

  same-mends : wrong w' mends ≡ wrong w mends
  same-mends =
      wrong-same w w' mends
      (λ p m.
      ⊎_elim (λ i. let k = in-lists l w (fitting_of l w) i in same_asked k.0 k.1 (fitting_of l w k.0) p k.2)
      (λ i. let c = in-clears l w (fitting_of l w) i in moved (ap (λ (q : Write). q.at) (sym c.4)) (same-ident c.0))
      (Memᴰ.append_cases (lists_asked l (fitting_of l w)) m))

  parted : (x : List ℕ) → wrong x (required l w (fitting_of l w)) ≡ wrong x mends ++ wrong x (blanks_asked l outs)
  parted x =
      ap (wrong x) (sym (append_assoc (lists_asked l (fitting_of l w)) (clears_asked l w (fitting_of l w)) (blanks_asked l outs)))
      ∙ wrong-append x mends (blanks_asked l outs)

  same-stores : recover_stores l w' (fitting_of l w') ≡ wrong w mends ++ wrong w' (blanks_asked l outs)
  same-stores =
      plan-same l w' (fitting_of l w') (fitting_of l w) (λ k h. ap only_of (same-fit k h))
      ∙ ap (λ (cs : List ℕ). wrong w' (lists_asked l (fitting_of l w) ++ (map (λ c. write (ident_at l c) 0) cs ++ blanks_asked l cs))) same-outs
      ∙ parted w'
      ∙ ap (λ (ps : List Write). ps ++ wrong w' (blanks_asked l outs)) same-mends

  same-recovery : SameRecovery w w'
  unfolding recover_of recover_plan
  same-recovery = by (opened w) refl
    where
      outside : All (Outside w) outs
      outside =
          in_all (Outside w) outs
          (λ c m.
          let o = out-is (view_of l w).ident (joined (fitting_of l w) l.lists) (first_node l) l.nodes c m in
          record { node = record { low = o.0; high = o.1 }; out = o.2; unworn = o.3 })

      asked-of : opened w ≡ Ok l → (r : Option Refusal) → refusal_from l w 0 l.lists ≡ r → SameRecovery w w'
      asked-of o None e =
          both (wrong w mends) outs outside (rw (o, e) (ap stores (parted w)))
          (rw (opens, o, same-refusal 0 l.lists (omega arith), e) (ap stores same-stores))
      asked-of o (Some n) e = neither n (rw (o, e)) (rw (opens, o, same-refusal 0 l.lists (omega arith), e))

      by : (o : Result Layout Refusal) → opened w ≡ o → SameRecovery w w'
      by (Err n) e = neither n (rw e) (rw (opens, e))
      by (Ok m) e = asked-of (e ∙ ap Ok (opened-open w m e).0) (refusal_from l w 0 l.lists) refl

  -- the same free cells
  same-several : (k p c : ℕ) (words : List ℕ) → several_plan w' k p c words ≡ several_plan w k p c words
  same-several k p c words = by (look_of w q) refl
    where
      q : Request
      q = Gaps k p c (length words)

      by : (x : Result Look Refusal) → look_of w q ≡ x → several_plan w' k p c words ≡ several_plan w k p c words
      by (Err n) e = several-refused w' k p c words (same-look q ∙ e) ∙ sym (several-refused w k p c words e)
      by (Ok o) e =
          let m = o.layout in
          let t = o.site in
          several-at w' k p c words (same-look q ∙ e)
          ∙ ap
          (λ (ident : ℕ → ℕ).
          stores
          (chain m k t.before t.after t.count (take (length words / m.width) (free_cells ident (around m c m.nodes))) words))
          (subst (λ (a : Layout). (view_of a w').ident ≡ (view_of a w).ident) (sym (opened-open w m (looked w q m t e).0).0) same-idents)
          ∙ sym (several-at w k p c words e)

  same-calls : SameCalls w w'
  unfolding format_answer check_answer length_answer read_number read_start insert_plan delete_plan mark_plan
  same-calls =
      record {
        questions = same-look;
        formats = λ m. rw s.size;
        checks = rw (same-look Check);
        lengths = λ k. rw (same-look (Whole k));
        reads = λ k p. rw (same-look (Member k p));
        places = λ k p. rw (same-look (Member k p));
        inserts = λ k p c words. rw (same-look (Gap k p c (length words)));
        severals = same-several;
        deletes = λ k p. rw (same-look (Member k p));
        marks = λ c. rw (same-look (Mark c));
        recovers = same-recovery;
      }

-- the stores of several inserts, given words that differ
chain-alike
    : (l : Layout) (k a b n : ℕ) (cells words words' : List ℕ) → All (Node l) cells → length words ≡ length cells * l.width
    → SameWrites l words words' (chain l k a b n cells words) (chain l k a b n cells words')
unfolding chain insert_writes
chain-alike l k a b n [] words words' nodes e = none words words' (e ∙ zero-mul l.width)
chain-alike l k a b n (c ∷ cs) words words' nodes e =
    next words words' (omega (arith, e, suc-mul (length cs) l.width)) c nodes.0
    (insert_links l k (record { before = a; cell = c; after = b; count = n })) _ _
    (chain-alike l k c b (n + 1) cs (drop l.width words) (drop l.width words') nodes.1
    (omega (arith, e, suc-mul (length cs) l.width, length-drop l.width words)))

-- those of one insert are those of several with one record
insert-chain
    : (l : Layout) (k : ℕ) (t : Site) (words : List ℕ) → length words ≡ l.width
    → chain l k t.before t.after t.count (t.cell ∷ []) words ≡ insert_writes l k t words
unfolding chain
insert-chain l k t words e = append-nil _ ∙ ap (insert_writes l k t) (take_all l.width words (omega (arith, e)))

-- an insert looks at the length of what it is given, and no further
module _ (w : List ℕ) (k p c : ℕ) (words words' : List ℕ) (e : length words' ≡ length words) where
  abbrev Given : Layout → Type 0
  Given l = SameStores l words words' (insert_plan w k p c words) (insert_plan w k p c words')

  same-given : Given (layout_of w)
  same-given = by (look_of w (Gap k p c (length words))) refl (ap (λ (m : ℕ). look_of w (Gap k p c m)) e)
    where
      by : (o : Result Look Refusal) → look_of w (Gap k p c (length words)) ≡ o → look_of w (Gap k p c (length words')) ≡ o → Given (layout_of w)
      by (Err n) q q' = refused n (insert-refused w k p c words q) (insert-refused w k p c words' q')
      by (Ok x) q q' =
          let l = x.layout in
          let t = x.site in
          let g = gap-placed w k p l t c (length words) q in
          let size : length words ≡ l.width = g.1 ∙ tail-width l in
          subst Given (opened-open w l (looked w (Gap k p c (length words)) l t q).0).0
          (stored _ _
          (chain-alike l k t.before t.after t.count (t.cell ∷ []) words words' (g.0.cell, tt) (omega (arith, size, one-mul l.width)))
          (insert-at w k p c words q ∙ ap stores (sym (insert-chain l k t words size)))
          (insert-at w k p c words' q' ∙ ap stores (sym (insert-chain l k t words' (e ∙ size)))))

  abbrev GivenSeveral : Layout → Type 0
  GivenSeveral l = SameStores l words words' (several_plan w k p c words) (several_plan w k p c words')

  same-several-given : GivenSeveral (layout_of w)
  same-several-given = by (look_of w (Gaps k p c (length words))) refl (ap (λ (m : ℕ). look_of w (Gaps k p c m)) e)
    where
      by : (o : Result Look Refusal) → look_of w (Gaps k p c (length words)) ≡ o → look_of w (Gaps k p c (length words')) ≡ o → GivenSeveral (layout_of w)
      by (Err n) q q' = refused n (several-refused w k p c words q) (several-refused w k p c words' q')
      by (Ok x) q q' =
          let l = x.layout in
          let t = x.site in
          let a = looked w (Gaps k p c (length words)) l t q in
          let m = length words in
          let s = sound-lists l (opened-open w l a.0).2 w (gaps-looked l w k p c m t a.1).sound in
          subst GivenSeveral (opened-open w l a.0).0
          (stored _ _
          (chain-alike l k t.before t.after t.count (free_from l w c (m / l.width)) words words'
          (gaps-cells l w s k p c m t a.1).nodes (gaps-words l w s k p c m t a.1))
          (several-at w k p c words q)
          (several-at w k p c words' q'
          ∙ ap (λ (i : ℕ). stores (chain l k t.before t.after t.count (free_from l w c (i / l.width)) words')) e))

pub uninterpreted : Uninterpreted
uninterpreted = record { calls = same-calls; given = same-given; given_several = same-several-given }
