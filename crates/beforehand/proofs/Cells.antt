-- The cells of an insert of several records, by what is told of it: used in this order, and linked in.
use Prim.Native.Nat.{ℕ, zero, suc, ◌+◌, ◌*◌, ◌/◌, ◌<◌, ◌≤◌}
use mathlib.Core.Path.{◌≡◌, refl, ap, ◌∙◌, sym, subst}
use mathlib.Core.List.{List, [], ◌∷◌, ◌++◌}
use native.Mathlib.Omega.{arith}
use native.Mathlib.Nat.{zero-mul, suc-mul, mul-div_left}
use lib.ListN.{length, get_or, take, drop}
use lib.Seq.{length-take-le, get_or-append-add}
use Rattle.std.specs.Prelude.{Result, Ok, Err}
use Rattle.calls.specs.Answers.{answer_of, figures_of}
use Rattle.stores.specs.declared.Outcome.TheVariants.{Done}
use Rattle.stores.specs.Stores.{Write, write, in_row, Plan, refuse, stores, words_after}
use Rattle.stores.proofs.Outcomes.{outcome-done}
use Rattle.layout.specs.declared.Layout.{Layout}
use Rattle.layout.specs.declared.Refusal.{Refusal}
use Rattle.layout.specs.Words.{tail_words, layout_of, record_at, opened}
use Rattle.layout.proofs.Laws.{opened-open}
use Rattle.lists.specs.Lists.{Sound}
use Rattle.lists.specs.Decide.{view_of}
use Rattle.requests.specs.declared.Look.{Look}
use Rattle.requests.specs.declared.Site.{Site}
use Rattle.requests.specs.declared.Request.{Request}
use Rattle.requests.specs.declared.Request.TheVariants.{Gaps}
use Rattle.requests.specs.Requests.{site_of, look_of, with_look, at_site}
use Rattle.requests.proofs.Search.{free-few}
use Rattle.requests.proofs.Sites.{some-whole}
use Rattle.edits.specs.Edits.{insert_links, insert_writes, insert_stores, chain, free_from}
use Rattle.edits.specs.Edited.{splice_at, records_of}
use Rattle.edits.proofs.Done.{looked}
use Rattle.edits.proofs.Several.{insert-length, first-words, other-words, Chain-length, stores-few}
use Rattle.edits.proofs.Gaps.{GapsLooked, gaps-looked, gaps-cells, gaps-number, gaps-words}
use Rattle.calls.specs.declared.Figures.{Figures}
use Rattle.calls.specs.Calls.{several_plan, several_figures}
use Rattle.calls.proofs.Calls.{decided-sound}
use Rattle.demands.specs.Demand2.{records_in, Leaves}
use Rattle.demands.proofs.Demand2.{demand2}
use Rattle.beforehand.specs.Beforehand.{full, answer_by, needed_by, Uses}

-- the stores of record i, of several, begin with the record of cell i
row_first : (a : ℕ) (vs : List ℕ) (ys zs : List Write) → 0 < length vs → (get_or ((in_row a vs ++ ys) ++ zs) 0 (write 0 0)).at ≡ a
unfolding in_row
row_first a [] ys zs h = absurd (omega arith)
row_first a (v ∷ vs) ys zs h = refl

chain-order
    : (l : Layout) → 0 < l.width → (k a b n : ℕ) (cells words : List ℕ) → length cells * l.width ≤ length words
    → (i : ℕ) → i < length cells → (get_or (chain l k a b n cells words) (i * insert_stores l) (write 0 0)).at ≡ record_at l (get_or cells i 0)
unfolding chain insert_writes
chain-order l some k a b n [] words h i g = absurd (omega arith)
chain-order l some k a b n (c ∷ cs) words h zero g =
    let t : Site = record { before = a; cell = c; after = b; count = n } in
    let rest = chain l k c b (n + 1) cs (drop l.width words) in
    let size : length (take l.width words) ≡ l.width = length-take-le l.width words (omega (arith, suc-mul (length cs) l.width)) in
    ap (λ (j : ℕ). (get_or (insert_writes l k t (take l.width words) ++ rest) j (write 0 0)).at) (zero-mul (insert_stores l))
    ∙ row_first (record_at l c) (take l.width words) (insert_links l k t) rest (omega (arith, size))
chain-order l some k a b n (c ∷ cs) words h (suc i) g =
    let t : Site = record { before = a; cell = c; after = b; count = n } in
    let first = insert_writes l k t (take l.width words) in
    let rest = chain l k c b (n + 1) cs (drop l.width words) in
    let e : suc i * insert_stores l ≡ length first + i * insert_stores l =
    omega (arith, suc-mul i (insert_stores l), insert-length l k t (take l.width words), first-words l (length cs) words h) in
    ap (λ (j : ℕ). (get_or (first ++ rest) j (write 0 0)).at) e
    ∙ ap (λ (q : Write). q.at) (get_or-append-add first rest (i * insert_stores l) (write 0 0))
    ∙ chain-order l some k c b (n + 1) cs (drop l.width words) (other-words l (length cs) words h) i (omega arith)

abbrev stores_of : Plan → List Write
stores_of (refuse n) = []
stores_of (stores ps) = ps

module _ (w : List ℕ) (k p c : ℕ) (words : List ℕ) where
  abbrev m : ℕ
  m = length words

  abbrev gaps : Request
  gaps = Gaps k p c m

  -- what the plan and the figures are where the look found a site
  abbrev chained : Layout → Site → List Write
  chained l t = chain l k t.before t.after t.count (free_from l w c (m / l.width)) words

  abbrev plan : Result Look Refusal → Plan
  plan x = with_look x refuse (λ l t. stores (chained l t))

  abbrev figures : Result Look Refusal → Result Figures Refusal
  figures x = with_look x Err (λ l t. Ok (figures_of (free_from l w c (m / l.width)) (length (chained l t))))

  -- a site: the layout is the store's
  site : (l : Layout) (t : Site) → look_of w gaps ≡ at_site l t → (opened w ≡ Ok l) × (l ≡ layout_of w) × GapsLooked l w k p c m t
  site l t q =
      let o = looked w gaps l t q in
      (o.0, (opened-open w l o.0).0, gaps-looked l w k p c m t o.1)

  -- the stores are as many as there are cells, and no more than the full allowance
  chain-number : (l : Layout) (t : Site) → look_of w gaps ≡ at_site l t → length (chained l t) ≡ m / l.width * insert_stores l
  chain-number l t q =
      let g = (site l t q).2 in
      let n = length-take-le (m / l.width) _ g.facts.enough in
      Chain-length l k t.before t.after t.count (free_from l w c (m / l.width)) words
      (omega (arith, ap (λ (i : ℕ). i * l.width) n, g.facts.whole))
      ∙ ap (λ (i : ℕ). i * insert_stores l) n

  chain-most : (l : Layout) (t : Site) → look_of w gaps ≡ at_site l t → length (chained l t) ≤ full
  chain-most l t q =
      let s = site l t q in
      omega (
        arith,
        chain-number l t q,
        stores-few l (opened-open w l s.0).2 (m / l.width) (omega (arith, s.2.facts.enough, free-few l (view_of l w).ident c)),
      )

  -- the answer with full allowance
  pub answer-told : answer_by (needed_by (several_figures w k p c words)) ≡ answer_of (several_plan w k p c words) full
  unfolding several_figures several_plan
  answer-told = by (look_of w gaps) refl
    where
      by : (x : Result Look Refusal) → look_of w gaps ≡ x → answer_by (needed_by (figures x)) ≡ answer_of (plan x) full
      by (Err n) q = refl
      by (Ok o) q = ap Ok (outcome-done (chained o.layout o.site) full (chain-most o.layout o.site q))

  -- refused alike, and else told
  pub told-refused : {n : Refusal} → several_plan w k p c words ≡ refuse n → several_figures w k p c words ≡ Err n
  unfolding several_figures several_plan
  told-refused {n} = by (look_of w gaps)
    where
      by : (x : Result Look Refusal) → plan x ≡ refuse n → figures x ≡ Err n
      by (Err i) e = let z : i ≡ n = cc in ap Err z
      by (Ok o) e = let z : ◌≡◌ {A = ℕ} 0 1 = cc in absurd (omega arith)

  pub told-stored : {ps : List Write} → several_plan w k p c words ≡ stores ps
      → (f : Figures) × (several_figures w k p c words ≡ Ok f)
  unfolding several_figures several_plan
  told-stored {ps} = by (look_of w gaps)
    where
      by : (x : Result Look Refusal) → plan x ≡ stores ps → (f : Figures) × (figures x ≡ Ok f)
      by (Err i) e = let z : ◌≡◌ {A = ℕ} 0 1 = cc in absurd (omega arith)
      by (Ok o) e = (_, refl)

  -- the cells that are told
  module _ (f : Figures) where
    -- at a site in the store's own layout
    used : (t : Site) → look_of w gaps ≡ at_site (layout_of w) t
        → figures_of (free_from (layout_of w) w c (m / (layout_of w).width)) (length (chained (layout_of w) t)) ≡ f
        → answer_of (several_plan w k p c words) full ≡ Ok (Done f.stores) → ((ps : List Write) → several_plan w k p c words ≡ stores ps → chained (layout_of w) t ≡ ps)
        → Uses w k p c words f.first f.last f.stores
    used t q e answer same =
        record {
          sound = sound;
          cells = cells;
          some = omega (arith, some-whole m l.width g.facts.some g.facts.whole, number);
          records = size;
          first = ap (λ (x : Figures). x.first) e;
          last = ap (λ (x : Figures). x.last) e;
          number = sym (ap (λ (x : Figures). x.stores) e) ∙ chain-number l t q ∙ ap (λ (i : ℕ). i * insert_stores l) (sym number);
          free = gaps-cells l w sound.ordered.lists k p c m t o.1;
          order =
              λ ps z i h.
              subst (λ (qs : List Write). (get_or qs (i * insert_stores l) (write 0 0)).at ≡ record_at l (get_or cells i 0)) (same ps z)
              (chain-order l sound.ordered.in_range.some_width k t.before t.after t.count cells words (omega (arith, size)) i h);
          linked =
              subst (λ (i : ℕ). Leaves w sound k (splice_at p cells sequence) (splice_at p (records_of i l.width words) (records_in w sound k)) left) (sym number)
              (subst (λ (i : ℕ). Leaves w sound k (splice_at p (free_from l w c i) sequence) (splice_at p (records_of i l.width words) (records_in w sound k)) left)
              (sym (ap (λ (i : ℕ). i / l.width) done.1 ∙ mul-div_left done.0 sound.ordered.in_range.some_width))
              done.3);
        }
      where
        l : Layout
        l = layout_of w

        o : (opened w ≡ Ok l) × (site_of l w gaps ≡ Ok t)
        o = looked w gaps l t q

        g : GapsLooked l w k p c m t
        g = gaps-looked l w k p c m t o.1

        sound : Sound w
        sound = decided-sound w l o.0 g.sound

        sequence : List ℕ
        sequence = sound.ordered.lists.sequence k

        cells : List ℕ
        cells = free_from l w c (m / l.width)

        number : length cells ≡ m / l.width
        number = gaps-number l w sound.ordered.lists k p c m t o.1

        size : m ≡ length cells * l.width
        size = gaps-words l w sound.ordered.lists k p c m t o.1

        left : List ℕ
        left = words_after (several_plan w k p c words) full w

        done : (r : ℕ) × (m ≡ r * l.width) × (f.stores ≡ r * (tail_words l + 6))
            × Leaves w sound k (splice_at p (free_from l w c r) sequence) (splice_at p (records_of r l.width words) (records_in w sound k)) left
        done = (demand2.severals w sound k p c words).done full f.stores answer

    pub uses-told : several_figures w k p c words ≡ Ok f → Uses w k p c words f.first f.last f.stores
    unfolding several_figures several_plan
    uses-told e = by (look_of w gaps) refl e (sym answer-told ∙ ap (λ (x : Result Figures Refusal). answer_by (needed_by x)) e)
      where
        by : (x : Result Look Refusal) → look_of w gaps ≡ x → figures x ≡ Ok f → answer_of (several_plan w k p c words) full ≡ Ok (Done f.stores) → Uses w k p c words f.first f.last f.stores
        by (Err i) q e answer = let z : ◌≡◌ {A = ℕ} 0 1 = cc in absurd (omega arith)
        by (Ok o) q e answer =
            let l = o.layout in
            let t = o.site in
            let r : figures_of (free_from l w c (m / l.width)) (length (chained l t)) ≡ f = cc in
            let s = site l t q in
            let y = subst (λ (x : Layout). (look_of w gaps ≡ at_site x t) × (figures_of (free_from x w c (m / x.width)) (length (chained x t)) ≡ f)) s.1 (q, r) in
            used t y.0 y.1 answer (λ ps z. sym (ap (λ (x : Result Look Refusal). stores_of (plan x)) y.0) ∙ ap stores_of z)
