-- Demand 2: on a sound store length, read, insert and delete answer, plan and leave what plain sequences would.
use Prim.Native.Nat.{ℕ, ◌+◌, ◌*◌, ◌/◌, ◌%◌, ◌<◌, ◌≤◌}
use mathlib.Core.Path.{◌≡◌, refl, ap, ap₂, ◌∙◌, sym, subst}
use mathlib.Core.List.Memᴰ
use mathlib.Core.List.{List, [], ◌∷◌, ◌++◌, map}
use mathlib.Core.Bool.{Bool, true, false}
use native.Mathlib.Omega.{arith}
use native.Mathlib.Nat.{zero-mul, mul-div_left, mul-mod_left}
use lib.Dec.{eqb, ltb}
use lib.ListN.{length, get_or, replicate, drop, take-append-drop, length-replicate}
use borrow.Author.Tests.{ltb-true, ltb-false, lt-ltb, le-leb, eq-eqb}
use Rattle.sequences.specs.Sequence.{◌∈◌}
use Rattle.sequences.proofs.Members.{all_in, at_in}
use Rattle.stores.specs.declared.Outcome.TheVariants.{Done}
use Rattle.stores.specs.Stores.{Write, stores, outcome_of, run, applied}
use Rattle.stores.proofs.Outcomes.{done-whole}
use Rattle.stores.proofs.Laws.{applied-all, length-row}
use Rattle.std.specs.Prelude.{Option, Some, None, Result, Ok, Err}
use Rattle.layout.specs.declared.Refusal.{Refusal}
use Rattle.layout.specs.declared.Refusal.TheVariants.{Range, Size, NoList}
use Rattle.layout.specs.declared.Layout.{Layout}
use Rattle.layout.specs.Words.{tail_words, Node, ask, in_range, size_of, record_at, layout_of, free}
use Rattle.layout.proofs.Laws.{node-is, in-range}
use Rattle.lists.specs.Lists.{Sound, Blank}
use Rattle.lists.specs.Decide.{view_of, sequence_of}
use Rattle.lists.proofs.Unique.{list-sequence}
use Rattle.lists.proofs.Nodes.{unlisted-out}
use Rattle.lists.proofs.Empty.{formatted-empty}
use Rattle.requests.specs.declared.Site.{Site}
use Rattle.requests.specs.declared.Request.{Request}
use Rattle.requests.specs.declared.Request.TheVariants.{Member, Gap, Gaps}
use Rattle.requests.specs.Requests.{around, first_free, free_cells, member_at, gap_at, gaps_at, site_in, site_of, look_of}
use Rattle.requests.proofs.Laws.{look-refused, look_at}
use Rattle.requests.proofs.Turn.{around-all, free-taken}
use Rattle.edits.specs.Edits.{insert_writes, chain_at, delete_links, delete_writes, free_from}
use Rattle.edits.specs.Edited.{insert_at, splice_at, delete_at, replaced, FreeNodes, record_in, records_of, Edited}
use Rattle.edits.proofs.Writes.{record_same}
use Rattle.edits.proofs.Edited.{replaced-own, replaced-other, in-splice}
use Rattle.requests.proofs.Search.{none_free}
use Rattle.edits.proofs.Delete.{delete-member}
use Rattle.edits.proofs.Done.{gap-facts, member-facts, insert-done, delete-done, insert-full}
use Rattle.edits.proofs.Several.{insert-length, Chain-length, several-inserted}
use Rattle.edits.proofs.Gaps.{gaps-looked, free-most, gaps-full, gaps-position, gaps-cells, gaps-number, gaps-words, gaps-chain}
use Rattle.calls.specs.Answers.{formatted_number, formatted_words, Answer, answer_of}
use Rattle.calls.specs.Calls.{format_answer, format_words, length_answer, read_number, read_words, insert_plan, several_plan, delete_plan}
use Rattle.calls.proofs.Cases.{insert-refused, insert-at, several-refused, several-at, delete-refused, delete-at}
use Rattle.calls.proofs.Calls.{check-decides, sound-opened, sound-decided, sound-length}
use Rattle.demands.specs.Demand2.{records_in, Leaves, FreeNode, Inserts, OneByOne, Severals, Deletes, Demand2}
use Rattle.demands.proofs.Uninterpreted.{uninterpreted}
use Rattle.demands.proofs.OneByOne.{one_by_one}
use Rattle.demands.proofs.Plain.{map-insert, map-splice, map-delete, map_at, map-behind, map_same}

-- format, done: not refused
formats : (l : Layout) (w : List ℕ) → format_answer l w ≡ Ok tt
    → (s : Sound (format_words l w)) × (layout_of (format_words l w) ≡ l) × ((k : ℕ) → s.ordered.lists.sequence k ≡ [])
unfolding format_answer
formats l w = by (in_range l) (eqb (length w) (size_of l)) refl
  where
    by : (b d : Bool) → in_range l ≡ b → let a : Result (Unit {0}) Refusal = ask b (Err Range) (ask d (Err Size) (Ok tt)) in a ≡ Ok tt
        → (s : Sound (formatted_words l w a)) × (layout_of (formatted_words l w a) ≡ l) × ((k : ℕ) → s.ordered.lists.sequence k ≡ [])
    by false d e a = absurd (omega (arith, ap formatted_number a))
    by true false e a = absurd (omega (arith, ap formatted_number a))
    by true true e a = formatted-empty l (in-range l e)

-- length and read of list k of a sound store: questions 1 to 4 and 6 are answered yes
module _ (w : List ℕ) (s : Sound w) (k : ℕ) where
  abbrev members : List ℕ
  members = s.ordered.lists.sequence k

  members-are : k < (layout_of w).lists → sequence_of (layout_of w) w k ≡ members
  members-are h = list-sequence (layout_of w) w k h members (s.ordered.lists.lists k h)

  lengths : length_answer w k ≡ ask (ltb k (layout_of w).lists) (Err NoList) (Ok (length members))
  unfolding length_answer look_of site_in
  lengths = by (ltb k (layout_of w).lists) refl
    where
      by : (b : Bool) → ltb k (layout_of w).lists ≡ b → length_answer w k ≡ ask b (Err NoList) (Ok (length members))
      by true e = sound-length w s k (ltb-true _ _ e)
      by false e = rw (sound-opened w s, e)

  reads : (p : ℕ) → k < (layout_of w).lists
      → (read_number w k p ≡ ask (ltb p (length members)) 7 0) × (read_words w k p ≡ get_or (records_in w s k) p [])
  unfolding read_number read_words look_of site_in member_at
  reads p h = by (ltb p (length members)) refl
    where
      by : (b : Bool) → ltb p (length members) ≡ b
          → (read_number w k p ≡ ask (ltb p (length members)) 7 0) × (read_words w k p ≡ get_or (records_in w s k) p [])
      by true e =
          rw (sound-opened w s, lt-ltb _ _ h, sound-decided w s, members-are h, e)
          (refl, sym (map_at (record_in (layout_of w) w) members p 0 [] (ltb-true _ _ e)))
      by false e =
          rw (sound-opened w s, lt-ltb _ _ h, sound-decided w s, members-are h, e)
          (refl, sym (map-behind (record_in (layout_of w) w) members p [] (ltb-false _ _ e)))

-- an edited store, whose cells of list k have these records, has what plain sequences would
leaves
    : (w : List ℕ) (s : Sound w) (k : ℕ) {cells w' : List ℕ} {records : List (List ℕ)} → k < (layout_of w).lists → Edited w s k cells w'
    → map (record_in (layout_of w) w') cells ≡ records → Leaves w s k cells records w'
leaves w s k {cells} {w'} {records} hk e same =
    record {
      sound = e.sound;
      layout = e.layout;
      sequences = e.sequences;
      others = e.others;
      reads =
          λ p.
          read-in k hk p
          ∙ ap (read_of p) (replaced-own s.ordered.lists.sequence k cells k refl)
          ∙ ap (λ (r : List (List ℕ)). get_or r p []) same;
      reads_others =
          λ j p h n.
          read-in j h p
          ∙ ap (read_of p) (replaced-other s.ordered.lists.sequence k cells j n)
          ∙ ap (λ (r : List (List ℕ)). get_or r p []) (map_same _ _ (s.ordered.lists.sequence j) (kept j h n));
    }
  where
    read_of : ℕ → List ℕ → List ℕ
    read_of p q = get_or (map (record_in (layout_of w) w') q) p []

    read-in : (j : ℕ) → j < (layout_of w).lists → (p : ℕ) → read_words w' j p ≡ read_of p (replaced s.ordered.lists.sequence k cells j)
    read-in j h p =
        (reads w' e.sound j p (subst (λ (l : Layout). j < l.lists) (sym e.layout) h)).1
        ∙ ap₂ (λ (l : Layout) (q : ℕ → List ℕ). get_or (map (record_in l w') (q j)) p []) e.layout e.sequences

    kept : (j : ℕ) → j < (layout_of w).lists → (j ≡ k → ⊥) → (x : ℕ) → x ∈ s.ordered.lists.sequence j
        → record_in (layout_of w) w' x ≡ record_in (layout_of w) w x
    kept j h n x m =
        record_same (layout_of w) w w' x (all_in (Node (layout_of w)) (s.ordered.lists.sequence j) (s.ordered.lists.lists j h).nodes m)
        (e.sound.ordered.exact ∙ ap size_of e.layout ∙ sym s.ordered.exact) (λ i b. e.others j h n x (3 + i) (Memᴰ.tail m) b)

-- done, all stores are made: P + 6 of an insert, 4 + P of a delete
stores-done : (ps : List Write) (m n : ℕ) (w : List ℕ) → answer_of (stores ps) m ≡ Ok (Done n) → (n ≡ length ps) × (applied ps m w ≡ run ps w)
stores-done ps m n w e =
    let q : outcome_of ps m ≡ Done n = cc in
    let d = done-whole ps m n q in
    (d.1, applied-all ps m w d.0)

delete-stores : (l : Layout) (k : ℕ) (t : Site) → length (delete_writes l k t) ≡ 4 + tail_words l
unfolding delete_links delete_writes
delete-stores l k t =
    omega (arith, length-row (record_at l t.cell) (replicate (tail_words l) 0), length-replicate {A = ℕ} (tail_words l) 0)

-- a free node is in no list and not worn, so in a sound store it has no record
pub free-blank : (w : List ℕ) (s : Sound w) (i : ℕ) → FreeNode w i → Blank (layout_of w) w i
free-blank w s i f =
    let o = s.ordered in
    s.wiped i f.node (λ k h. unlisted-out (layout_of w) w k (o.lists.sequence k) o.in_range h (o.lists.lists k h) i (free f.free))
    (λ e. omega (arith, f.free, e))

-- what is refused has no site, and is not done
refused-at : {n : Refusal} {t : Site} → Err n ≡ Ok t → ⊥
refused-at e = let z : ◌≡◌ {A = ℕ} 0 1 = cc in absurd (omega arith)

refused-done : {n : Refusal} {m : ℕ} → ◌≡◌ {A = Answer} (Err n) (Ok (Done m)) → ⊥
refused-done e = let z : ◌≡◌ {A = ℕ} 0 1 = cc in absurd (omega arith)

module _ (w : List ℕ) (s : Sound w) (k p : ℕ) where
  abbrev its : Layout
  its = layout_of w

  abbrev cells : List ℕ
  cells = s.ordered.lists.sequence k

  -- insert: where all questions are answered yes there is a site; a site gives the stores, and its absence the refusal
  module _ (c : ℕ) (words : List ℕ) where
    abbrev gap : Request
    gap = Gap k p c (length words)

    insert-site : k < its.lists → p ≤ length cells → Node its c → length words ≡ its.width → (i : ℕ) → FreeNode w i
        → (t : Site) × (site_of its w gap ≡ Ok t)
    unfolding site_in gap_at
    insert-site hk hp hc hw i f = by (first_free (view_of its w).ident (around its c its.nodes)) refl
      where
        by : (x : Option ℕ) → first_free (view_of its w).ident (around its c its.nodes) ≡ x → (t : Site) × (site_of its w gap ≡ Ok t)
        by None e =
            absurd
            (all_in (λ y. (view_of its w).ident y ≡ 0 → ⊥) (around its c its.nodes) (none_free _ _ e) (around-all its c i hc f.node) f.free)
        by (Some x) e = (
          record { before = get_or (k ∷ cells) p 0; cell = x; after = get_or (cells ++ k ∷ []) p 0; count = length cells },
          rw (lt-ltb _ _ hk, sound-decided w s, members-are w s k hk, le-leb _ _ hp, node-is its c hc, eq-eqb _ _ hw, e),
        )

    inserts : Inserts w s k p c words (insert_plan w k p c words)
    inserts = by (site_of its w gap) refl
      where
        by : (x : Result Site Refusal) → site_of its w gap ≡ x → Inserts w s k p c words (insert_plan w k p c words)
        by (Err n) e =
            rw (insert-refused w k p c words (sym (look-refused w gap (sound-opened w s) e)))
            (record {
              accepted = λ hk hp hc hw i f. absurd (refused-at (sym e ∙ (insert-site hk hp hc hw i f).1));
              full = λ z i f. insert-full its w k p c (length words) (e ∙ cc z) i f.node f.free;
              done = λ m n z. absurd (refused-done z);
            })
        by (Ok t) e =
            let look = sym (look_at w gap (sound-opened w s) e) in
            let f = gap-facts its w k p c (length words) t e in
            let i = insert-done w s k p its t c words look in
            let same =
            map-insert (record_in its (run (insert_writes its k t words) w)) p t.cell cells
            ∙ ap₂ (insert_at p) i.given (map_same _ _ cells (λ x m. i.edited.records x m (in-splice p (t.cell ∷ []) cells x m))) in
            rw (insert-at w k p c words look)
            (record {
              accepted = λ hk hp hc hw j g. (insert_writes its k t words, refl);
              full = λ y j g. let z : ◌≡◌ {A = ℕ} 0 1 = cc in absurd (omega arith);
              done =
                  λ m n z.
                  let d = stores-done (insert_writes its k t words) m n w z in
                  (d.0 ∙ insert-length its k t words ∙ ap (λ (x : ℕ). x + 6) f.size, (t.cell, f.first, rw d.1 (leaves w s k f.list i.edited same)));
            })

    -- several records, in the same way
    abbrev gaps : Request
    gaps = Gaps k p c (length words)

    abbrev met : List ℕ
    met = free_cells (view_of its w).ident (around its c its.nodes)

    several-site : k < its.lists → p ≤ length cells → Node its c → 0 < length words → (nodes : List ℕ) → FreeNodes its w nodes
        → length words ≡ length nodes * its.width → (t : Site) × (site_of its w gaps ≡ Ok t)
    unfolding site_in gaps_at
    several-site hk hp hc some nodes f size = by (first_free (view_of its w).ident (around its c its.nodes)) refl
      where
        most : length nodes ≤ length met
        most = free-most its w c hc nodes f

        number : length words / its.width ≡ length nodes
        number = ap (λ (n : ℕ). n / its.width) size ∙ mul-div_left (length nodes) s.ordered.in_range.some_width

        whole : length words % its.width ≡ 0
        whole = ap (λ (n : ℕ). n % its.width) size ∙ mul-mod_left (length nodes) its.width

        enough : length words / its.width ≤ length met
        enough = omega (arith, number, most)

        by : (x : Option ℕ) → first_free (view_of its w).ident (around its c its.nodes) ≡ x → (t : Site) × (site_of its w gaps ≡ Ok t)
        by None e =
            let z : length nodes ≡ 0 = omega (arith, most, ap length (free-taken (view_of its w).ident (around its c its.nodes) (none_free _ _ e))) in
            absurd (omega (arith, size, ap (λ (n : ℕ). n * its.width) z, zero-mul its.width))
        by (Some x) e = (
          record { before = get_or (k ∷ cells) p 0; cell = x; after = get_or (cells ++ k ∷ []) p 0; count = length cells },
          rw (
            lt-ltb _ _ hk,
            sound-decided w s,
            members-are w s k hk,
            le-leb _ _ hp,
            node-is its c hc,
            lt-ltb _ _ some,
            eq-eqb _ _ whole,
            le-leb _ _ enough,
            e,
          ),
        )

    severals : Severals w s k p c words (several_plan w k p c words)
    severals = by (site_of its w gaps) refl
      where
        by : (x : Result Site Refusal) → site_of its w gaps ≡ x → Severals w s k p c words (several_plan w k p c words)
        by (Err n) e =
            rw (several-refused w k p c words (sym (look-refused w gaps (sound-opened w s) e)))
            (record {
              accepted = λ hk hp hc some nodes f size. absurd (refused-at (sym e ∙ (several-site hk hp hc some nodes f size).1));
              full = λ z nodes f. omega (arith, gaps-full its w s.ordered.in_range.some_width k p c (length words) (e ∙ cc z) nodes f);
              done = λ m i z. absurd (refused-done z);
              single = λ ps z r size. let y : ◌≡◌ {A = ℕ} 0 1 = cc in absurd (omega arith);
            })
        by (Ok t) e =
            let m = length words in
            let look = sym (look_at w gaps (sound-opened w s) e) in
            let g = gaps-looked its w k p c m t e in
            let used = free_from its w c (m / its.width) in
            let ps = chain_at its k p cells used words in
            let number = gaps-number its w s.ordered.lists k p c m t e in
            let size = gaps-words its w s.ordered.lists k p c m t e in
            let hp = gaps-position its w s.ordered.lists k p c m t e in
            let i = several-inserted w s k g.list p hp used (gaps-cells its w s.ordered.lists k p c m t e) words (omega (arith, size)) in
            let same =
            map-splice (record_in its (run ps w)) p used cells
            ∙ ap₂ (splice_at p) (i.given ∙ ap (λ (n : ℕ). records_of n its.width words) number) (map_same _ _ cells (λ x m. i.edited.records x m (in-splice p used cells x m))) in
            rw (several-at w k p c words look, gaps-chain its w s.ordered.lists k p c m t e words)
            (record {
              accepted = λ hk hp hc some nodes f size. (ps, refl);
              full = λ y nodes f. let z : ◌≡◌ {A = ℕ} 0 1 = cc in absurd (omega arith);
              done =
                  λ a n z.
                  let d = stores-done ps a n w z in (
                    m / its.width,
                    g.facts.whole,
                    d.0
                        ∙ Chain-length its k (get_or (k ∷ cells) p 0) (get_or (cells ++ k ∷ []) p 0) (length cells) used words (omega (arith, size))
                        ∙ ap (λ (x : ℕ). x * (tail_words its + 6)) number,
                    rw d.1 (leaves w s k g.list i.edited same),
                  );
              single =
                  λ qs z r q.
                  let x : ps ≡ qs = cc z in
                  let y : length used ≡ r = number ∙ ap (λ (n : ℕ). n / its.width) q ∙ mul-div_left r s.ordered.in_range.some_width in
                  subst (OneByOne k p c (records_of r its.width words) w) x
                  (subst (λ (n : ℕ). OneByOne k p c (records_of n its.width words) w ps) y
                  (one_by_one its w (sound-opened w s) s.ordered.exact s.ordered.lists s.wiped k g.list p hp c g.facts.start used (drop (m / its.width) met) words
                  (sym (take-append-drop (m / its.width) met)) (omega (arith, size))));
            })

  -- delete, in the same way
  delete-site : k < its.lists → p < length cells → (t : Site) × (site_of its w (Member k p) ≡ Ok t)
  unfolding site_in member_at
  delete-site hk hp = (
    record { before = get_or (k ∷ cells) p 0; cell = get_or cells p 0; after = get_or (cells ++ k ∷ []) (p + 1) 0; count = length cells },
    rw (lt-ltb _ _ hk, sound-decided w s, members-are w s k hk, lt-ltb _ _ hp),
  )

  deletes : Deletes w s k p (delete_plan w k p)
  deletes = by (site_of its w (Member k p)) refl
    where
      by : (x : Result Site Refusal) → site_of its w (Member k p) ≡ x → Deletes w s k p (delete_plan w k p)
      by (Err n) e =
          rw (delete-refused w k p (sym (look-refused w (Member k p) (sound-opened w s) e)))
          (record {
            accepted = λ hk hp. absurd (refused-at (sym e ∙ (delete-site hk hp).1));
            done = λ m n z. absurd (refused-done z);
          })
      by (Ok t) e =
          let look = sym (look_at w (Member k p) (sound-opened w s) e) in
          let f = member-facts its w k p t e in
          let i = delete-done w s k p its t look in
          let w' = run (delete_writes its k t) w in
          let hp : p < length cells = subst (λ (q : List ℕ). p < length q) (members-are w s k f.list) f.position in
          let same =
          map_same _ _ (delete_at p cells) (λ x m. i.edited.records x (delete-member its w s.ordered.exact s.ordered.lists k f.list p hp x m) m)
          ∙ map-delete (record_in its w) p cells in
          let freed : FreeNode w' (get_or cells p 0) =
          record {
            node = rw i.edited.layout (all_in (Node its) cells (s.ordered.lists.lists k f.list).nodes (at_in cells p hp));
            free = rw i.edited.layout i.free;
          } in
          let blank : (j : ℕ) → FreeNode w' j → Blank its w' j =
          λ j g. subst (λ (l : Layout). Blank l w' j) i.edited.layout (free-blank w' i.edited.sound j g) in
          rw (delete-at w k p look)
          (record {
            accepted = λ hk hp. (delete_writes its k t, refl);
            done =
                λ m n z.
                let d = stores-done (delete_writes its k t) m n w z in
                (d.0 ∙ delete-stores its k t, rw d.1 (leaves w s k f.list i.edited same), rw d.1 freed, rw d.1 blank);
          })

pub demand2 : Demand2
demand2 =
    record {
      checks = check-decides;
      formats = formats;
      lengths = lengths;
      reads = reads;
      inserts = inserts;
      severals = severals;
      deletes = deletes;
      uninterpreted = uninterpreted;
    }
