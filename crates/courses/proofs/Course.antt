-- The course from any cut of an ordered store, whatever the call was.
use Prim.Native.Nat.{ℕ, ◌+◌, ◌<◌, ◌≤◌}
use mathlib.Core.Path.{◌≡◌, refl, ap, ◌∙◌, sym, subst}
use mathlib.Core.List.Memᴰ
use mathlib.Core.List.{List, [], ◌∷◌, ◌++◌}
use mathlib.Core.Logic.{inl, inr}
use native.Mathlib.Decide.{ℕ_discrete}
use native.Mathlib.Omega.{arith}
use lib.ListN.{length, get_or}
use Rattle.sequences.specs.Sequence.{◌∈◌, All}
use Rattle.sequences.proofs.Members.{all_in}
use Rattle.calls.specs.Answers.{answer_of}
use Rattle.stores.specs.Stores.{Write, Plan, run}
use Rattle.stores.proofs.Laws.{length_run}
use Rattle.layout.specs.declared.Layout.{Layout}
use Rattle.layout.specs.Words.{Node, cell_at, cell_words, ident_at, worn_ident, worn, layout_of}
use Rattle.layout.proofs.Laws.{open-opened}
use Rattle.layout.proofs.Apart.{cell-behind, links-words}
use Rattle.lists.specs.Lists.{Ordered, Sound, Wiped, IsList, SameCells, KeepsWorn}
use Rattle.lists.proofs.Nodes.{unlisted-out}
use Rattle.lists.proofs.Same.{ident-word, kept-worn, same-opened, same-sound}
use Rattle.edits.specs.Edited.{replaced}
use Rattle.edits.proofs.Edited.{replaced-own, replaced-other}
use Rattle.recovery.specs.Plan.{joined, recover_stores, recover_plan, Accepted, Kind}
use Rattle.recovery.proofs.Joined.{joined-one}
use Rattle.recovery.proofs.Count.{plan-kinds, plan-differs}
use Rattle.courses.specs.Course.{all_stores, needed, Alteration, untouched, altered, both, Allowed, AllowedBut, altered_below, words_through}
use Rattle.courses.specs.Demand3.{Course}
use Rattle.courses.proofs.Other.{Touches}
use Rattle.courses.proofs.Cut.{Cut}
use Rattle.courses.proofs.Found.{altered-out, length-altered, kept, kept-outside, found-accepted}
use Rattle.courses.proofs.Final.{final-head, final-outside, final-worn, final-lists, final-ident, final-wiped, final-record, final-words}
use Rattle.courses.proofs.Recoveries.{recovered}
use Rattle.courses.proofs.Standing.{Standing, standing-plan, standing-after}

module _ (w : List ℕ) (s : Ordered w) (k : ℕ) (own x y₀ : List ℕ) (cut : Cut (layout_of w) w s.lists k own x y₀)
    (due : KeepsWorn (layout_of w) w x) (left : KeepsWorn (layout_of w) w y₀)
    (alts : ℕ → Alteration) (allowed : AllowedBut k (layout_of w).lists s.lists.sequence alts) where
  abbrev pub l : Layout
  l = layout_of w

  -- the found store
  abbrev pub y : List ℕ
  y = altered_below l k alts l.lists y₀

  -- the sequences of the found store, and of the final one
  abbrev pub t : ℕ → List ℕ
  t = replaced s.lists.sequence k own

  accepted : Accepted l y t
  accepted = found-accepted l w s.lists k alts allowed s.in_range y₀ cut.others cut.rest own (λ h. (cut.own h, cut.apart h))

  head : (a : ℕ) → a < 8 → get_or y a 0 ≡ get_or w a 0
  head a h = altered-out l k alts l.lists y₀ a (omega arith) (λ j _ _ c f _ q. omega (arith, cell-behind l c)) ∙ cut.head a h

  size : length y ≡ length w
  size = length-altered l k alts l.lists y₀ ∙ cut.size

  pub standing : Standing l t y
  standing =
      record {
        opens = same-opened w y head size ∙ open-opened w s.marked s.in_range s.exact;
        size = size ∙ s.exact;
        accepted = accepted;
      }

  abbrev ps : List Write
  ps = recover_stores l y t

  abbrev Final : List ℕ
  Final = run ps y

  sound : (v : Sound Final) × (v.ordered.lists.sequence ≡ t)
  sound =
      let f = final-lists l y standing.size t accepted in
      let r =
      same-sound w Final s (λ a h. final-head l y standing.size t accepted a h ∙ head a h) (length_run ps y ∙ size) f.0
      (subst (Wiped l Final) (sym f.1) (final-wiped l y standing.size t accepted)) in
      (r.0, r.1 ∙ f.1)

  -- the list named
  mine : k < l.lists → SameCells l x Final (k ∷ own)
  mine h =
      subst (λ (r : List ℕ). SameCells l x Final (k ∷ r)) q
      (final-words l y standing.size t accepted x k h (subst (IsList l x k) (sym q) (cut.list h))
      (λ c f n g z.
      let i : c ∈ own = subst (λ (r : List ℕ). c ∈ r) q n in
      kept-outside l w s.lists k alts allowed s.in_range y₀ cut.others cut.rest c f z (cut.apart h c (Memᴰ.tail i))
      ∙ cut.records h c f i g z))
    where
      q : t k ≡ own
      q = replaced-own s.lists.sequence k own k refl

  -- every other list
  theirs : (j : ℕ) → j < l.lists → (j ≡ k → ⊥) → SameCells l w Final (j ∷ s.lists.sequence j)
  theirs j h n =
      subst (λ (r : List ℕ). SameCells l w Final (j ∷ r)) q
      (final-words l y standing.size t accepted w j h (subst (IsList l w j) (sym q) (s.lists.lists j h))
      (λ c f i g z.
      let d : c ∈ s.lists.sequence j = subst (λ (r : List ℕ). c ∈ r) q i in
      kept l w s.lists k alts allowed s.in_range y₀ cut.others cut.rest j h n c f (Memᴰ.tail d) z
      (untouched-record (alts j) c f d g (allowed j h n))))
    where
      q : t j ≡ s.lists.sequence j
      q = replaced-other s.lists.sequence k own j n

      no_header : (c : ℕ) → c ∈ s.lists.sequence j → c ≡ j → ⊥
      no_header c d e = omega (arith, (all_in (Node l) (s.lists.sequence j) (s.lists.lists j h).nodes d).low)

      untouched-record : (v : Alteration) (c f : ℕ) → c ∈ s.lists.sequence j → 3 ≤ f → Allowed j (s.lists.sequence j) v → Touches j v c f → ⊥
      untouched-record untouched c f d g a u = u
      untouched-record (altered b i v) c f d g (inl a) u = no_header c d (u.0 ∙ a.0)
      untouched-record (altered b i v) c f d g (inr a) u = omega (arith, u.1, a.1)
      untouched-record (both b v m) c f d g a (inl u) = omega (arith, u.1)
      untouched-record (both b v m) c f d g a (inr u) = no_header c d u.0

  -- a node that is worn in w is in no list, not even in what the one named becomes,
  pub worn-out : (c : ℕ) → Node l c → get_or w (ident_at l c) 0 ≡ worn_ident → c ∈ joined t l.lists → ⊥
  worn-out c n z m =
      let r = joined-one t l.lists c m in
      by r.0 r.1 r.2 (ℕ_discrete r.0 k)
    where
      by : (j : ℕ) → j < l.lists → c ∈ t j → Dec (j ≡ k) → ⊥
      by j h i (yes e) =
          let hk : k < l.lists = subst (λ (a : ℕ). a < l.lists) e h in
          unlisted-out l x k own s.in_range hk (cut.list hk) c (worn (kept-worn l w x due c n z))
          (subst (λ (r : List ℕ). c ∈ r) (replaced-own s.lists.sequence k own j e) i)
      by j h i (no e) =
          unlisted-out l w j (s.lists.sequence j) s.in_range h (s.lists.lists j h) c (worn z)
          (subst (λ (r : List ℕ). c ∈ r) (replaced-other s.lists.sequence k own j e) i)

  -- and keeps all its words
  worn-kept : KeepsWorn l w Final
  worn-kept c n z d f i g =
      let e : d ≡ c = Memᴰ.eq_of_singleton i in
      subst (λ (a : ℕ). f < cell_words l a → get_or Final (cell_at l a + f) 0 ≡ get_or w (cell_at l a + f) 0) (sym e) (words f) g
    where
      outside : (j : ℕ) → j < l.lists → (j ≡ k → ⊥) → c ∈ (j ∷ s.lists.sequence j) → ⊥
      outside j h q (Memᴰ.head e) = omega (arith, n.low)
      outside j h q (Memᴰ.tail m) = unlisted-out l w j (s.lists.sequence j) s.in_range h (s.lists.lists j h) c (worn z) m

      found : (f : ℕ) → f < cell_words l c → get_or y (cell_at l c + f) 0 ≡ get_or w (cell_at l c + f) 0
      found f g =
          kept-outside l w s.lists k alts allowed s.in_range y₀ cut.others cut.rest c f g outside
          ∙ left c n z c f (Memᴰ.head refl) g

      words : (f : ℕ) → f < cell_words l c → get_or Final (cell_at l c + f) 0 ≡ get_or w (cell_at l c + f) 0
      words f g =
          final-worn l y standing.size t accepted c f n (worn-out c n z)
          (ap (λ (a : ℕ). get_or y a 0) (ident-word l c) ∙ found 0 (links-words l c 0 (omega arith)) ∙ ap (λ (a : ℕ). get_or w a 0) (sym (ident-word l c)) ∙ z) g
          ∙ found f g

  pub cut-course : (ms : List ℕ) (last : ℕ) → needed (recover_plan (words_through ms y)) ≤ last
      → Course w s k x y ms last (words_through (ms ++ last ∷ []) y) (answer_of (recover_plan (words_through ms y)) last)
  cut-course ms last enough =
      let r = recovered (Standing l t) (λ v. recover_stores l v t) (standing-plan l t) (standing-after l t) ms last y standing enough in
      subst (λ (z : List ℕ). Course w s k x y ms last z (answer_of (recover_plan (words_through ms y)) last)) (sym r.words)
      (record {
        accepted = r.accepted;
        done = r.done;
        own = own;
        list = cut.list;
        sound = sound.0;
        sequences = sound.1;
        named = mine;
        others = theirs;
        head = final-head l y standing.size t accepted;
        outside =
            λ c n o. (
              final-ident l y standing.size t accepted c n o,
              (λ f g z. final-outside l y standing.size t accepted c f n o g z),
              final-record l y standing.size t accepted c n o,
            );
        worn = worn-kept;
        stored = subst (All (Kind l y t)) (sym r.made) (plan-kinds l y t);
        adds = r.adds ∙ sym (plan-differs l t ps y standing.size accepted refl);
        made = r.made ∙ ap all_stores (sym (standing-plan l t y standing));
        same = ap (λ (p : Plan). run (all_stores p) y) (sym (standing-plan l t y standing));
      })
