-- A mark is for good. After any calls the words are such that for every list a sequence is chosen, and the nodes that were worn are in
-- none of these; so none of the stores of a recovery goes to one of them. A call that stores otherwise finds a sound store.
use Prim.Native.Nat.{ℕ, zero, suc, ◌<◌}
use mathlib.Core.Path.{◌≡◌, refl, ap, ◌∙◌, sym, subst}
use mathlib.Core.List.{List, [], ◌∷◌}
use mathlib.Core.Bool.{Bool, true, false, cond}
use mathlib.Core.Logic.{inr}
use native.Mathlib.Decide.{dec_lt}
use native.Mathlib.Omega.{arith}
use lib.Dec.{eqb}
use lib.ListN.{length, get_or}
use Rattle.std.specs.Prelude.{Result, Ok, Err}
use Rattle.sequences.specs.Sequence.{◌∈◌}
use Rattle.stores.specs.Stores.{Plan, applied, words_after}
use Rattle.layout.specs.declared.Layout.{Layout}
use Rattle.layout.specs.declared.Refusal.{Refusal}
use Rattle.layout.specs.declared.Refusal.TheVariants.{NoList, Unsound}
use Rattle.layout.specs.Words.{Node, ident_at, worn_ident, layout_of, opened}
use Rattle.layout.proofs.Laws.{opened-open}
use Rattle.lists.specs.Lists.{Ordered, Sound, KeepsWorn}
use Rattle.lists.specs.Decide.{view_of, count_in, sound_of}
use Rattle.lists.proofs.Same.{kept-worn}
use Rattle.requests.specs.declared.Look.{Look}
use Rattle.requests.specs.declared.Request.{Request}
use Rattle.requests.specs.declared.Request.TheVariants.{Member, Gap, Gaps, Mark}
use Rattle.requests.specs.Requests.{list_of, look_of}
use Rattle.requests.proofs.Laws.{site-unlisted, site-unsound, look-refused}
use Rattle.edits.specs.Edits.{mark_stores}
use Rattle.edits.proofs.Done.{looked, mark-facts}
use Rattle.edits.proofs.Worn.{mark-keeps}
use Rattle.recovery.specs.Plan.{joined, recover_plan}
use Rattle.recovery.proofs.Whole.{sound-accepted}
use Rattle.calls.specs.Calls.{mark_plan}
use Rattle.calls.proofs.Cases.{insert-refused, several-refused, delete-refused, mark-refused}
use Rattle.calls.proofs.Calls.{sound-opened, decided-sound}
use Rattle.courses.specs.Course.{Edit, insert, several, delete, named, edit_plan, all_stores, due, Alteration, untouched, altered_below}
use Rattle.courses.proofs.Standing.{Standing, standing-plan, standing-after}
use Rattle.courses.proofs.Calls.{call-left}
use Rattle.courses.proofs.Demand3.{after-applied, left_cut, left-keeps}
use Rattle.courses.proofs.Course as C
use Rattle.demands.specs.Demand2.{FreeNode}
use Rattle.worn.specs.Worn.{Call, edit, mark, recover, words_by, words_by_all}
use Rattle.worn.proofs.Nodes.{kinds}
use Rattle.worn.proofs.Mark.{mark-plan, marks}
use Rattle.worn.proofs.Kept.{cut-kept}

-- the nodes that are worn in w are in none of the sequences t
abbrev Out : Layout → List ℕ → (ℕ → List ℕ) → Type 0
Out l w t = (c : ℕ) → Node l c → get_or w (ident_at l c) 0 ≡ worn_ident → c ∈ joined t l.lists → ⊥

-- words that may come of w: recovery takes the sequences t, and the worn nodes are as in w
record After (l : Layout) (w y : List ℕ) : Type 0 where
  sequence : ℕ → List ℕ
  standing : Standing l sequence y
  out : Out l w sequence
  kept : KeepsWorn l w y

-- one call after another
kept-both : (l : Layout) (w y v : List ℕ) → KeepsWorn l w y → KeepsWorn l y v → KeepsWorn l w v
kept-both l w y v h k c n z d f i g = k c n (kept-worn l w y h c n z) d f i g ∙ h c n z d f i g

after_both : (l : Layout) (w y v : List ℕ) → KeepsWorn l w y → After l y v → After l w v
after_both l w y v h a =
    record {
      sequence = a.sequence;
      standing = a.standing;
      out = λ c n z. a.out c n (kept-worn l w y h c n z);
      kept = kept-both l w y v h a.kept;
    }

-- sound words
sound-out : (w : List ℕ) (s : Sound w) → Out (layout_of w) w s.ordered.lists.sequence
sound-out w s c n z = (kinds w s c n).1 (inr (record { node = n; worn = z }))

sound-after : (w : List ℕ) → Sound w → After (layout_of w) w w
sound-after w s =
    record {
      sequence = s.ordered.lists.sequence;
      standing = record { opens = sound-opened w s; size = s.ordered.exact; accepted = sound-accepted (layout_of w) w s.ordered.lists };
      out = sound-out w s;
      kept = λ c n z d f i g. refl;
    }

-- a recovery, whole or cut
recover-after : (l : Layout) (w y : List ℕ) → After l w y → (m : ℕ) → After l w (words_after (recover_plan y) m y)
recover-after l w y a m =
    subst (λ (p : Plan). After l w (words_after p m y)) (sym (standing-plan l a.sequence y a.standing))
    (record {
      sequence = a.sequence;
      standing = (standing-after l a.sequence y a.standing m).0;
      out = a.out;
      kept =
          λ c n z d f i g.
          cut-kept l y a.standing.size a.sequence a.standing.accepted c n (a.out c n z) (kept-worn l w y a.kept c n z) m d f i g
          ∙ a.kept c n z d f i g;
    })

-- an insert or a delete of an ordered store, whole or cut: the course of demand 3 in which no word is altered
altered-none : (l : Layout) (k n : ℕ) (w : List ℕ) → altered_below l k (λ _. untouched) n w ≡ w
unfolding altered_below
altered-none l k zero w = refl
altered-none l k (suc j) w = by (eqb j k) (altered-none l k j w)
  where
    by : (b : Bool) → altered_below l k (λ _. untouched) j w ≡ w
        → cond b (altered_below l k (λ _. untouched) j w) (altered_below l k (λ _. untouched) j w) ≡ w
    by true e = e
    by false e = e

edit-after : (y : List ℕ) (s : Ordered y) (e : Edit) (m : ℕ) → After (layout_of y) y (words_after (edit_plan y e) m y)
edit-after y s e m =
    let l = layout_of y in
    let k = named e in
    let ps = all_stores (edit_plan y e) in
    let f = call-left y s e in
    let c = left_cut y s k (due l e) ps f m in
    let none : ℕ → Alteration = λ _. untouched in
    let kept = left-keeps y s k (due l e) ps f in
    let x = applied ps (due l e m) y in
    subst (After l y) (sym (after-applied (edit_plan y e) m y))
    (record {
      sequence = C.t y s k c.0 x (applied ps m y) c.1 (kept (due l e m)) (kept m) none (λ _ _ _. tt);
      standing =
          subst (Standing l (C.t y s k c.0 x (applied ps m y) c.1 (kept (due l e m)) (kept m) none (λ _ _ _. tt)))
          (altered-none l k l.lists (applied ps m y))
          (C.standing y s k c.0 x (applied ps m y) c.1 (kept (due l e m)) (kept m) none (λ _ _ _. tt));
      out = C.worn-out y s k c.0 x (applied ps m y) c.1 (kept (due l e m)) (kept m) none (λ _ _ _. tt);
      kept = kept m;
    })

-- a mark
mark-after : (y : List ℕ) (s : Sound y) (c : ℕ) → FreeNode y c → After (layout_of y) y (words_after (mark_plan y c) mark_stores y)
mark-after y s c f =
    let l = layout_of y in
    let v = words_after (mark_plan y c) mark_stores y in
    let m = (marks y s c).leaves f in
    after_both l y v v
    (subst (λ (p : Plan). KeepsWorn l y (words_after p mark_stores y)) (sym (mark-plan y s c f)) (mark-keeps l y c f.free mark_stores))
    (subst (λ (a : Layout). After a v v) m.1 (sound-after v m.0))

-- words that are not sound: every look is refused, so a call stores nothing
module _ (y : List ℕ) (l : Layout) (o : opened y ≡ Ok l) (u : sound_of l y ≡ false) where
  unsound-look : (q : Request) → (n : Refusal) × (look_of y q ≡ Err n)
  unsound-look q = by (dec_lt (list_of q) l.lists)
    where
      by : Dec (list_of q < l.lists) → (n : Refusal) × (look_of y q ≡ Err n)
      by (yes h) = (Unsound, sym (look-refused y q o (sym (site-unsound l (view_of l y) (count_in l y) q h u))))
      by (no h) = (NoList, sym (look-refused y q o (sym (site-unlisted l (view_of l y) (count_in l y) q (opened-open y l o).2 (omega arith)))))

  unsound-edit : (e : Edit) (m : ℕ) → words_after (edit_plan y e) m y ≡ y
  unsound-edit (insert k p c words) m =
      ap (λ (q : Plan). words_after q m y) (insert-refused y k p c words (unsound-look (Gap k p c (length words))).1)
  unsound-edit (several k p c words) m =
      ap (λ (q : Plan). words_after q m y) (several-refused y k p c words (unsound-look (Gaps k p c (length words))).1)
  unsound-edit (delete k p) m = ap (λ (q : Plan). words_after q m y) (delete-refused y k p (unsound-look (Member k p)).1)

  unsound-mark : (c : ℕ) → words_after (mark_plan y c) mark_stores y ≡ y
  unsound-mark c = ap (λ (q : Plan). words_after q mark_stores y) (mark-refused y c (unsound-look (Mark c)).1)

-- any call
module _ (l : Layout) (w y : List ℕ) (a : After l w y) where
  is-sound : sound_of l y ≡ true → Sound y
  is-sound = decided-sound y l a.standing.opens

  -- what is left of sound words y
  whole : (v : List ℕ) → After (layout_of y) y v → After l w v
  whole v b = after_both l w y v a.kept (subst (λ (m : Layout). After m y v) (sym (opened-open y l a.standing.opens).0) b)

  call-after : (c : Call) → After l w (words_by c y)
  call-after (recover m) = recover-after l w y a m
  call-after (edit e m) = by (sound_of l y) refl
    where
      by : (b : Bool) → sound_of l y ≡ b → After l w (words_after (edit_plan y e) m y)
      by true q = whole (words_after (edit_plan y e) m y) (edit-after y (is-sound q).ordered e m)
      by false q = subst (After l w) (sym (unsound-edit y l a.standing.opens q e m)) a
  call-after (mark c) = by (sound_of l y) refl (look_of y (Mark c)) refl
    where
      by : (b : Bool) → sound_of l y ≡ b → (x : Result Look Refusal) → look_of y (Mark c) ≡ x → After l w (words_after (mark_plan y c) mark_stores y)
      by false q x e = subst (After l w) (sym (unsound-mark y l a.standing.opens q c)) a
      by true q (Err n) e = subst (λ (p : Plan). After l w (words_after p mark_stores y)) (sym (mark-refused y c e)) a
      by true q (Ok x) e =
          let j = x.layout in
          let t = x.site in
          let d = looked y (Mark c) j t e in
          let f = mark-facts j y c t d.1 in
          let o = (opened-open y j d.0).0 in
          whole (words_after (mark_plan y c) mark_stores y)
          (mark-after y (is-sound q) c
          (record { node = subst (λ (m : Layout). Node m c) o f.node; free = subst (λ (m : Layout). get_or y (ident_at m c) 0 ≡ 0) o f.free }))

calls-after : (l : Layout) (w : List ℕ) (cs : List Call) (y : List ℕ) → After l w y → After l w (words_by_all cs y)
unfolding words_by_all
calls-after l w [] y a = a
calls-after l w (c ∷ cs) y a = calls-after l w cs (words_by c y) (call-after l w y a c)

pub later : (w : List ℕ) → Sound w → (cs : List Call) → KeepsWorn (layout_of w) w (words_by_all cs w)
later w s cs = (calls-after (layout_of w) w cs w (sound-after w s)).kept
