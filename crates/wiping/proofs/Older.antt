-- An older store: sound but for the records of nodes in no list. Recovery makes the wipes alone.
use Prim.Native.Nat.{ℕ, ◌+◌, ◌<◌}
use mathlib.Core.Path.{◌≡◌, refl, ◌∙◌, sym, subst}
use mathlib.Core.List.Memᴰ
use mathlib.Core.List.{List, ◌∷◌}
use lib.ListN.{get_or}
use Rattle.sequences.specs.Sequence.{◌∈◌, All}
use Rattle.sequences.proofs.Members.{in_all}
use Rattle.stores.specs.Stores.{Write, run}
use Rattle.stores.proofs.Laws.{length_run}
use Rattle.layout.specs.declared.Layout.{Layout}
use Rattle.layout.specs.Words.{cell_at, cell_words, ident_at, worn_ident, worn, layout_of}
use Rattle.lists.specs.Lists.{Ordered, Sound, Wiped, SameCells, KeepsWorn}
use Rattle.lists.proofs.Nodes.{unlisted-out}
use Rattle.lists.proofs.Same.{same_layout, same-sound}
use Rattle.recovery.specs.Fits.{wrong}
use Rattle.recovery.specs.Plan.{joined, wipes_asked, recover_stores, Accepted}
use Rattle.recovery.proofs.Required.{wrong-in}
use Rattle.recovery.proofs.Joined.{joined-one}
use Rattle.recovery.proofs.Count.{in-wipes}
use Rattle.recovery.proofs.Whole.{sound-accepted, ordered-wipes}
use Rattle.courses.proofs.Final.{final-head, final-worn, final-lists, final-wiped, final-words}
use Rattle.courses.proofs.Single.{ordered-recover}
use Rattle.wiping.specs.Wiping.{Wipe, Older}
use Rattle.wiping.proofs.Rising.{wipes-rising}

module _ (w : List ℕ) (s : Ordered w) where
  abbrev l : Layout
  l = layout_of w

  abbrev t : ℕ → List ℕ
  t = s.lists.sequence

  abbrev wipes : List Write
  wipes = wrong w (wipes_asked l w t)

  each : All (Wipe l w t) wipes
  each =
      in_all (Wipe l w t) wipes
      (λ p m.
      let r = wrong-in w (wipes_asked l w t) m in
      let c = in-wipes l w t r.0 in
      let f = c.4 in
      record {
        cell = c.0;
        word = f.0;
        node = c.1;
        outside = c.2;
        unworn = c.3;
        inside = f.1;
        nonzero = λ z. r.1 (subst (λ (q : Write). get_or w q.at 0 ≡ q.value) (sym f.2) z);
        store = f.2;
      })

  accepted : Accepted l w t
  accepted = sound-accepted l w s.lists

  same : recover_stores l w t ≡ wipes
  same = ordered-wipes l w s.lists

  -- what the whole plan leaves
  abbrev Final : List ℕ
  Final = run (recover_stores l w t) w

  head : (a : ℕ) → a < 8 → get_or Final a 0 ≡ get_or w a 0
  head = final-head l w s.exact t accepted

  sound : (v : Sound Final) × (v.ordered.lists.sequence ≡ t)
  sound =
      let f = final-lists l w s.exact t accepted in
      let r =
      same-sound w Final s head (length_run (recover_stores l w t) w) f.0 (subst (Wiped l Final) (sym f.1) (final-wiped l w s.exact t accepted)) in
      (r.0, r.1 ∙ f.1)

  lists : (k : ℕ) → k < l.lists → SameCells l w Final (k ∷ t k)
  lists k h = final-words l w s.exact t accepted w k h (s.lists.lists k h) (λ c f m a g. refl)

  unlisted : (c : ℕ) → get_or w (ident_at l c) 0 ≡ worn_ident → c ∈ joined t l.lists → ⊥
  unlisted c z m = let r = joined-one t l.lists c m in unlisted-out l w r.0 (t r.0) s.in_range r.1 (s.lists.lists r.0 r.1) c (worn z) r.2

  kept : KeepsWorn l w Final
  kept c n z d f i g =
      let e : d ≡ c = Memᴰ.eq_of_singleton i in
      subst (λ (a : ℕ). f < cell_words l a → get_or Final (cell_at l a + f) 0 ≡ get_or w (cell_at l a + f) 0) (sym e)
      (final-worn l w s.exact t accepted c f n (unlisted c z) z) g

  pub older : Older w s
  older =
      let v = sound in
      let r = subst
      (λ (ps : List Write). (u : Sound (run ps w)) × (layout_of (run ps w) ≡ l) × (u.ordered.lists.sequence ≡ t)
      × ((k : ℕ) → k < l.lists → SameCells l w (run ps w) (k ∷ t k)) × KeepsWorn l w (run ps w))
      same (v.0, same_layout w Final head, v.1, lists, kept) in
      record {
        wipes = wipes;
        plan = ordered-recover w s;
        each = each;
        rising = wipes-rising l w t;
        sound = r.0;
        layout = r.1;
        sequences = r.2;
        lists = r.3;
        worn = r.4;
      }
