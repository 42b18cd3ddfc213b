-- Insert and delete keep the worn nodes: wherever they are cut, and whatever words they are given.
use Prim.Native.Nat.{ℕ, ◌+◌, ◌/◌, ◌<◌, ◌≤◌}
use mathlib.Core.Path.{◌≡◌, refl, ap, ◌∙◌, sym, subst}
use mathlib.Core.List.{List, [], ◌∷◌, ◌++◌}
use lib.ListN.{length, get_or, take}
use Rattle.stores.specs.Stores.{Plan, stores, words_after}
use Rattle.std.specs.Prelude.{Result, Ok, Err}
use Rattle.layout.specs.declared.Refusal.{Refusal}
use Rattle.requests.specs.declared.Look.{Look}
use Rattle.layout.specs.declared.Layout.{Layout}
use Rattle.layout.specs.Words.{layout_of}
use Rattle.layout.proofs.Laws.{opened-open}
use Rattle.lists.specs.Lists.{KeepsWorn}
use Rattle.lists.proofs.Unique.{list-sequence}
use Rattle.lists.proofs.Decided.{sound-lists}
use Rattle.requests.specs.declared.Site.{Site}
use Rattle.requests.specs.declared.Request.TheVariants.{Member, Gap, Gaps}
use Rattle.requests.specs.Requests.{look_of}
use Rattle.requests.specs.Sites.{gap_site}
use Rattle.edits.specs.Edits.{insert_writes, chain, delete_writes}
use Rattle.edits.proofs.Done.{looked, gap-facts, member-facts}
use Rattle.edits.proofs.Room.{several-room}
use Rattle.edits.proofs.Worn.{room-keeps, gap-keeps, member-keeps}
use Rattle.calls.specs.Calls.{insert_plan, several_plan, delete_plan}
use Rattle.calls.proofs.Cases.{insert-refused, insert-at, several-refused, several-at, delete-refused, delete-at}
use Rattle.calls.proofs.Sites.{gap-placed}

-- a call that stores nothing, and one that stores in a store of this layout
none-keeps : (l : Layout) (w : List ℕ) → KeepsWorn l w w
none-keeps l w c n z d f i g = refl

plan-keeps : {p q : Plan} {l : Layout} (m : ℕ) (w : List ℕ) → p ≡ q → l ≡ layout_of w → KeepsWorn l w (words_after q m w)
    → KeepsWorn (layout_of w) w (words_after p m w)
plan-keeps {p} {q} {l} m w e o h =
    subst (λ (r : Plan). KeepsWorn (layout_of w) w (words_after r m w)) (sym e) (subst (λ (a : Layout). KeepsWorn a w (words_after q m w)) o h)

module _ (w : List ℕ) (k p : ℕ) where
  module _ (c : ℕ) (words : List ℕ) (m : ℕ) where
    pub insert-worn : KeepsWorn (layout_of w) w (words_after (insert_plan w k p c words) m w)
    insert-worn = by (look_of w (Gap k p c (length words))) refl
      where
        by : (x : Result Look Refusal) → look_of w (Gap k p c (length words)) ≡ x → KeepsWorn (layout_of w) w (words_after (insert_plan w k p c words) m w)
        by (Err n) e = plan-keeps m w (insert-refused w k p c words e) refl (none-keeps (layout_of w) w)
        by (Ok o) e =
            let l = o.layout in
            let t = o.site in
            let a = looked w (Gap k p c (length words)) l t e in
            let o = opened-open w l a.0 in
            let f = gap-facts l w k p c (length words) t a.1 in
            let h = gap-placed w k p l t c (length words) e in
            let s = sound-lists l o.2 w f.sound in
            let q = list-sequence l w k f.list (s.sequence k) (s.lists k f.list) in
            plan-keeps m w
            (insert-at w k p c words e ∙ ap (λ (u : Site). stores (insert_writes l k u words)) (f.site ∙ ap (gap_site k p t.cell) q)) o.0
            (gap-keeps l o.2 w o.3 s k f.list p (subst (λ (r : List ℕ). p ≤ length r) q f.position) t.cell h.0.cell f.first.free
            words h.1 m)

    pub several-worn : KeepsWorn (layout_of w) w (words_after (several_plan w k p c words) m w)
    several-worn = by (look_of w (Gaps k p c (length words))) refl
      where
        by : (x : Result Look Refusal) → look_of w (Gaps k p c (length words)) ≡ x → KeepsWorn (layout_of w) w (words_after (several_plan w k p c words) m w)
        by (Err n) e = plan-keeps m w (several-refused w k p c words e) refl (none-keeps (layout_of w) w)
        by (Ok o) e =
            let l = o.layout in
            let t = o.site in
            let r = several-room w k p c (length words) l t e in
            let cells : List ℕ → Plan = λ cs. stores (chain l k t.before t.after t.count (take (length words / l.width) cs) words) in
            plan-keeps m w (several-at w k p c words e ∙ ap cells r.cells) (opened-open w l (looked w (Gaps k p c (length words)) l t e).0).0
            (room-keeps l w k t (length words / l.width) r.room words (sym r.whole) m)

  pub delete-worn : (m : ℕ) → KeepsWorn (layout_of w) w (words_after (delete_plan w k p) m w)
  delete-worn m = by (look_of w (Member k p)) refl
    where
      site : List ℕ → Site
      site r = record { before = get_or (k ∷ r) p 0; cell = get_or r p 0; after = get_or (r ++ k ∷ []) (p + 1) 0; count = length r }

      by : (x : Result Look Refusal) → look_of w (Member k p) ≡ x → KeepsWorn (layout_of w) w (words_after (delete_plan w k p) m w)
      by (Err n) e = plan-keeps m w (delete-refused w k p e) refl (none-keeps (layout_of w) w)
      by (Ok o) e =
          let l = o.layout in
          let t = o.site in
          let a = looked w (Member k p) l t e in
          let o = opened-open w l a.0 in
          let f = member-facts l w k p t a.1 in
          let s = sound-lists l o.2 w f.sound in
          let q = list-sequence l w k f.list (s.sequence k) (s.lists k f.list) in
          plan-keeps m w (delete-at w k p e ∙ ap (λ (u : Site). stores (delete_writes l k u)) (f.site ∙ ap site q)) o.0
          (member-keeps l o.2 w o.3 s k f.list p (subst (λ (r : List ℕ). p < length r) q f.position) m)
