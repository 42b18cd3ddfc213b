-- One recovery: whatever store is not refused, a whole run leaves sound with at most 2L + N + P × N stores; a sound store needs none, an ordered
-- one the wipes alone.
use Prim.Native.Nat.{ℕ, ◌<◌, ◌≤◌}
use mathlib.Core.Path.{◌≡◌, refl, ap, ◌∙◌, sym, subst}
use mathlib.Core.List.{List, []}
use native.Mathlib.Omega.{arith}
use lib.ListN.{length, get_or}
use Rattle.std.specs.Prelude.{Option, Some, None, Result, Ok, Err}
use Rattle.stores.specs.Stores.{Write, refuse, stores, run}
use Rattle.stores.proofs.Laws.{length_run}
use Rattle.layout.specs.declared.Layout.{Layout}
use Rattle.layout.specs.declared.Refusal.{Refusal}
use Rattle.layout.specs.Words.{InRange, layout_of, size_of, opened, after_open}
use Rattle.layout.proofs.Laws.{opened-open, open-opened}
use Rattle.lists.specs.Lists.{Ordered, Sound, SoundLists, Wiped}
use Rattle.lists.proofs.Same.{same-marked, same_layout}
use Rattle.recovery.specs.Fits.{wrong}
use Rattle.recovery.specs.Plan.{wipes_asked, recover_stores, most_stores, fitting_of, refusal_from, unless_refused, recover_of, recover_plan, Accepted}
use Rattle.recovery.proofs.Whole.{unrefused-accepted, accepted-plan, whole-sound, whole-wiped, sound-accepted, sound-settled, ordered-wipes, few-stores}
use Rattle.courses.proofs.Final.{final-head}

-- what a plan that is not a refusal tells
pub planned : (w : List ℕ) (ps : List Write) → recover_plan w ≡ stores ps
    → (opened w ≡ Ok (layout_of w)) × Accepted (layout_of w) w (fitting_of (layout_of w) w) × (ps ≡ recover_stores (layout_of w) w (fitting_of (layout_of w) w))
unfolding recover_plan recover_of
planned w ps = by (opened w) refl
  where
    asked : (l : Layout) (r : Option Refusal) → refusal_from l w 0 l.lists ≡ r
        → unless_refused r (stores (recover_stores l w (fitting_of l w))) ≡ stores ps
        → Accepted l w (fitting_of l w) × (ps ≡ recover_stores l w (fitting_of l w))
    asked l None z e = (unrefused-accepted l w z, cc)
    asked l (Some n) z e = let y : ◌≡◌ {A = ℕ} 0 1 = cc in absurd (omega arith)

    by : (o : Result Layout Refusal) → opened w ≡ o → after_open o refuse (λ l. recover_of l w) ≡ stores ps
        → (opened w ≡ Ok (layout_of w)) × Accepted (layout_of w) w (fitting_of (layout_of w) w) × (ps ≡ recover_stores (layout_of w) w (fitting_of (layout_of w) w))
    by (Err n) p e = let y : ◌≡◌ {A = ℕ} 0 1 = cc in absurd (omega arith)
    by (Ok l) p e =
        let q = (opened-open w l p).0 in
        let a = asked l (refusal_from l w 0 l.lists) refl e in (
          p ∙ ap Ok q,
          subst (λ (m : Layout). Accepted m w (fitting_of m w)) q a.0,
          subst (λ (m : Layout). ps ≡ recover_stores m w (fitting_of m w)) q a.1,
        )

-- a plan has no more stores than recovery may make
pub recover-few : (w : List ℕ) (ps : List Write) → recover_plan w ≡ stores ps → length ps ≤ most_stores (layout_of w)
recover-few w ps e =
    let l = layout_of w in
    let p = planned w ps e in
    subst (λ (qs : List Write). length qs ≤ most_stores l) (sym p.2) (few-stores l w (fitting_of l w) p.1)

-- a whole run leaves a sound store
pub recover-sound : (w : List ℕ) (ps : List Write) → recover_plan w ≡ stores ps → Sound (run ps w)
recover-sound w ps e =
    let p = planned w ps e in
    let l = layout_of w in
    let t = fitting_of l w in
    let o = opened-open w l p.0 in
    subst (λ (qs : List Write). Sound (run qs w)) (sym p.2)
    (let h : (a : ℕ) → a < 8 → get_or (run (recover_stores l w t) w) a 0 ≡ get_or w a 0 = final-head l w o.3 t p.1 in
    let y : layout_of (run (recover_stores l w t) w) ≡ l = same_layout w (run (recover_stores l w t) w) h in
    let x = whole-sound l w t o.3 p.1 in
    let u =
    subst (λ (m : Layout). (s : SoundLists m (run (recover_stores l w t) w)) × Wiped m (run (recover_stores l w t) w) s.sequence) (sym y)
    (x.0, subst (Wiped l (run (recover_stores l w t) w)) (sym x.1) (whole-wiped l w t o.3 p.1)) in
    record {
      ordered =
          record {
            marked = same-marked w (run (recover_stores l w t) w) h ∙ o.1;
            in_range = subst InRange (sym y) o.2;
            exact = length_run (recover_stores l w t) w ∙ o.3 ∙ ap size_of (sym y);
            lists = u.0;
          };
      wiped = u.1;
    })

-- an ordered store, recovered: the wipes alone
pub ordered-recover : (w : List ℕ) (s : Ordered w)
    → recover_plan w ≡ stores (wrong w (wipes_asked (layout_of w) w s.lists.sequence))
ordered-recover w s =
    accepted-plan (layout_of w) w s.lists.sequence (open-opened w s.marked s.in_range s.exact) (sound-accepted (layout_of w) w s.lists)
    ∙ ap stores (ordered-wipes (layout_of w) w s.lists)

-- and a sound one: none
pub sound-recover : (w : List ℕ) → Sound w → recover_plan w ≡ stores []
sound-recover w s =
    let o = s.ordered in
    accepted-plan (layout_of w) w o.lists.sequence (open-opened w o.marked o.in_range o.exact) (sound-accepted (layout_of w) w o.lists)
    ∙ ap stores (sound-settled (layout_of w) w o.lists s.wiped)
