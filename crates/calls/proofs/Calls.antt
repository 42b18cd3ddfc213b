-- Theorems about the calls' definitions: check says sound exactly of the sound stores; length and read speak of the sequences
-- that a sound store has; a formatted store is sound and empty; insert and delete, done, leave what plain sequences would.
use Prim.Native.Nat.{ℕ, ◌+◌, ◌<◌}
use mathlib.Core.Path.{◌≡◌, refl, ap, ◌∙◌, sym, subst}
use mathlib.Core.List.{List, [], ◌∷◌, ◌++◌}
use mathlib.Core.Logic.{◌↔◌}
use mathlib.Core.Bool.{Bool, true, false}
use lib.ListN.{length, get_or}
use borrow.Author.Tests.{lt-ltb}
use native.Mathlib.Omega.{arith}
use Rattle.std.specs.Prelude.{Result, Ok, Err}
use Rattle.layout.specs.declared.Refusal.{Refusal}
use Rattle.layout.specs.declared.Refusal.TheVariants.{Unsound}
use Rattle.requests.specs.declared.Look.{Look}
use Rattle.layout.specs.declared.Layout.{Layout}
use Rattle.layout.specs.Words.{InRange, layout_of, size_of, opened, ask, formatted}
use Rattle.layout.proofs.Laws.{opened-open, open-opened}
use Rattle.lists.specs.Lists.{Sound, SoundLists, Wiped}
use Rattle.lists.specs.Decide.{sound_of, sequence_of}
use Rattle.lists.proofs.Unique.{list-sequence}
use Rattle.lists.proofs.Decided.{sound-lists, sound-wiped, lists-sound}
use Rattle.lists.proofs.Empty.{formatted-sound}
use Rattle.requests.specs.declared.Site.{Site}
use Rattle.requests.specs.declared.Request.TheVariants.{Check, Whole, Member}
use Rattle.requests.specs.Requests.{site_in, site_of, member_at, look_of, with_look}
use Rattle.requests.proofs.Laws.{look_at}
use Rattle.edits.specs.Edited.{record_in}
use Rattle.edits.proofs.Done.{looked}
use Rattle.calls.specs.Calls.{check_answer, length_answer, read_words}
use Rattle.calls.proofs.Cases.{check-at, length_at, read_at}

-- a sound store passes questions 1 to 4 and 6
pub sound-opened : (w : List ℕ) → Sound w → opened w ≡ Ok (layout_of w)
sound-opened w s = let o = s.ordered in open-opened w o.marked o.in_range o.exact

pub sound-decided : (w : List ℕ) → Sound w → sound_of (layout_of w) w ≡ true
sound-decided w s = lists-sound (layout_of w) s.ordered.in_range w s.ordered.lists s.wiped

-- check's definition decides soundness
pub sound-check : (w : List ℕ) → Sound w → check_answer w ≡ Ok tt
unfolding site_in
sound-check w s =
    let e : site_of (layout_of w) w Check ≡ Ok (record { before = 0; cell = 0; after = 0; count = 0 }) = rw (sound-decided w s) in
    sym (check-at w (sym (look_at w Check (sound-opened w s) e)))

-- a store that passes questions 1 to 4 and is not sound is answered 6
pub unsound-check : (w : List ℕ) (l : Layout) → opened w ≡ Ok l → sound_of l w ≡ false → check_answer w ≡ Err Unsound
unfolding check_answer look_of site_in
unsound-check w l o e = rw (o, e)

pub decided-sound : (w : List ℕ) (l : Layout) → opened w ≡ Ok l → sound_of l w ≡ true → Sound w
decided-sound w l o e =
    let q = opened-open w l o in
    let x = sound-lists l q.2 w e in
    let y = subst (λ (m : Layout). (s : SoundLists m w) × Wiped m w s.sequence) q.0 (x, sound-wiped l q.2 w e x) in
    record {
      ordered =
          record {
            marked = q.1;
            in_range = subst InRange q.0 q.2;
            exact = q.3 ∙ ap size_of q.0;
            lists = y.0;
          };
      wiped = y.1;
    }

pub check_sound : (w : List ℕ) → check_answer w ≡ Ok tt → Sound w
unfolding check_answer site_in
check_sound w = by (look_of w Check) refl
  where
    yes-at : (l : Layout) (b : Bool) (t u : Site) → ask b (Err Unsound) (Ok u) ≡ Ok t → b ≡ true
    yes-at l true t u e = refl
    yes-at l false t u e = let z : ◌≡◌ {A = ℕ} 0 1 = cc in absurd (omega arith)

    by : (x : Result Look Refusal) → look_of w Check ≡ x → ◌≡◌ {A = Result (Unit {0}) Refusal} (with_look x Err (λ l t. Ok tt)) (Ok tt) → Sound w
    by (Err n) p e = let z : ◌≡◌ {A = ℕ} 0 1 = cc in absurd (omega arith)
    by (Ok o) p e =
        let l = o.layout in
        let t = o.site in
        let a = looked w Check l t p in
        decided-sound w l a.0 (yes-at l (sound_of l w) t (record { before = 0; cell = 0; after = 0; count = 0 }) a.1)

pub check-decides : (w : List ℕ) → (check_answer w ≡ Ok tt) ↔ Sound w
check-decides w = (check_sound w, sound-check w)

-- of a sound store: length is the sequence's length, read the record of the sequence's cell at the position
module _ (w : List ℕ) (s : Sound w) (k : ℕ) (h : k < (layout_of w).lists) where
  abbrev members : List ℕ
  members = s.ordered.lists.sequence k

  members-are : sequence_of (layout_of w) w k ≡ members
  members-are = list-sequence (layout_of w) w k h members (s.ordered.lists.lists k h)

  pub sound-length : length_answer w k ≡ Ok (length members)
  unfolding site_in
  sound-length =
      let e : site_of (layout_of w) w (Whole k) ≡ Ok (record { before = k; cell = k; after = k; count = length (sequence_of (layout_of w) w k) }) =
      rw (lt-ltb k (layout_of w).lists h, sound-decided w s) in
      sym (length_at w k (sym (look_at w (Whole k) (sound-opened w s) e)))
      ∙ ap (λ (x : List ℕ). Ok (length x)) members-are

  pub sound-read : (p : ℕ) → p < length members → read_words w k p ≡ record_in (layout_of w) w (get_or members p 0)
  unfolding site_in member_at
  sound-read p g =
      let q : p < length (sequence_of (layout_of w) w k) = subst (λ (x : List ℕ). p < length x) (sym members-are) g in
      let x = sequence_of (layout_of w) w k in
      let e : site_of (layout_of w) w (Member k p) ≡ Ok (record { before = get_or (k ∷ x) p 0; cell = get_or x p 0; after = get_or (x ++ k ∷ []) (p + 1) 0; count = length x }) =
      rw (lt-ltb k (layout_of w).lists h, sound-decided w s, lt-ltb p (length x) q) in
      sym (read_at w k p (sym (look_at w (Member k p) (sound-opened w s) e))).0
      ∙ ap (λ (x : List ℕ). record_in (layout_of w) w (get_or x p 0)) members-are

-- a formatted store is sound, and each list is empty
pub formatted-check : (l : Layout) → InRange l → check_answer (formatted l) ≡ Ok tt
formatted-check l r = sound-check (formatted l) (formatted-sound l r)
