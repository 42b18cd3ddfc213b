-- Records that are wiped: what check, delete and recover make of them.
use Prim.Native.Nat.{ℕ, zero, suc, ◌+◌, ◌%◌, ◌<◌, ◌≤◌}
use mathlib.Core.Path.{◌≡◌, refl, ap, ◌∙◌, sym, subst}
use mathlib.Core.List.{List, [], ◌∷◌, ◌++◌}
use mathlib.Core.Logic.{◌↔◌}
use mathlib.Core.Bool.{Bool, true, false}
use native.Mathlib.Omega.{arith}
use lib.ListN.{length, get_or}
use borrow.Author.Tests.{lt-ltb, eq-eqb, ne_eqb}
use Rattle.std.specs.Prelude.{Result, Ok, Err}
use Rattle.calls.specs.Answers.{answer_of}
use Rattle.stores.specs.declared.Outcome.TheVariants.{Done}
use Rattle.stores.specs.Stores.{Write, Plan, refuse, stores, run, words_after}
use Rattle.stores.proofs.Outcomes.{outcome-done, done-whole}
use Rattle.stores.proofs.Laws.{applied-all}
use Rattle.encoding.specs.Bytes.{words_in, bytes_after}
use Rattle.layout.specs.declared.Layout.{Layout}
use Rattle.layout.specs.declared.Refusal.{Refusal}
use Rattle.layout.specs.declared.Refusal.TheVariants.{Size, Unsound}
use Rattle.layout.specs.Words.{tail_words, layout_of}
use Rattle.layout.proofs.Laws.{opened-open, open-opened}
use Rattle.lists.specs.Lists.{Ordered, Sound, blank_asked, Wiped}
use Rattle.lists.specs.Decide.{sound_of, sequence_of}
use Rattle.lists.proofs.Decided.{sound-wiped}
use Rattle.lists.proofs.Unique.{list-sequence}
use Rattle.requests.specs.declared.Look.{Look}
use Rattle.requests.specs.declared.Site.{Site}
use Rattle.requests.specs.declared.Request.TheVariants.{Member, Mark}
use Rattle.requests.specs.Requests.{member_at, site_in, site_of, look_of}
use Rattle.requests.proofs.Laws.{look_at}
use Rattle.edits.specs.Edits.{delete_links, delete_writes, mark_stores}
use Rattle.edits.proofs.Done.{looked, MarkFacts, mark-facts}
use Rattle.recovery.specs.Plan.{recover_plan}
use Rattle.calls.specs.Calls.{check_answer, delete_plan, mark_plan}
use Rattle.calls.proofs.Cases.{delete-at, mark-refused}
use Rattle.calls.proofs.Calls.{sound-opened, sound-decided, sound-check, check_sound, unsound-check}
use Rattle.demands.proofs.Demand2.{free-blank, demand2}
use Rattle.courses.specs.Course.{Edit, insert, several, delete, edit_plan, needed}
use Rattle.courses.proofs.Single.{recover-few, recover-sound}
use Rattle.byte_calls.specs.Plans.{byte_delete, byte_recover}
use Rattle.byte_courses.proofs.ByteCourse.{recover-plan, recover-words, edit-words}
use Rattle.worn.specs.Worn.{Call, edit, mark, recover, words_by}
use Rattle.worn.proofs.Worn.{worn}
use Rattle.wiping.specs.Wiping.{NoRemains, Whole, Wiping}
use Rattle.wiping.proofs.Older.{older}

both : (w : List ℕ) → Sound w → Sound w × NoRemains w
both w s = (s, free-blank w s)

-- check
module _ (w : List ℕ) (s : Ordered w) where
  abbrev IsWiped : Type 0
  IsWiped = Wiped (layout_of w) w s.lists.sequence

  by-check : sound_of (layout_of w) w ≡ true → IsWiped
  by-check e = sound-wiped (layout_of w) s.in_range w e s.lists

  as-sound : IsWiped → Sound w
  as-sound h = record { ordered = s; wiped = h }

  checks : ((check_answer w ≡ Ok tt) ↔ IsWiped) × ((IsWiped → ⊥) → check_answer w ≡ Err Unsound)
  checks = (((λ e. by-check (sound-decided w (check_sound w e))), (λ h. sound-check w (as-sound h))), λ n. by n (sound_of (layout_of w) w) refl)
    where
      by : (IsWiped → ⊥) → (b : Bool) → sound_of (layout_of w) w ≡ b → check_answer w ≡ Err Unsound
      by n true e = absurd (n (by-check e))
      by n false e = unsound-check w (layout_of w) (open-opened w s.marked s.in_range s.exact) e

-- delete
module _ (w : List ℕ) (s : Sound w) (k p : ℕ) (h : k < (layout_of w).lists) (g : p < length (s.ordered.lists.sequence k)) where
  abbrev members : List ℕ
  members = s.ordered.lists.sequence k

  abbrev site_in-of : List ℕ → Site
  site_in-of x = record { before = get_or (k ∷ x) p 0; cell = get_or x p 0; after = get_or (x ++ k ∷ []) (p + 1) 0; count = length x }

  deletes : (ps : List Write) × (length ps ≡ 4) × (delete_plan w k p ≡ stores (ps ++ blank_asked (layout_of w) (get_or members p 0)))
  unfolding site_in member_at delete_links delete_writes
  deletes =
      let l = layout_of w in
      let q = list-sequence l w k h members (s.ordered.lists.lists k h) in
      let x = sequence_of l w k in
      let z : p < length x = subst (λ (y : List ℕ). p < length y) (sym q) g in
      let e : site_of l w (Member k p) ≡ Ok (site_in-of x) = rw (lt-ltb k l.lists h, sound-decided w s, lt-ltb p (length x) z) in (
        delete_links l k (site_in-of members),
        refl,
        delete-at w k p (sym (look_at w (Member k p) (sound-opened w s) e)) ∙ ap (λ (y : List ℕ). stores (delete_writes l k (site_in-of y))) q,
      )

-- a plan that is done
done-run : (p : Plan) (m n : ℕ) (w : List ℕ) → answer_of p m ≡ Ok (Done n) → (ps : List Write) × (p ≡ stores ps) × (words_after p m w ≡ run ps w)
done-run (refuse k) m n w e = let z : ◌≡◌ {A = ℕ} 0 1 = cc in absurd (omega arith)
done-run (stores ps) m n w e = (ps, refl, applied-all ps m w (done-whole ps m n cc).0)

recovered : (w : List ℕ) (m n : ℕ) → answer_of (recover_plan w) m ≡ Ok (Done n)
    → Sound (words_after (recover_plan w) m w) × NoRemains (words_after (recover_plan w) m w)
recovered w m n e =
    let r = done-run (recover_plan w) m n w e in
    both (words_after (recover_plan w) m w) (subst Sound (sym r.2) (recover-sound w r.0 r.1))

-- a call that is not cut is refused or done
whole-done : (p : Plan) (m : ℕ) (w : List ℕ) → needed p ≤ m → Sound w → ((n : ℕ) → answer_of p m ≡ Ok (Done n) → Sound (words_after p m w)) → Sound (words_after p m w)
whole-done (refuse k) m w h s f = s
whole-done (stores ps) m w h s f = f (length ps) (ap Ok (sym (outcome-done ps m h)))

edited : (w : List ℕ) → Sound w → (e : Edit) (m n : ℕ) → answer_of (edit_plan w e) m ≡ Ok (Done n) → Sound (words_after (edit_plan w e) m w)
edited w s (insert k p c words) m n z = ((demand2.inserts w s k p c words).done m n z).1.2.sound
edited w s (several k p c words) m n z = ((demand2.severals w s k p c words).done m n z).3.sound
edited w s (delete k p) m n z = ((demand2.deletes w s k p).done m n z).1.sound

mark-sound : (w : List ℕ) → Sound w → (c : ℕ) → Sound (words_after (mark_plan w c) mark_stores w)
mark-sound w s c = by (look_of w (Mark c)) refl
  where
    by : (x : Result Look Refusal) → look_of w (Mark c) ≡ x → Sound (words_after (mark_plan w c) mark_stores w)
    by (Err n) e = subst (λ (p : Plan). Sound (words_after p mark_stores w)) (sym (mark-refused w c e)) s
    by (Ok x) e =
        let l = x.layout in
        let t = x.site in
        let a = looked w (Mark c) l t e in
        let f = subst (λ (m : Layout). MarkFacts m w c t) (opened-open w l a.0).0 (mark-facts l w c t a.1) in
        ((worn.marks w s c).leaves (record { node = f.node; free = f.free })).0

kept : (w : List ℕ) → Sound w → (c : Call) → Whole w c → Sound (words_by c w) × NoRemains (words_by c w)
kept w s (edit e m) h = both _ (whole-done (edit_plan w e) m w h s (edited w s e m))
kept w s (mark c) h = both _ (mark-sound w s c)
kept w s (recover m) h = both _ (whole-done (recover_plan w) m w h s (λ n z. (recovered w m n z).0))

-- from C
delete-plan : (b : List ℕ) (k p : ℕ) → length b % 2 ≡ 0 → byte_delete b k p ≡ delete_plan (words_in b) k p
unfolding byte_delete
delete-plan b k p h = rw (eq-eqb (length b % 2) 0 h)

odd-plan : (b : List ℕ) (r : ℕ) → length b % 2 ≡ suc r → byte_recover b ≡ refuse Size
unfolding byte_recover
odd-plan b r h = rw (ne_eqb (length b % 2) 0 (λ z. omega (arith, h, z)))

deleted-bytes : (b : List ℕ) → Sound (words_in b) → length b % 2 ≡ 0 → (k p m n : ℕ) → answer_of (byte_delete b k p) m ≡ Ok (Done n)
    → (n ≡ 4 + tail_words (layout_of (words_in b)))
    × Sound (words_in (bytes_after (byte_delete b k p) m b)) × NoRemains (words_in (bytes_after (byte_delete b k p) m b))
deleted-bytes b s even k p m n e =
    let z : answer_of (delete_plan (words_in b) k p) m ≡ Ok (Done n) = ap (λ (q : Plan). answer_of q m) (sym (delete-plan b k p even)) ∙ e in
    let d = (demand2.deletes (words_in b) s k p).done m n z in
    let r = subst (λ (w : List ℕ). Sound w × NoRemains w) (sym (edit-words b (delete k p) m even)) (both _ d.1.sound) in
    (d.0, r.0, r.1)

recovered-bytes : (b : List ℕ) (m n : ℕ) → answer_of (byte_recover b) m ≡ Ok (Done n)
    → Sound (words_in (bytes_after (byte_recover b) m b)) × NoRemains (words_in (bytes_after (byte_recover b) m b))
recovered-bytes b m n e = by (length b % 2) refl
  where
    by : (r : ℕ) → length b % 2 ≡ r → Sound (words_in (bytes_after (byte_recover b) m b)) × NoRemains (words_in (bytes_after (byte_recover b) m b))
    by zero q =
        subst (λ (w : List ℕ). Sound w × NoRemains w) (sym (recover-words b m q))
        (recovered (words_in b) m n (ap (λ (p : Plan). answer_of p m) (sym (recover-plan b q)) ∙ e))
    by (suc r) q = let z : ◌≡◌ {A = ℕ} 0 1 = cc (ap (λ (p : Plan). answer_of p m) (sym (odd-plan b r q)) ∙ e) in absurd (omega arith)

pub wiping : Wiping
wiping =
    record {
      checks = checks;
      deletes = deletes;
      older = older;
      recovered = recovered;
      bound = recover-few;
      kept = kept;
      deleted_bytes = deleted-bytes;
      recovered_bytes = recovered-bytes;
    }
