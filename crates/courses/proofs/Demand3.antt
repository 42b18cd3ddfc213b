-- Demand 3: of stores that a call may have left, and of the calls themselves.
use Prim.Native.Nat.{ℕ, ◌≤◌}
use mathlib.Core.Path.{◌≡◌, refl, ap, ◌∙◌, sym, subst}
use mathlib.Core.List.{List, [], ◌∷◌, ◌++◌}
use native.Mathlib.Omega.{arith}
use lib.Seq.{take-nil}
use Rattle.calls.specs.Answers.{answer_of}
use Rattle.stores.specs.Stores.{Write, Plan, refuse, stores, run, applied, words_after}
use Rattle.layout.specs.Words.{layout_of}
use Rattle.lists.specs.Lists.{Ordered, KeepsWorn}
use Rattle.edits.proofs.Worn.{gap-keeps, chain-keeps, member-keeps}
use Rattle.recovery.specs.Plan.{recover_plan}
use Rattle.courses.specs.Course.{named, edit_plan, all_stores, needed, due, altered_below, words_through}
use Rattle.courses.specs.Demand3.{Course, Demand3}
use Rattle.courses.specs.Left.{Left, nothing, inserts, inserts_all, deletes, bare, LeftDemand3}
use Rattle.courses.proofs.Cut.{Cut, none-cut}
use Rattle.courses.proofs.CutInsert.{insert-cut}
use Rattle.courses.proofs.CutSeveral.{chain-cut}
use Rattle.courses.proofs.CutDelete.{delete-cut, four_at_most, as-bare, bare-cut}
use Rattle.courses.proofs.Calls.{call-left}
use Rattle.courses.proofs.Course.{cut-course}

-- the words that a call leaves, by its stores
applied-nothing : (m : ℕ) (w : List ℕ) → applied [] m w ≡ w
unfolding run
applied-nothing m w = ap (λ (qs : List Write). run qs w) (take-nil m)

pub after-applied : (p : Plan) (m : ℕ) (w : List ℕ) → words_after p m w ≡ applied (all_stores p) m w
after-applied (refuse n) m w = sym (applied-nothing m w)
after-applied (stores ps) m w = refl

-- what it leaves, is a cut of the ordered store
pub left_cut : (w : List ℕ) (s : Ordered w) (k : ℕ) (d : ℕ → ℕ) (ps : List Write) → Left w s k d ps → (m : ℕ)
    → (own : List ℕ) × Cut (layout_of w) w s.lists k own (applied ps (d m) w) (applied ps m w)
left_cut w s k d ps (nothing _) m = (
  s.lists.sequence k,
  subst (Cut (layout_of w) w s.lists k (s.lists.sequence k) (applied [] (d m) w)) (sym (applied-nothing m w))
      (subst (λ (x : List ℕ). Cut (layout_of w) w s.lists k (s.lists.sequence k) x w) (sym (applied-nothing (d m) w))
      (none-cut (layout_of w) w s.lists k)),
)
left_cut w s k d ps (inserts hk p hp i hi free words size) m = insert-cut (layout_of w) w s.exact s.lists k hk p hp i hi free words size m
left_cut w s k d ps (inserts_all hk p hp cells free words size) m =
    chain-cut (layout_of w) w s.exact s.lists k hk p hp cells free words (omega (arith, size)) m
left_cut w s k d ps (deletes hk p hp) m = delete-cut (layout_of w) w s.exact s.lists k hk p hp m
left_cut w s k d ps (bare hk p hp) m = bare-cut (layout_of w) w s.exact s.lists k hk p hp m

-- and keeps the worn nodes
pub left-keeps : (w : List ℕ) (s : Ordered w) (k : ℕ) (d : ℕ → ℕ) (ps : List Write) → Left w s k d ps → (m : ℕ) → KeepsWorn (layout_of w) w (applied ps m w)
left-keeps w s k d ps (nothing _) m = subst (KeepsWorn (layout_of w) w) (sym (applied-nothing m w)) (λ c n z x f i g. refl)
left-keeps w s k d ps (inserts hk p hp i hi free words size) m = gap-keeps (layout_of w) s.in_range w s.exact s.lists k hk p hp i hi free words size m
left-keeps w s k d ps (inserts_all hk p hp cells free words size) m =
    chain-keeps (layout_of w) s.in_range w s.exact s.lists k hk p hp cells words free size m
left-keeps w s k d ps (deletes hk p hp) m = member-keeps (layout_of w) s.in_range w s.exact s.lists k hk p hp m
left-keeps w s k d ps (bare hk p hp) m =
    subst (KeepsWorn (layout_of w) w) (as-bare (layout_of w) w s.exact s.lists k hk p hp m)
    (member-keeps (layout_of w) s.in_range w s.exact s.lists k hk p hp (four_at_most (layout_of w) w s.exact s.lists k hk p hp m))

pub left-demand3 : LeftDemand3
left-demand3 w s k d ps f m alts allowed y ms last q =
    let c = left_cut w s k d ps f m in
    subst
    (λ (v : List ℕ).
    needed (recover_plan (words_through ms v)) ≤ last
    → Course w s k (applied ps (d m) w) v ms last (words_through (ms ++ last ∷ []) v) (answer_of (recover_plan (words_through ms v)) last))
    (sym q) (cut-course w s k c.0 (applied ps (d m) w) (applied ps m w) c.1
    (left-keeps w s k d ps f (d m)) (left-keeps w s k d ps f m) alts allowed ms last)

pub demand3 : Demand3
demand3 y ms last w s e m alts allowed q =
    left-demand3 w s (named e) (due (layout_of w) e) (all_stores (edit_plan w e)) (call-left w s e) m alts allowed y ms last
    (q ∙ ap (altered_below (layout_of w) (named e) alts (layout_of w).lists) (after-applied (edit_plan w e) m w))
