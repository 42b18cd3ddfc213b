-- What is found of all lists is the plan of recovery.
use Prim.Native.Nat.{ℕ, zero, suc, ◌+◌, ◌<◌, ◌≤◌}
use mathlib.Core.Path.{◌≡◌, refl, ap, ap₂, ◌∙◌, sym, subst}
use mathlib.Core.List.{List, [], ◌++◌, append-nil, append_assoc}
use mathlib.Core.Bool.{Bool, true, false, ◌&&◌, and-eq-true_iff}
use native.Mathlib.Decide.{ℕ_discrete}
use native.Mathlib.Omega.{arith}
use native.Mathlib.Nat.{eq-or-lt_of_le}
use mathlib.Core.Logic.{⊎_elim}
use lib.Dec.{eqb}
use lib.ListN.{length, get_or}
use borrow.Author.Tests.{eq-eqb, ne_eqb, eqb-true}
use Rattle.sequences.specs.Sequence.{◌∈◌}
use Rattle.std.specs.Prelude.{Option, Some, None, Result, Ok, Err}
use Rattle.std.specs.Option.{option_or}
use Rattle.std.specs.Result.{result_err}
use Rattle.stores.specs.Stores.{Write, write, run, refuse, stores}
use Rattle.layout.specs.declared.Layout.{Layout}
use Rattle.layout.specs.declared.Refusal.{Refusal}
use Rattle.layout.specs.Words.{most_cells, first_node, Node, InRange, size_of, ident_at, count_at, Unlisted}
use Rattle.lists.specs.Lists.{asked, others_asked, count_asked}
use Rattle.lists.specs.Decide.{View, view_of, count_in, used, unwiped}
use Rattle.recovery.specs.Fits.{wrong}
use Rattle.recovery.specs.Plan.{joined, lists_asked, clears_asked, wipes_asked, fitting_of, refusal_from, recover_of}
use Rattle.recovery.proofs.Required.{wrong-right, wrong-wrong, wrong-append}
use Rattle.recovery.proofs.Whole.{unrefused-accepted}
use Rattle.fitting.specs.declared.Chosen.{Chosen}
use Rattle.fitting.specs.Fitting.{fit_in, count_mend, members_by}
use Rattle.fitting.proofs.Told.{Told, fit-told, chosen-told, members-told}
use Rattle.mending.specs.declared.Mends.{Mends}
use Rattle.mending.specs.Mending.{refusal_in, list_mends, mends_in, erased_from, clears, wipes, Mended, writes_in}
use Rattle.mending.proofs.Cleared.{Column, column-told, clears-told}
use Rattle.mending.proofs.LeftOver.{all-carry, nothing_left, clears-nothing, wipes-nothing}
use Rattle.mending.proofs.Wiping.{plan-parted, plan-told}

-- the first list that is refused is the same
pub refusal-told
    : (l : Layout) (w : List ℕ) (k n : ℕ) → k + n ≤ l.lists → refusal_in l (view_of l w) (count_in l w) k n ≡ refusal_from l w k n
unfolding refusal_in refusal_from
refusal-told l w k zero h = refl
refusal-told l w k (suc n) h =
    by (fit_in l (view_of l w) k (count_in l w k)) refl (fit-told l w k (omega arith)) (refusal-told l w (suc k) n (omega arith))
  where
    by : (r : Result Chosen Refusal) → fit_in l (view_of l w) k (count_in l w k) ≡ r → Told l w k r
        → refusal_in l (view_of l w) (count_in l w) (suc k) n ≡ refusal_from l w (suc k) n
        → refusal_in l (view_of l w) (count_in l w) k (suc n) ≡ refusal_from l w k (suc n)
    by (Err n) e t i = rw e (sym (t _))
    by (Ok c) e t i = rw (e, t.0) i

-- list j more at the end
mends-more : (l : Layout) (v : View) (c : ℕ → ℕ) (k n j : ℕ) → k + n ≡ j → mends_in l v c k (suc n) ≡ mends_in l v c k n ++ list_mends l v c j
unfolding mends_in
mends-more l v c k zero j e =
    let q : k ≡ j = omega arith in
    append-nil (list_mends l v c k) ∙ ap (list_mends l v c) q
mends-more l v c k (suc n) j e =
    ap (λ (ps : List Write). list_mends l v c k ++ ps) (mends-more l v c (suc k) n j (omega arith))
    ∙ sym (append_assoc (list_mends l v c k) (mends_in l v c (suc k) n) (list_mends l v c j))

-- the mend of a count is the count's wrong word
count-told : (l : Layout) (w : List ℕ) (k : ℕ) (s : List ℕ) (m : ℕ) → m ≡ length s → count_mend l k (count_in l w k) m ≡ wrong w (count_asked l k s)
unfolding wrong
count-told l w k s m e = ap (count_mend l k (count_in l w k)) e ∙ by (ℕ_discrete (count_in l w k) (length s))
  where
    by : Dec (count_in l w k ≡ length s) → count_mend l k (count_in l w k) (length s) ≡ wrong w (count_asked l k s)
    by (yes q) = rw (eq-eqb _ _ q) (sym (wrong-right w (write (count_at l k) (length s)) [] q))
    by (no q) = rw (ne_eqb _ _ q) (sym (wrong-wrong w (write (count_at l k) (length s)) [] q))

-- the mends are the wrong words of the sequences that are chosen
mend-told
    : (l : Layout) (w : List ℕ) (k : ℕ) → k < l.lists → result_err (fit_in l (view_of l w) k (count_in l w k)) ≡ None
    → list_mends l (view_of l w) (count_in l w) k ≡ wrong w (asked l k (fitting_of l w k))
unfolding asked
mend-told l w k h z =
    let t = chosen-told l w k h z in
    let s = fitting_of l w k in
    ap₂ ◌++◌ t.1 (count-told l w k s _ t.3) ∙ sym (wrong-append w (others_asked l k s) (count_asked l k s))

mends-told
    : (l : Layout) (w : List ℕ) → ((k : ℕ) → k < l.lists → result_err (fit_in l (view_of l w) k (count_in l w k)) ≡ None)
    → (n : ℕ) → n ≤ l.lists → mends_in l (view_of l w) (count_in l w) 0 n ≡ wrong w (joined (λ k. asked l k (fitting_of l w k)) n)
unfolding mends_in joined wrong
mends-told l w z zero h = refl
mends-told l w z (suc n) h =
    mends-more l (view_of l w) (count_in l w) 0 n n (omega arith)
    ∙ ap₂ ◌++◌ (mends-told l w z n (omega arith)) (mend-told l w n (omega arith) (z n (omega arith)))
    ∙ sym (wrong-append w (joined (λ k. asked l k (fitting_of l w k)) n) (asked l n (fitting_of l w n)))

-- where none is refused, every list is not
none-refused : (l : Layout) (v : View) (c : ℕ → ℕ) (k n : ℕ) → refusal_in l v c k n ≡ None → (j : ℕ) → k ≤ j → j < k + n → result_err (fit_in l v j (c j)) ≡ None
unfolding refusal_in
none-refused l v c k zero e j p q = absurd (omega arith)
none-refused l v c k (suc n) e j p q =
    let r = by (result_err (fit_in l v k (c k))) (refusal_in l v c (suc k) n) e in
    ⊎_elim (λ z. ap (λ (i : ℕ). result_err (fit_in l v i (c i))) (sym z) ∙ r.0) (λ z. none-refused l v c (suc k) n r.1 j z (omega arith)) (eq-or-lt_of_le p)
  where
    by : (a b : Option Refusal) → option_or a b ≡ None → (a ≡ None) × (b ≡ None)
    by None b e = (refl, e)
    by (Some n) b e = absurd (cc)

-- the first refusal decides
pub recover-refused : (l : Layout) (w : List ℕ) (n : Refusal) → refusal_in l (view_of l w) (count_in l w) 0 l.lists ≡ Some n → recover_of l w ≡ refuse n
unfolding recover_of
recover-refused l w n e = rw (sym (refusal-told l w 0 l.lists (omega arith)) ∙ e)

-- where none is refused ..
module _ (l : Layout) (w : List ℕ) (none : refusal_in l (view_of l w) (count_in l w) 0 l.lists ≡ None) where
  unrefused : refusal_from l w 0 l.lists ≡ None
  unrefused = sym (refusal-told l w 0 l.lists (omega arith)) ∙ none

  all-fit : (k : ℕ) → k < l.lists → result_err (fit_in l (view_of l w) k (count_in l w k)) ≡ None
  all-fit k h = none-refused l (view_of l w) (count_in l w) 0 l.lists none k (omega arith) (omega arith)

  all-mends : mends_in l (view_of l w) (count_in l w) 0 l.lists ≡ wrong w (lists_asked l (fitting_of l w))
  all-mends = mends-told l w all-fit l.lists (omega arith)

  -- .. the stores in three parts, as they are required of the words; of any layout, also with more mends than a `Mends` keeps
  pub parts-accepted
      : length w ≡ size_of l
      → let s = fitting_of l w in
      recover_of l w ≡ stores ((mends_in l (view_of l w) (count_in l w) 0 l.lists ++ wrong w (clears_asked l w s)) ++ wrong w (wipes_asked l w s))
  unfolding recover_of
  parts-accepted exact =
      let s = fitting_of l w in
      rw unrefused
      (ap stores
      (plan-parted l w s exact (unrefused-accepted l w unrefused)
      ∙ ap (λ (ps : List Write). (ps ++ wrong w (clears_asked l w s)) ++ wrong w (wipes_asked l w s)) (sym all-mends)))

module _ (l : Layout) (w : List ℕ) (m : Mends) (told : Mended l (view_of l w) (count_in l w) m) where
  abbrev v : View
  v = view_of l w

  module _ (exact : length w ≡ size_of l) where
    abbrev s : ℕ → List ℕ
    s = fitting_of l w

    -- the stores in three parts
    pub parts-told : recover_of l w ≡ stores ((writes_in m.writes ++ wrong w (clears_asked l w s)) ++ wrong w (wipes_asked l w s))
    parts-told =
        parts-accepted l w told.accepted exact
        ∙ ap (λ (ps : List Write). stores ((ps ++ wrong w (clears_asked l w s)) ++ wrong w (wipes_asked l w s))) (sym told.writes)

    -- as they are made: the mends, the clears, and the wipes of what these leave ..
    stores-told : (cs : List Write) → cs ≡ wrong w (clears_asked l w s) → let ps = writes_in m.writes ++ cs in recover_of l w ≡ stores (ps ++ wipes l (run ps w))
    unfolding recover_of
    stores-told cs e =
        let u = unrefused l w told.accepted in
        rw u
        (ap stores
        (plan-told l w s exact (unrefused-accepted l w u)
        ∙ ap₂ (λ (a b : List Write). (a ++ b) ++ wipes l (run (a ++ b) w)) (sym (told.writes ∙ all-mends l w told.accepted)) (sym e)))

    -- .. by what is left of the nodes' identifiers
    module _ (r : InRange l) (idents : List ℕ) (room : most_cells ≡ length idents) (same : (c : ℕ) → Node l c → get_or idents c 0 ≡ v.ident c) where
      abbrev left : List ℕ
      left = erased_from l v (λ k. get_or m.back k false) 0 l.lists idents

      pub column : Column l w (joined s l.lists) left (first_node l) l.nodes
      column =
          column-told l w idents v (λ k. get_or m.back k false) s (omega arith) same
          (λ k h. subst (λ (b : Bool). (c : ℕ) → (c ∈ members_by l v b k → c ∈ s k) × (c ∈ s k → c ∈ members_by l v b k))
          (sym (told.back k h)) (members-told l w k h (all-fit l w told.accepted k h)))

      pub recover-stores : let ps = writes_in m.writes ++ clears l left in recover_of l w ≡ stores (ps ++ wipes l (run ps w))
      recover-stores = stores-told (clears l left) (clears-told l w left (joined s l.lists) (first_node l) l.nodes column)

    -- .. without clears, if nobody is left over; and the mends alone, if no free node has a record
    module _ (r : InRange l) (e : (m.carried && eqb m.members (length (used v (first_node l) l.nodes))) ≡ true) where
      both : (m.carried ≡ true) × (eqb m.members (length (used v (first_node l) l.nodes)) ≡ true)
      both = (and-eq-true_iff _ _).0 e

      pub listed : (k : ℕ) → k < l.lists → (c : ℕ) → c ∈ s k → Unlisted (get_or w (ident_at l c) 0) → ⊥
      listed = all-carry l r w (all-fit l w told.accepted) (told.carried both.0)

      pub unlisted : (c : ℕ) → Node l c → (c ∈ joined s l.lists → ⊥) → Unlisted (get_or w (ident_at l c) 0)
      unlisted = nothing_left l r w (all-fit l w told.accepted) (told.carried both.0) (sym (told.members) ∙ eqb-true _ _ both.1)

      pub recover-wipes : recover_of l w ≡ stores (writes_in m.writes ++ wipes l (run (writes_in m.writes) w))
      recover-wipes =
          stores-told [] (sym (clears-nothing l w s unlisted))
          ∙ ap (λ (ps : List Write). stores (ps ++ wipes l (run ps w))) (append-nil (writes_in m.writes))

      pub recover-mends : length (unwiped v (first_node l) l.nodes) ≡ 0 → recover_of l w ≡ stores (writes_in m.writes)
      recover-mends q =
          parts-told
          ∙ ap stores
          (ap₂ (λ (a b : List Write). (writes_in m.writes ++ a) ++ b) (clears-nothing l w s unlisted) (wipes-nothing l w s unlisted q)
          ∙ append-nil (writes_in m.writes ++ [])
          ∙ append-nil (writes_in m.writes))
