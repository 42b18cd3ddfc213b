-- The clears of the erased column are those of recovery's plan.
use Prim.Native.Nat.{ℕ, zero, suc, ◌+◌, ◌<◌, ◌≤◌}
use mathlib.Core.Path.{◌≡◌, refl, ap, ap₂, ◌∙◌, sym, subst}
use mathlib.Core.List.Memᴰ
use mathlib.Core.List.{List, [], ◌∷◌, map}
use mathlib.Core.Bool.{Bool, true, false, not, cond, ◌||◌, or-true}
use mathlib.Core.Logic.{⊎_elim}
use native.Mathlib.Omega.{arith}
use native.Mathlib.Nat.{eq-or-lt_of_le}
use lib.ListN.{length, get_or, set, length-set}
use lib.Seq.{get_or-set_same, get_or-set_other}
use borrow.Author.Tests.{eqb-true, eqb-false}
use Rattle.sequences.specs.Sequence.{◌∈◌, range, filter}
use Rattle.sequences.proofs.Members.{member?}
use Rattle.stores.specs.Stores.{Write, write}
use Rattle.layout.specs.declared.Layout.{Layout}
use Rattle.layout.specs.Words.{Node, first_node, cell_count, ident_at, worn_ident, is_free, is_worn, in_use}
use Rattle.lists.specs.Decide.{View, view_of}
use Rattle.recovery.specs.Fits.{wrong}
use Rattle.recovery.specs.Plan.{joined, out_of}
use Rattle.recovery.proofs.Required.{wrong-right, wrong-wrong}
use Rattle.recovery.proofs.Joined.{one-joined, joined-one, out-member, out-worn, out-other}
use Rattle.fitting.specs.Fitting.{members_by}
use Rattle.mending.specs.Mending.{erased, erased_from, clears_in}

-- an entry that is 65,535 stays so: it stands inside the column
worn-stays : (xs : List ℕ) (a c : ℕ) → get_or xs c 0 ≡ worn_ident → get_or (set xs a worn_ident) c 0 ≡ worn_ident
worn-stays [] a c e = e
worn-stays (x ∷ xs) zero zero e = refl
worn-stays (x ∷ xs) zero (suc c) e = e
worn-stays (x ∷ xs) (suc a) zero e = e
worn-stays (x ∷ xs) (suc a) (suc c) e = worn-stays xs a c e

-- through any number of cells
pub erased-worn : (cs xs : List ℕ) (c : ℕ) → get_or xs c 0 ≡ worn_ident → get_or (erased cs xs) c 0 ≡ worn_ident
unfolding erased
erased-worn [] xs c e = e
erased-worn (d ∷ cs) xs c e = erased-worn cs (set xs d worn_ident) c (worn-stays xs d c e)

-- the column is as long as before
pub erased-length : (cs xs : List ℕ) → length (erased cs xs) ≡ length xs
unfolding erased
erased-length [] xs = refl
erased-length (d ∷ cs) xs = erased-length cs (set xs d worn_ident) ∙ length-set xs d worn_ident

-- the entry of an erased cell is 65,535
pub erased-in : (cs xs : List ℕ) (c : ℕ) → c < length xs → c ∈ cs → get_or (erased cs xs) c 0 ≡ worn_ident
unfolding erased
erased-in (d ∷ cs) xs c h (Memᴰ.head e) =
    erased-worn cs (set xs d worn_ident) c (ap (λ (a : ℕ). get_or (set xs a worn_ident) c 0) (sym e) ∙ get_or-set_same xs c worn_ident 0 h)
erased-in (d ∷ cs) xs c h (Memᴰ.tail m) = erased-in cs (set xs d worn_ident) c (omega (arith, length-set xs d worn_ident)) m
erased-in [] xs c h x'' = elim x'' [ ]

-- any other entry is as before
pub erased-other : (cs xs : List ℕ) (c : ℕ) → (c ∈ cs → ⊥) → get_or (erased cs xs) c 0 ≡ get_or xs c 0
unfolding erased
erased-other [] xs c n = refl
erased-other (d ∷ cs) xs c n =
    erased-other cs (set xs d worn_ident) c (λ m. n (Memᴰ.tail m)) ∙ get_or-set_other xs d c worn_ident 0 (λ e. n (Memᴰ.head e))

-- the same of the members of the n lists from k on
module _ (l : Layout) (v : View) (back : ℕ → Bool) where
  -- an entry that is 65,535 stays so
  pub from-worn : (k n : ℕ) (xs : List ℕ) (c : ℕ) → get_or xs c 0 ≡ worn_ident → get_or (erased_from l v back k n xs) c 0 ≡ worn_ident
  unfolding erased_from
  from-worn k zero xs c e = e
  from-worn k (suc n) xs c e =
      from-worn (suc k) n (erased (members_by l v (back k) k) xs) c (erased-worn (members_by l v (back k) k) xs c e)

  -- the entry of a member is 65,535
  pub from_in : (k n : ℕ) (xs : List ℕ) (c j : ℕ) → c < length xs → k ≤ j → j < k + n → c ∈ members_by l v (back j) j
      → get_or (erased_from l v back k n xs) c 0 ≡ worn_ident
  unfolding erased_from
  from_in k zero xs c j i p q m = absurd (omega arith)
  from_in k (suc n) xs c j i p q m =
      let cs = members_by l v (back k) k in
      ⊎_elim
      (λ e. from-worn (suc k) n (erased cs xs) c (erased-in cs xs c i (subst (λ (i : ℕ). c ∈ members_by l v (back i) i) (sym e) m)))
      (λ h. from_in (suc k) n (erased cs xs) c j (omega (arith, erased-length cs xs)) h (omega arith) m)
      (eq-or-lt_of_le p)

  -- any other entry is as before
  pub from-other : (k n : ℕ) (xs : List ℕ) (c : ℕ) → ((j : ℕ) → k ≤ j → j < k + n → c ∈ members_by l v (back j) j → ⊥)
      → get_or (erased_from l v back k n xs) c 0 ≡ get_or xs c 0
  unfolding erased_from
  from-other k zero xs c h = refl
  from-other k (suc n) xs c h =
      from-other (suc k) n (erased (members_by l v (back k) k) xs) c (λ j p q. h j (omega arith) (omega arith))
      ∙ erased-other (members_by l v (back k) k) xs c (h k (omega arith) (omega arith))

-- of the n cells from a on, the members ms are erased in the column, and any other entry is as in the words
abbrev pub Column : Layout → List ℕ → List ℕ → List ℕ → ℕ → ℕ → Type 0
Column l w ms idents a n =
    (c : ℕ) → a ≤ c → c < a + n → (c ∈ ms → get_or idents c 0 ≡ worn_ident) × ((c ∈ ms → ⊥) → get_or idents c 0 ≡ get_or w (ident_at l c) 0)

-- so it is once the members of the lists are erased
pub column-told : (l : Layout) (w idents : List ℕ) (v : View) (back : ℕ → Bool) (s : ℕ → List ℕ) → cell_count l ≤ length idents
    → ((c : ℕ) → Node l c → get_or idents c 0 ≡ get_or w (ident_at l c) 0)
    → ((k : ℕ) → k < l.lists → (c : ℕ) → (c ∈ members_by l v (back k) k → c ∈ s k) × (c ∈ s k → c ∈ members_by l v (back k) k))
    → Column l w (joined s l.lists) (erased_from l v back 0 l.lists idents) (first_node l) l.nodes
column-told l w idents v back s room same members c p q = (
  (λ m.
      let r = joined-one s l.lists c m in
      from_in l v back 0 l.lists idents c r.0 (omega arith) (omega arith) (omega (arith, r.1)) ((members r.0 r.1 c).1 r.2)),
  (λ o.
      from-other l v back 0 l.lists idents c
      (λ j _ h m. let k : j < l.lists = omega arith in o (one-joined s l.lists j c k ((members j k c).0 m)))
      ∙ same c (record { low = p; high = q })),
)

-- the clears by such a column are what is wrong of those required
pub clears-told : (l : Layout) (w idents ms : List ℕ) (a n : ℕ) → Column l w ms idents a n
    → clears_in l idents a n ≡ wrong w (map (λ c. write (ident_at l c) 0) (out_of (view_of l w).ident ms a n))
unfolding clears_in range filter wrong
clears-told l w idents ms a zero h = refl
clears-told l w idents ms a (suc n) h =
    let p = write (ident_at l a) 0 in
    let step : ℕ → List Write → List Write = λ v t. cond (in_use v) (p ∷ t) t in
    let here = h a (omega arith) (omega arith) in
    let below = clears-told l w idents ms (suc a) n (λ c p q. h c (omega arith) (omega arith)) in
    ⊎_elim
    (λ m. ap₂ step (here.0 m) below ∙ ap required (sym (out-member (view_of l w).ident ms a n m)))
    (λ o. ap₂ step (here.1 o) below ∙ outside o (is_free (get_or w (ident_at l a) 0)) (is_worn (get_or w (ident_at l a) 0)) refl refl)
    (member? a ms)
  where
    required : List ℕ → List Write
    required cs = wrong w (map (λ c. write (ident_at l c) 0) cs)

    rest : List ℕ
    rest = out_of (view_of l w).ident ms (suc a) n

    -- a node in no list: free, worn, or to be cleared
    outside : (a ∈ ms → ⊥) → (b d : Bool) → is_free (get_or w (ident_at l a) 0) ≡ b → is_worn (get_or w (ident_at l a) 0) ≡ d
        → cond (not (b || d)) (write (ident_at l a) 0 ∷ required rest) (required rest) ≡ required (out_of (view_of l w).ident ms a (suc n))
    outside o b true p q =
        ap (λ (x : Bool). cond (not x) (write (ident_at l a) 0 ∷ required rest) (required rest)) (or-true b)
        ∙ ap required (sym (out-worn (view_of l w).ident ms a n (eqb-true _ worn_ident q)))
    outside o true false p q =
        sym (wrong-right w (write (ident_at l a) 0) (map (λ c. write (ident_at l c) 0) rest) (eqb-true _ 0 p))
        ∙ ap required (sym (out-other (view_of l w).ident ms a n o (eqb-false _ worn_ident q)))
    outside o false false p q =
        sym (wrong-wrong w (write (ident_at l a) 0) (map (λ c. write (ident_at l c) 0) rest) (eqb-false _ 0 p))
        ∙ ap required (sym (out-other (view_of l w).ident ms a n o (eqb-false _ worn_ident q)))
