-- Laws of the column of identifiers: it is read, and members are erased in it.
use Prim.Native.Nat.{ℕ, zero, suc, ◌+◌, ◌-◌, ◌≤◌, ◌<◌}
use mathlib.Core.Path.{◌≡◌, refl, ap, ◌∙◌}
use native.Mathlib.Decide.{ℕ_discrete}
use mathlib.Core.List.{List, [], ◌∷◌}
use mathlib.Core.Bool.{Bool, true, false}
use native.Mathlib.Omega.{arith}
use lib.ListN.{length, get_or, set}
use lib.Seq.{get_or-set_same, get_or-set_other}
use Rattle.sequences.specs.Sequence.{trail}
use Rattle.sequences.proofs.Trail.{trail-on, trail-out, trail-none}
use Rattle.layout.specs.declared.Layout.{Layout}
use Rattle.layout.specs.Words.{most_cells, InRange, first_node, is_node, worn_ident}
use Rattle.layout.proofs.Laws.{is-node}
use Rattle.lists.specs.Decide.{View}
use Rattle.fitting.specs.Fitting.{members_by}
use Rattle.mending.specs.Mending.{erased, link_by, erased_along}

-- a node has an entry in the column
pub node-entry : (l : Layout) → InRange l → (y : ℕ) → is_node l y ≡ true → y < most_cells
node-entry l r y e = omega (arith, (is-node l y e).high, r.lists, r.nodes)

-- the column has the identifiers of the nodes below n
abbrev pub ReadTo : Layout → View → List ℕ → ℕ → Type 0
ReadTo l v xs n = (c : ℕ) → first_node l ≤ c → c < n → get_or xs c 0 ≡ v.ident c

-- one node more
pub read_more : (l : Layout) (v : View) (xs : List ℕ) (n x : ℕ) → n < length xs → x ≡ v.ident n → ReadTo l v xs n → ReadTo l v (set xs n x) (n + 1)
read_more l v xs n x h e p c low high = by (ℕ_discrete c n)
  where
    by : Dec (c ≡ n) → get_or (set xs n x) c 0 ≡ v.ident c
    by (yes q) = rw q (get_or-set_same xs n x 0 h ∙ e)
    by (no q) = get_or-set_other xs n c x 0 q ∙ p c low (omega arith)

-- it does not matter which cell is erased first,
set-swap : (xs : List ℕ) (a b : ℕ) → set (set xs a worn_ident) b worn_ident ≡ set (set xs b worn_ident) a worn_ident
set-swap [] a b = refl
set-swap (x ∷ xs) zero zero = refl
set-swap (x ∷ xs) zero (suc b) = refl
set-swap (x ∷ xs) (suc a) zero = refl
set-swap (x ∷ xs) (suc a) (suc b) = ap (λ (t : List ℕ). x ∷ t) (set-swap xs a b)

-- nor whether before or after others
erased-set : (cs xs : List ℕ) (a : ℕ) → set (erased cs xs) a worn_ident ≡ erased cs (set xs a worn_ident)
unfolding erased
erased-set [] xs a = refl
erased-set (c ∷ cs) xs a = erased-set cs (set xs c worn_ident) a ∙ ap (erased cs) (set-swap xs c a)

-- at the members of list k
pub erased-members : (l : Layout) (v : View) (back : Bool) (k : ℕ) (idents : List ℕ)
    → erased_along l v back l.nodes (link_by v back k) idents ≡ erased (members_by l v back k) idents
erased-members l v true k idents = refl
erased-members l v false k idents = refl

module _ (l : Layout) (v : View) (back : Bool) (n y : ℕ) (idents : List ℕ) where
  -- one cell more
  pub erased-on : 0 < n → is_node l y ≡ true
      → erased_along l v back n y idents ≡ erased_along l v back (n - 1) (link_by v back y) (set idents y worn_ident)
  unfolding erased
  erased-on h e =
      let s : n ≡ suc (n - 1) = omega arith in
      ap (λ (m : ℕ). erased_along l v back m y idents) s ∙ rw (trail-on (link_by v back) (is_node l) (n - 1) y e)

  -- no cell more, since y is no node
  pub erased-out : is_node l y ≡ false → erased_along l v back n y idents ≡ idents
  unfolding erased
  erased-out e = rw (trail-out (link_by v back) (is_node l) n y e)

  -- no cell more, since n are passed
  pub erased-none : n ≡ 0 → erased_along l v back n y idents ≡ idents
  unfolding erased
  erased-none e = rw (e, trail-none (link_by v back) (is_node l) y)

-- one cell more of each of two walks, the first of which is made first
pub erased-both : (l : Layout) (v : View) (back other : Bool) (n y z : ℕ) (idents : List ℕ) → 0 < n → is_node l y ≡ true → is_node l z ≡ true
    → erased_along l v other n z (erased_along l v back n y idents)
    ≡ erased_along l v other (n - 1) (link_by v other z) (erased_along l v back (n - 1) (link_by v back y) (set (set idents y worn_ident) z worn_ident))
erased-both l v back other n y z idents h p q =
    ap (erased_along l v other n z) (erased-on l v back n y idents h p)
    ∙ erased-on l v other n z (erased_along l v back (n - 1) (link_by v back y) (set idents y worn_ident)) h q
    ∙ ap (erased_along l v other (n - 1) (link_by v other z)) (erased-set (trail (link_by v back) (is_node l) (n - 1) (link_by v back y)) (set idents y worn_ident) z)
