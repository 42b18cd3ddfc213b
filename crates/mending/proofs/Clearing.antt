-- The clears that are left where a pass over the nodes stands.
use Prim.Native.Nat.{ℕ, suc, ◌+◌, ◌-◌, ◌≤◌, ◌<◌}
use mathlib.Core.Path.{◌≡◌, ap}
use mathlib.Core.List.{List, [], ◌∷◌}
use mathlib.Core.Bool.{true, false}
use native.Mathlib.Omega.{arith}
use native.Mathlib.Numerals.{add-one}
use lib.ListN.{get_or}
use Rattle.stores.specs.Stores.{Write, write}
use Rattle.layout.specs.declared.Layout.{Layout}
use Rattle.layout.specs.Words.{first_node, cell_count, ident_at, in_use}
use Rattle.mending.specs.Mending.{clears_in, clears}

-- the clears of the cells from i on
abbrev pub clears_from : Layout → List ℕ → ℕ → List Write
clears_from l idents i = clears_in l idents i (cell_count l - i)

module _ (l : Layout) (idents : List ℕ) where
  pub clears-first : clears_from l idents (first_node l) ≡ clears l idents
  clears-first = let e : cell_count l - first_node l ≡ l.nodes = omega arith in ap (clears_in l idents (first_node l)) e

  module _ (i : ℕ) where
    -- the entry of cell i says in use, or it does not
    pub clears-one : i < cell_count l → in_use (get_or idents i 0) ≡ true → clears_from l idents i ≡ write (ident_at l i) 0 ∷ clears_from l idents (i + 1)
    unfolding clears_in
    clears-one h q = let s : cell_count l - i ≡ suc (cell_count l - (i + 1)) = omega arith in rw (s, clears_in, q, add-one i)

    pub clears-skip : i < cell_count l → in_use (get_or idents i 0) ≡ false → clears_from l idents i ≡ clears_from l idents (i + 1)
    unfolding clears_in
    clears-skip h q = let s : cell_count l - i ≡ suc (cell_count l - (i + 1)) = omega arith in rw (s, clears_in, q, add-one i)

    -- no cell is left
    pub clears-none : cell_count l ≤ i → clears_from l idents i ≡ []
    unfolding clears_in
    clears-none h = let s : cell_count l - i ≡ 0 = omega arith in rw s
