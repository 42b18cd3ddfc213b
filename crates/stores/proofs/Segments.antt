-- A run in segments: the stores ps and then qs, each made by a function of its own, are one run of ps ++ qs under one allowance.
use Prim.Native.Nat.{ℕ, zero, suc, ◌-◌, ◌≤◌}
use mathlib.Core.Path.{◌≡◌, refl, ap, ◌∙◌, sym}
use mathlib.Core.List.{List, [], ◌∷◌, ◌++◌}
use native.Mathlib.Omega.{arith}
use lib.ListN.{length, take}
use lib.Seq.{take-append-le}
use Rattle.stores.specs.declared.Write.{Write}
use Rattle.stores.specs.Stores.{run, applied}
use Rattle.stores.proofs.Laws.{run-append}

-- the first m of both
pub take-append : (m : ℕ) (ps qs : List Write) → take m (ps ++ qs) ≡ take m ps ++ take (m - length ps) qs
take-append zero [] qs = refl
take-append zero (p ∷ ps) qs = let e : 0 - length (p ∷ ps) ≡ 0 = omega arith in ap (λ (n : ℕ). take n qs) (sym e)
take-append (suc m) [] qs = let e : suc m - 0 ≡ suc m = omega arith in ap (λ (n : ℕ). take n qs) (sym e)
take-append (suc m) (p ∷ ps) qs =
    let e : suc m - length (p ∷ ps) ≡ m - length ps = omega arith in
    ap (λ (t : List Write). p ∷ t) (take-append m ps qs ∙ ap (λ (n : ℕ). take m ps ++ take n qs) (sym e))

-- the words: the second segment goes on where the first ends, with what is left of the allowance ..
pub applied-append : (ps qs : List Write) (m : ℕ) (w : List ℕ) → applied (ps ++ qs) m w ≡ applied qs (m - length ps) (applied ps m w)
applied-append ps qs m w =
    ap (λ (t : List Write). run t w) (take-append m ps qs) ∙ run-append (take m ps) (take (m - length ps) qs) w

-- .. and has nothing to do if that is none
pub applied-first : (ps qs : List Write) (m : ℕ) (w : List ℕ) → m ≤ length ps → applied (ps ++ qs) m w ≡ applied ps m w
applied-first ps qs m w h = ap (λ (t : List Write). run t w) (take-append-le m ps qs h)
