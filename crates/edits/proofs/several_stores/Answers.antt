-- `edits::several_stores` meets its contract: the product fits sixteen bits.
use Prim.Native.Nat.{ℕ, ◌*◌, ◌/◌, ◌≤◌}
use mathlib.Core.Path.{◌≡◌, ap}
use native.Mathlib.Omega.{arith}
use Rattle.edits.specs.Edits.{insert_stores}
use Rattle.edits.proofs.Several.{stores-few}
use Rattle.edits.proofs.several_stores.Goals.{After-insert_stores}
use Rattle.edits.proofs.several_stores.Goals as goal

-- the product
product : (c : After-insert_stores) → let a = c.args in
    a.size / a.l.width * c.insert_stores.result ≡ a.size / a.l.width * insert_stores a.l
product c = let a = c.args in ap (λ (n : ℕ). a.size / a.l.width * n) c.insert_stores.ensures

few : (c : After-insert_stores) → let a = c.args in a.size / a.l.width * c.insert_stores.result ≤ 38000
few c = let s = c.before.before in rw (product c) (stores-few s.args.l s.requires.0 (s.args.size / s.args.l.width) s.requires.1)

pub overflow_mul-result : goal.overflow_mul-result
overflow_mul-result c = omega (arith, few c)

pub overflow_cast-result : goal.overflow_cast-result
overflow_cast-result c = omega (arith, few c)

pub returns : goal.returns
returns c = product c
