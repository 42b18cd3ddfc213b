-- The invariant of the recoveries of a course: the words are accepted, with the same sequences.
use Prim.Native.Nat.{ℕ, ◌<◌}
use mathlib.Core.Path.{◌≡◌, ◌∙◌}
use mathlib.Core.List.{List}
use lib.ListN.{length, get_or, take, drop}
use Rattle.std.specs.Prelude.{Ok}
use Rattle.sequences.proofs.Members.{all_take}
use Rattle.stores.specs.Stores.{Write, applied, stores}
use Rattle.stores.proofs.Laws.{run_out, length_run}
use Rattle.layout.specs.declared.Layout.{Layout}
use Rattle.layout.specs.Words.{size_of, opened}
use Rattle.lists.proofs.Same.{same-opened}
use Rattle.recovery.specs.Plan.{recover_stores, recover_plan, Accepted}
use Rattle.recovery.proofs.Suffix.{suffix}
use Rattle.recovery.proofs.Whole.{accepted-plan}
use Rattle.courses.proofs.Final.{head-spares}

-- the words y are accepted with the sequences t, and questions 1 to 4 are answered yes
pub record Standing (l : Layout) (t : ℕ → List ℕ) (y : List ℕ) : Type 0 where
  pub opens : opened y ≡ Ok l
  pub size : length y ≡ size_of l
  pub accepted : Accepted l y t

-- the plan of recovery
pub standing-plan : (l : Layout) (t : ℕ → List ℕ) (y : List ℕ) → Standing l t y → recover_plan y ≡ stores (recover_stores l y t)
standing-plan l t y s = accepted-plan l y t s.opens s.accepted

-- after m stores of the plan the words stand again, and the plan is the rest
pub standing-after : (l : Layout) (t : ℕ → List ℕ) (y : List ℕ) → Standing l t y → (m : ℕ)
    → Standing l t (applied (recover_stores l y t) m y) × (recover_stores l (applied (recover_stores l y t) m y) t ≡ drop m (recover_stores l y t))
standing-after l t y s m =
    let ps = recover_stores l y t in
    let r = suffix l t m y s.size s.accepted in
    let head : (a : ℕ) → a < 8 → get_or (applied ps m y) a 0 ≡ get_or y a 0 =
    λ a h. run_out (take m ps) y a (all_take (λ (p : Write). a ≡ p.at → ⊥) ps m (head-spares l y s.size t s.accepted a h)) in
    let size = length_run (take m ps) y in
    (record { opens = same-opened y (applied ps m y) head size ∙ s.opens; size = size ∙ s.size; accepted = r.0 }, r.1)
