-- `wipes::wipe`: at cell c the nodes before it are wiped.
use Prim.Native.Nat.{ℕ, suc, ◌+◌, ◌-◌, ◌≤◌, ◌<◌}
use mathlib.Core.Path.{◌≡◌, sym, ◌∙◌}
use mathlib.Core.List.{List, ◌++◌}
use native.Mathlib.Omega.{arith}
use native.Mathlib.Numerals.{add-one}
use lib.ListN.{length, take}
use Rattle.stores.specs.Stores.{Write}
use Rattle.stores.proofs.Outcomes.{done-whole, undone-short}
use Rattle.encoding.specs.Form.{FormLaws}
use Rattle.layout.specs.declared.Layout.{Layout}
use Rattle.layout.specs.Words.{first_node, cell_count}
use Rattle.mending.specs.Mending.{wipes_of, wipes_from}
use Rattle.mending.proofs.Making.{Made, made-none, made-length, made-all, made-on, made-stopped}
use Rattle.mending.proofs.Wiping.{wipes-next, wipes-none, wipes-kept}
use Rattle.wipes.proofs.wipe.Goals as goal

-- the wipes of the cells from i on
abbrev left : Layout → List ℕ → ℕ → List Write
left l w i = wipes_from l w i (cell_count l - i)

left-next : (l : Layout) (w : List ℕ) (i : ℕ) → i < cell_count l → left l w i ≡ wipes_of l w i ++ left l w (i + 1)
left-next l w i h =
    let n : cell_count l - i ≡ suc (cell_count l - (i + 1)) = omega arith in rw (n, wipes-next, add-one)

-- those of cell i leave those of the cells behind it
module _ {A : Type 0} {words_in : List A → List ℕ} {after : List Write → List A → List A} (laws : FormLaws words_in after) where
  wiped : {ps : List Write} {m : ℕ} {b : List A} {n : ℕ} {c : List A} (l : Layout) (i : ℕ) → first_node l ≤ i → i < cell_count l
      → Made after ps m b n (left l (words_in c) i) c
      → let own = wipes_of l (words_in c) i in let d = after (take (m - n) own) c in
      length own ≤ m - n → Made after ps m b (n + length own) (left l (words_in d) (i + 1)) d
  wiped {ps} {m} {b} {n} {c} l i low high r h =
      let w = words_in c in
      let own = wipes_of l w i in
      let d = after (take (m - n) own) c in
      let kept : left l (words_in d) (i + 1) ≡ left l w (i + 1) =
      rw (laws.words (take (m - n) own) c, add-one) (wipes-kept l w i low (m - n) (cell_count l - suc i)) in
      rw kept (made-on laws own (left l w (i + 1)) (rw (left-next l w i high) at r) h)

pub loop-c-init : goal.loop-c-init
loop-c-init g c =
    let e : cell_count c.args.l - first_node c.args.l ≡ c.args.l.nodes = omega arith in rw (c.requires.0.from, e) (made-none g.met.E.Form.laws)

pub wipe_node-requires : goal.wipe_node-requires
wipe_node-requires g c =
    let r = c.requires in (
      r.0,
      record { in_range = r.1.in_range; exact = made-length g.met.E.Form.laws c.loop-c.invariant ∙ r.1.exact },
      record { low = omega (arith, r.0.from); high = omega (arith, r.0.to) },
    )

pub returns-in_default : goal.returns-in_default
returns-in_default g c =
    let l = c.args.l in
    let w = g.E.Form.words_in c.loop-c.lent in
    let own = wipes_of l w c.loop-c.c in
    let h = undone-short own (c.args.allowance - c.loop-c.made) (λ n q. c.in_default.not-Done n (c.wipe_node.ensures.outcome ∙ q)) in
    let r = made-stopped g.met.E.Form.laws own (left l w (c.loop-c.c + 1)) (rw (left-next l w c.loop-c.c (omega (arith, c.requires.0.to))) at c.loop-c.invariant) h in
    record { outcome = r.0; lent = c.wipe_node.ensures.lent ∙ r.1 }

pub loop-c-preserved : goal.loop-c-preserved
loop-c-preserved g c =
    let f = g.E.Form in
    let d = done-whole (wipes_of c.args.l (f.words_in c.loop-c.lent) c.loop-c.c) (c.args.allowance - c.loop-c.made) _ (sym c.wipe_node.ensures.outcome ∙ c.in-Done.is) in
    rw (d.1, c.wipe_node.ensures.lent)
    (wiped g.met.E.Form.laws c.args.l c.loop-c.c (omega (arith, c.requires.0.from)) (omega (arith, c.requires.0.to)) c.loop-c.invariant d.0)

pub returns : goal.returns
returns g c =
    let l = c.args.l in
    let z : cell_count l - c.loop-c.c ≡ 0 = omega (arith, c.requires.0.to) in
    let r = made-all g.met.E.Form.laws (rw (z, wipes-none) at c.loop-c.invariant) in
    record { outcome = r.0; lent = r.1 }
