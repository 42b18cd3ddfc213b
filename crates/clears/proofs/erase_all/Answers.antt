-- `clears::erase_all` meets its contract. The loop's invariant: what is still to be erased makes the column all that is asked.
use Prim.Native.Nat.{ℕ, ◌+◌, ◌-◌, ◌*◌}
use mathlib.Core.Path.{◌≡◌, ap, sym, ◌∙◌}
use mathlib.Core.List.{List}
use mathlib.Core.Bool.{Bool, false, cond}
use native.Mathlib.Omega.{arith}
use lib.ListN.{get_or}
use Rattle.layout.specs.declared.Cell.{Cell}
use Rattle.layout.specs.declared.Layout.{Layout}
use Rattle.lists.specs.Decide.{View, view_of}
use Rattle.spans.specs.Spans.{cell_in}
use Rattle.fitting.specs.Fitting.{members_by}
use Rattle.mending.specs.Mending.{erased, erased_along, erased_from}
use Rattle.mending.proofs.Erasing.{erased-members}
use Rattle.mending.proofs.AllLists.{erased-more, erased-all}
use Rattle.clears.proofs.erase_all.Goals as goal

pub loop-i-preserved : goal.loop-i-preserved
loop-i-preserved g c =
    let l = c.args.s.now.layout in
    let v = view_of l (g.E.Form.words_in c.args.s.now.lent.now) in
    let ways = λ (j : ℕ). get_or c.args.back.now j false in
    let k = 2 * c.loop-i.i in
    let e : 2 * (c.loop-i.i + 1) ≡ k + 1 + 1 = omega arith in
    rw (e, rw (c.from.ensures, c.from-in-loop-i.ensures) at c.erase_two.ensures)
    (sym (erased-more l v ways (k + 1) (erased (members_by l v (ways k) k) c.loop-i.idents) (omega arith))
    ∙ sym (erased-more l v ways k c.loop-i.idents (omega arith))
    ∙ c.loop-i.invariant)

-- the last list
last : (l : Layout) (v : View) (ways : ℕ → Bool) (k : ℕ) {x : Cell} {y : ℕ} (idents : List ℕ)
    → k + 1 ≡ l.lists → x ≡ cell_in v k → y ≡ cond (ways k) x.back x.forward
    → erased_along l v (ways k) l.nodes y idents ≡ erased_from l v ways k (l.lists - k) idents
last l v ways k idents e p q =
    rw (q, p)
    (erased-members l v (ways k) k idents
    ∙ sym (erased-all l v ways (k + 1) (erased (members_by l v (ways k) k) idents) (omega arith))
    ∙ sym (erased-more l v ways k idents (omega arith)))

pub returns-then-lists-eq1 : goal.returns-then-lists-eq1
returns-then-lists-eq1 g c =
    let l = c.args.s.now.layout in
    let v = view_of l (g.E.Form.words_in c.args.s.now.lent.now) in
    let ways = λ (j : ℕ). get_or c.args.back.now j false in
    let k = c.from-then-lists-eq1 in
    let e : k.result ≡ 2 * c.loop-i.i = omega arith in
    c.erase.ensures
    ∙ last l v ways k.result c.loop-i.idents (omega arith) (c.header.ensures ∙ ap (cell_in v) (sym k.ensures)) c.onward.ensures
    ∙ ap (λ (j : ℕ). erased_from l v ways j (l.lists - j) c.loop-i.idents) e
    ∙ c.loop-i.invariant

pub returns-else-lists-eq1 : goal.returns-else-lists-eq1
returns-else-lists-eq1 g c =
    let l = c.args.s.now.layout in
    let v = view_of l (g.E.Form.words_in c.args.s.now.lent.now) in
    sym (erased-all l v (λ (j : ℕ). get_or c.args.back.now j false) (2 * c.loop-i.i) c.loop-i.idents (omega arith)) ∙ c.loop-i.invariant
