-- `clears::erase_two` meets its contract. The loop's invariant: what is still to be erased makes the column all that is asked.
use Prim.Native.Nat.{ℕ}
use mathlib.Core.Path.{◌≡◌, ap, sym, ◌∙◌}
use mathlib.Core.Bool.{Bool, cond}
use native.Mathlib.Omega.{arith}
use Rattle.layout.specs.declared.Cell.{Cell}
use Rattle.layout.proofs.Laws.{is-node, answered-yes}
use Rattle.lists.specs.Decide.{View, view_of}
use Rattle.spans.specs.Spans.{cell_in}
use Rattle.mending.specs.Mending.{link_by}
use Rattle.mending.proofs.Erasing.{node-entry, erased-members, erased-both}
use Rattle.clears.proofs.erase_two.Goals as goal

-- the link of a cell, as it is read
read : (v : View) (back : Bool) (c : ℕ) {x : Cell} {r : ℕ} → x ≡ cell_in v c → r ≡ cond back x.back x.forward → r ≡ link_by v back c
read v back c p q = q ∙ ap (λ (x : Cell). cond back x.back x.forward) p

pub loop-more-init : goal.loop-more-init
loop-more-init g c =
    let a = c.args in
    let l = a.s.now.layout in
    let v = view_of l (g.E.Form.words_in a.s.now.lent.now) in
    rw (
      read v a.back a.k c.header.ensures c.onward-y.ensures,
      read v a.other a.j c.header-2.ensures c.onward-z.ensures,
      erased-members l v a.back a.k a.idents.now,
      erased-members l v a.other a.j,
    )

-- in the loop both cells are nodes, and have an entry
pub offset_bounds-idents-y : goal.offset_bounds-idents-y
offset_bounds-idents-y g c = let s = c.args.s.now in omega (arith, node-entry s.layout s.laid.in_range c.loop-more.y (answered-yes c.is_node.ensures c.if-is_node.true))

pub bounds-idents-y : goal.bounds-idents-y
bounds-idents-y g c = let s = c.args.s.now in node-entry s.layout s.laid.in_range c.loop-more.y (answered-yes c.is_node.ensures c.if-is_node.true)

pub offset_bounds-idents-z : goal.offset_bounds-idents-z
offset_bounds-idents-z g c = let s = c.args.s.now in omega (arith, node-entry s.layout s.laid.in_range c.loop-more.z (answered-yes c.is_node-then-is_node.ensures c.if-is_node-2.true))

pub bounds-idents-z : goal.bounds-idents-z
bounds-idents-z g c = let s = c.args.s.now in node-entry s.layout s.laid.in_range c.loop-more.z (answered-yes c.is_node-then-is_node.ensures c.if-is_node-2.true)

pub node-requires : goal.node-requires
node-requires g c = is-node c.args.s.now.layout c.loop-more.y (answered-yes c.is_node.ensures c.if-is_node.true)

pub node-requires-in-loop-more : goal.node-requires-in-loop-more
node-requires-in-loop-more g c = is-node c.args.s.now.layout c.loop-more.z (answered-yes c.is_node-then-is_node.ensures c.if-is_node-2.true)

pub loop-more-preserved : goal.loop-more-preserved
loop-more-preserved g c =
    let a = c.args in
    let l = a.s.now.layout in
    let v = view_of l (g.E.Form.words_in a.s.now.lent.now) in
    let t = c.loop-more in
    rw (
      read v a.back t.y c.node.ensures c.onward-y-in-loop-more.ensures,
      read v a.other t.z c.node-in-loop-more.ensures c.onward-z-in-loop-more.ensures,
    )
    (sym
    (erased-both l v a.back a.other t.more t.y t.z t.idents c.loop-more-test.true
    (answered-yes c.is_node.ensures c.if-is_node.true) (answered-yes c.is_node-then-is_node.ensures c.if-is_node-2.true))
    ∙ t.invariant)
