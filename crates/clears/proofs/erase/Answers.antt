-- `clears::erase` meets its contract. The loop's invariant: what is still to be erased makes the column all that is asked.
use Prim.Native.Nat.{◌+◌, ◌-◌}
use mathlib.Core.Path.{◌≡◌, ap, sym, ◌∙◌}
use mathlib.Core.Bool.{cond}
use native.Mathlib.Omega.{arith}
use Rattle.layout.specs.declared.Cell.{Cell}
use Rattle.layout.proofs.Laws.{is-node, answered-no, answered-yes}
use Rattle.lists.specs.Decide.{view_of}
use Rattle.mending.proofs.Erasing.{node-entry, erased-on, erased-out, erased-none}
use Rattle.clears.proofs.erase.Goals as goal

pub returns-then-not-is_node : goal.returns-then-not-is_node
returns-then-not-is_node g c =
    let s = c.args.s.now in
    let v = view_of s.layout (g.E.Form.words_in s.lent.now) in
    sym (erased-out s.layout v c.args.back (c.args.n - c.loop.counter) c.loop.y c.loop.idents (answered-no c.is_node.ensures c.if-not-is_node.true))
    ∙ c.loop.invariant

pub offset_bounds-idents-y : goal.offset_bounds-idents-y
offset_bounds-idents-y g c = let s = c.args.s.now in omega (arith, node-entry s.layout s.laid.in_range c.loop.y (answered-yes c.is_node.ensures c.if-not-is_node.false))

pub bounds-idents-y : goal.bounds-idents-y
bounds-idents-y g c = let s = c.args.s.now in node-entry s.layout s.laid.in_range c.loop.y (answered-yes c.is_node.ensures c.if-not-is_node.false)

pub node-requires : goal.node-requires
node-requires g c = is-node c.args.s.now.layout c.loop.y (answered-yes c.is_node.ensures c.if-not-is_node.false)

pub loop-preserved : goal.loop-preserved
loop-preserved g c =
    let s = c.args.s.now in
    let v = view_of s.layout (g.E.Form.words_in s.lent.now) in
    let a = c.args.back in
    let e = c.onward-y.ensures ∙ ap (λ (x : Cell). cond a x.back x.forward) c.node.ensures in
    let n : c.args.n - (c.loop.counter + 1) ≡ c.args.n - c.loop.counter - 1 = omega arith in
    rw (n, e)
    (sym (erased-on s.layout v a (c.args.n - c.loop.counter) c.loop.y c.loop.idents (omega arith) (answered-yes c.is_node.ensures c.if-not-is_node.false))
    ∙ c.loop.invariant)

pub returns : goal.returns
returns g c =
    let s = c.args.s.now in
    let v = view_of s.layout (g.E.Form.words_in s.lent.now) in
    sym (erased-none s.layout v c.args.back (c.args.n - c.loop.counter) c.loop.y c.loop.idents (omega arith)) ∙ c.loop.invariant
