-- `Store::tally` meets its contract. The loop's invariant: a is the place of the node that is next, and t the tally of those before it.
use Prim.Native.Nat.{ℕ, ◌+◌, ◌≤◌, ◌<◌}
use mathlib.Core.Path.{◌≡◌, ◌∙◌}
use mathlib.Core.List.{List}
use native.Mathlib.Omega.{arith}
use lib.ListN.{length, get_or}
use Rattle.layout.specs.declared.Layout.{Layout}
use Rattle.layout.specs.Words.{Laid, link_words, tail_words, first_node, cell_at, record_at}
use Rattle.lists.specs.Decide.{view_of, blank_from}
use Rattle.layout.proofs.Places.{first-place, next_place, tail-words, words-few}
use Rattle.spans.specs.Spans.{tallied}
use Rattle.spans.proofs.Counts.{tally-none, tally-more, tally-few}
use Rattle.walks.proofs.Store.tally.Goals as goal

pub loop-init : goal.loop-init
loop-init g c =
    let s = c.args.self.now in (
      s.gridded.first ∙ first-place s.layout,
      c.none-t.ensures ∙ tally-none (view_of s.layout (g.E.Form.words_in s.lent.now)) (first_node s.layout),
    )

-- the node that is looked at: where its record begins, and that it ends within the store
tail : {l : Layout} {w : List ℕ} → Laid l w → (i a : ℕ) → i < l.nodes → a ≡ cell_at l (first_node l + i)
    → (a + link_words ≡ record_at l (first_node l + i)) × (record_at l (first_node l + i) + tail_words l ≤ length w)
tail {l} {w} h i a m e =
    let t = tail-words h (first_node l + i) (record { low = omega arith; high = omega arith }) in (omega (arith, t.0), t.1)

pub with_node-t-requires : goal.with_node-t-requires
with_node-t-requires g c =
    let s = c.args.self.now in
    let r = s.laid.in_range in
    let t = tail s.laid c.loop.counter c.loop.a c.loop-test.true c.loop.invariant.0 in (
      omega (arith, c.tail-tail.ensures, r.tail),
      omega (arith, c.tail-tail.ensures, t.0, t.1),
      rw c.loop.invariant.1 (tally-few (view_of s.layout (g.E.Form.words_in s.lent.now)) (first_node s.layout) c.loop.counter (omega (arith, r.nodes))),
    )

pub overflow_add-a : goal.overflow_add-a
overflow_add-a g c =
    let s = c.args.self.now in
    let t = tail s.laid c.loop.counter c.loop.a c.loop-test.true c.loop.invariant.0 in
    omega (arith, t.0, t.1, words-few s.laid, s.gridded.step)

pub loop-preserved : goal.loop-preserved
loop-preserved g c =
    let s = c.args.self.now in
    let w = g.E.Form.words_in s.lent.now in
    let i = c.loop.counter in
    let t = tail s.laid i c.loop.a c.loop-test.true c.loop.invariant.0 in (
      omega (arith, s.gridded.step, c.loop.invariant.0, next_place s.layout i),
      c.with_node-t.ensures
          ∙ (λ j. tallied (c.loop.invariant.1 j) (get_or w (c.loop.invariant.0 j) 0) (blank_from w (t.0 j) (c.tail-tail.ensures j)))
          ∙ tally-more (view_of s.layout w) (first_node s.layout) i,
    )
