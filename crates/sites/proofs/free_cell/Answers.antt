-- The node that is searched is at place `before` of the free ones among the nodes that are left, from c on.
use Rattle.std.proofs.Common.{◌≡◌, ℕ, ◌+◌, ◌-◌, true, arith, ap, ◌∙◌, sym}
use Rattle.std.specs.Prelude.{Option}
use Rattle.layout.specs.declared.Cell.{Cell}
use Rattle.layout.specs.Words.{is_free}
use Rattle.lists.specs.Decide.{view_of}
use Rattle.requests.specs.Requests.{next_cell, around, free_cells, nth}
use Rattle.requests.proofs.Laws.{next-node, free-here, free-passed, free-later, free-none}
use Rattle.sites.proofs.free_cell.Goals.{else-is_free, then-is_free+else-before-eq0}
use Rattle.sites.proofs.free_cell.Goals as goal

pub returns-then-before-eq0-clause-found : goal.returns-then-before-eq0-clause-found
returns-then-before-eq0-clause-found g c =
    let l = c.args.s.now.layout in
    let ident : ℕ → ℕ = (view_of l (g.E.Form.words_in c.args.s.now.lent.now)).ident in
    let t = c.loop in
    let free : is_free (ident t.c) ≡ true =
    ap (λ (x : Cell). is_free x.ident) (sym (rw c.from.ensures at c.node.ensures)) ∙ sym c.is_free.ensures ∙ c.if-is_free.true in
    free-here l ident t.c (l.nodes - t.counter) t.before (omega arith) free c.if-before-eq0.true ∙ sym t.invariant.2

pub loop-preserved : goal.loop-preserved
loop-preserved g c =
    let l = c.args.s.now.layout in
    let ident : ℕ → ℕ = (view_of l (g.E.Form.words_in c.args.s.now.lent.now)).ident in
    let t = c.loop in
    let n = l.nodes - t.counter in
    let less : n - 1 ≡ l.nodes - (t.counter + 1) = omega arith in
    let test : is_free (ident t.c) ≡ c.is_free.result = ap (λ (x : Cell). is_free x.ident) (sym (rw c.from.ensures at c.node.ensures)) ∙ sym c.is_free.ensures in
    let behind : ℕ → ℕ → Option ℕ = λ m j. nth (free_cells ident (around l (next_cell l t.c) m)) j in
    rw c.next_cell-c.ensures (
      next-node l t.c c.args.s.now.laid.in_range t.invariant.0,
      omega arith,
      t.invariant.2
          ∙ elim c.if-is_free.branch [ then-is_free+else-before-eq0 w ↦ free-passed l ident t.c n t.before (omega arith) (test ∙ w.if-is_free.true) w.if-before-eq0.false ∙ ap (behind (n - 1)) (sym w.before-is) | else-is_free w ↦ free-later l ident t.c n t.before (omega arith) (test ∙ w.if-is_free.false) ∙ ap (behind (n - 1)) (sym w.before-is) ]
          ∙ ap (λ m. behind m c.if-is_free.before) less,
    )

pub returns-clause-found : goal.returns-clause-found
returns-clause-found g c =
    let l = c.args.s.now.layout in
    let ident : ℕ → ℕ = (view_of l (g.E.Form.words_in c.args.s.now.lent.now)).ident in
    let t = c.loop in
    free-none l ident t.c (l.nodes - t.counter) t.before (omega arith) ∙ sym t.invariant.2
