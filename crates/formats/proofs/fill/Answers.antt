-- What is left to store, in the elements as they are, gives what format's stores give from the start.
use Rattle.std.proofs.Common.{◌≡◌, ℕ, ◌+◌, List, [], ◌∷◌, ◌++◌, length, arith, refl, ap, ap₂, ◌∙◌, sym}
use Rattle.layout.specs.declared.Layout.{Layout}
use Rattle.layout.specs.Words.{Laid, head_words, header_at, nodes_at, head, empty_header}
use Rattle.layout.proofs.Laws.{header-fits}
use Rattle.stores.specs.declared.Write.{Write}
use Rattle.stores.specs.Stores.{write, in_row}
use Rattle.stores.proofs.Laws.{length-row}
use Rattle.stores.proofs.Formatting.{headers-fit, left, left-head, left-header, left-node, left-none}
use Rattle.encoding.proofs.Runs.{length-after, after-all, after-made}
use Rattle.formats.proofs.fill.Goals as goal

-- a store of this layout stays one
stays : {l : Layout} {w v : List ℕ} → Laid l w → length v ≡ length w → Laid l v
stays h e = record { in_range = h.in_range; exact = e ∙ h.exact }

pub put_row-requires-clause-inside : goal.put_row-requires-clause-inside
put_row-requires-clause-inside g c = omega (arith, ap length c.head.ensures, c.requires.exact, headers-fit c.args.l)

pub loop-k-init : goal.loop-k-init
loop-k-init g c =
    (stays c.requires (ap (λ x. length (g.E.Form.words_in x)) c.put_row.ensures.lent ∙ length-after g.met.E.Form.laws _ c.args.lent.now), omega arith, refl)

pub put_row-requires-in-loop-k-clause-inside : goal.put_row-requires-in-loop-k-clause-inside
put_row-requires-in-loop-k-clause-inside g c =
    omega (
      arith,
      ap length c.empty_header.ensures,
      c.header.ensures,
      header-fits c.args.l c.loop-k.k c.loop-k-test.true,
      c.loop-k.invariant.0.exact,
    )

pub loop-k-preserved : goal.loop-k-preserved
loop-k-preserved g c =
    let f = g.E.Form in
    let laws = g.met.E.Form.laws in
    let l = c.args.l in
    let t = c.loop-k in
    let p = c.put_row-in-loop-k in
    let row : List Write = in_row c.header.result c.empty_header.result in
    let all = after-all laws row 65535 t.lent (omega (arith, length-row c.header.result c.empty_header.result, ap length c.empty_header.ensures)) in
    let same : row ≡ in_row (header_at l t.k) (empty_header t.k) = ap₂ in_row c.header.ensures c.empty_header.ensures in (
      stays t.invariant.0 (ap (λ x. length (f.words_in x)) p.ensures.lent ∙ length-after laws _ t.lent),
      omega arith,
      after-made laws row (left l (header_at l (t.k + 1))) t.lent
          (left-header l t.k c.loop-k-test.true ∙ ap (λ qs. qs ++ left l (header_at l (t.k + 1))) (sym same))
          (p.ensures.lent ∙ all)
          ∙ t.invariant.2,
    )

pub loop-i-init : goal.loop-i-init
loop-i-init g c =
    let l = c.args.l in (
      c.loop-k.invariant.0,
      omega (arith, c.nodes_at-i.ensures),
      omega (arith, c.nodes_at-i.ensures, headers-fit l),
      c.size-i-end.ensures,
      ap (λ n. g.E.Form.after (left l n) c.loop-k.lent) c.nodes_at-i.ensures,
    )

pub put-requires : goal.put-requires
put-requires g c = omega (arith, c.loop-i.invariant.0.exact, c.loop-i.invariant.3)

pub loop-i-preserved : goal.loop-i-preserved
loop-i-preserved g c =
    let laws = g.met.E.Form.laws in
    let l = c.args.l in
    let t = c.loop-i in
    let i = t.invariant in (
      stays i.0 (ap (λ x. length (g.E.Form.words_in x)) c.put.ensures ∙ length-after laws _ t.lent),
      omega (arith, i.1),
      omega (arith, i.3),
      i.3,
      after-made laws (write t.i 0 ∷ []) _ t.lent (left-node l t.i i.1 (omega (arith, i.3))) c.put.ensures ∙ i.4,
    )

pub returns : goal.returns
returns g c =
    let f = g.E.Form in
    let laws = g.met.E.Form.laws in
    let l = c.args.l in
    let b = c.args.lent.now in
    let h = c.loop-k in
    let t = c.loop-i in
    let row : List Write = in_row 0 c.head.result in
    let all = after-all laws row 65535 b (omega (arith, length-row 0 c.head.result, ap length c.head.ensures)) in
    let same : row ≡ in_row 0 (head l) = ap (in_row 0) c.head.ensures in
    let e : nodes_at l ≡ header_at l h.k = omega arith in
    sym (laws.none t.lent)
    ∙ ap (λ ps. f.after ps t.lent) (sym (left-none l t.i (omega (arith, t.invariant.3))))
    ∙ t.invariant.4
    ∙ ap (λ n. f.after (left l n) h.lent) e
    ∙ h.invariant.2
    ∙ after-made laws row (left l head_words) b (left-head l ∙ ap (λ qs. qs ++ left l head_words) (sym same)) (c.put_row.ensures.lent ∙ all)
