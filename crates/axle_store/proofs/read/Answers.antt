-- `read` hands back the part that the look found: the record lies in the store.
use Rattle.std.proofs.Common.{◌≡◌, ℕ, ◌+◌, ◌*◌, take, drop, arith, refl, ap, sym, ◌∙◌}
use native.Mathlib.Nat.{add-sub_cancel_left}
use Rattle.layout.specs.Words.{record_at}
use Rattle.calls.proofs.Cases.{read-refused, read_at}
use Rattle.calls.proofs.Sites.{member-placed, record-fits}
use Rattle.axle_store.proofs.read.Goals as goal

pub node-a-requires : goal.node-a-requires
node-a-requires c =
    let a = c.args in
    (member-placed a.words.now a.list a.position c.in-Ok.look.layout c.in-Ok.look.site (sym c.look.ensures.outcome ∙ c.in-Ok.is)).0.cell.low

pub overflow_add-a : goal.overflow_add-a
overflow_add-a c =
    let a = c.args in
    let p = member-placed a.words.now a.list a.position c.in-Ok.look.layout c.in-Ok.look.site (sym c.look.ensures.outcome ∙ c.in-Ok.is) in
    omega (arith, record-fits c.in-Ok.look.layout a.list c.in-Ok.look.site p.0, p.1, c.node-a.ensures)

pub overflow_add-e : goal.overflow_add-e
overflow_add-e c =
    let a = c.args in
    let p = member-placed a.words.now a.list a.position c.in-Ok.look.layout c.in-Ok.look.site (sym c.look.ensures.outcome ∙ c.in-Ok.is) in
    omega (arith, record-fits c.in-Ok.look.layout a.list c.in-Ok.look.site p.0, p.1, c.node-a.ensures, c.from.ensures)

pub offset_bounds-words-a : goal.offset_bounds-words-a
offset_bounds-words-a c =
    let a = c.args in
    let p = member-placed a.words.now a.list a.position c.in-Ok.look.layout c.in-Ok.look.site (sym c.look.ensures.outcome ∙ c.in-Ok.is) in
    omega (arith, record-fits c.in-Ok.look.layout a.list c.in-Ok.look.site p.0, p.1, c.node-a.ensures)

pub slice_bounds-result-end-2 : goal.slice_bounds-result-end-2
slice_bounds-result-end-2 c =
    let a = c.args in
    let p = member-placed a.words.now a.list a.position c.in-Ok.look.layout c.in-Ok.look.site (sym c.look.ensures.outcome ∙ c.in-Ok.is) in
    omega (arith, record-fits c.in-Ok.look.layout a.list c.in-Ok.look.site p.0, p.1, c.node-a.ensures, c.from.ensures)

pub returns-in_default-clause-contents : goal.returns-in_default-clause-contents
returns-in_default-clause-contents c =
    (read-refused c.args.words.now c.args.list c.args.position (sym c.look.ensures.outcome ∙ c.in_default.is)).0

pub returns-in_default-clause-place : goal.returns-in_default-clause-place
returns-in_default-clause-place c =
    let r = read-refused c.args.words.now c.args.list c.args.position (sym c.look.ensures.outcome ∙ c.in_default.is) in
    (refl, ap (λ (n : ℕ). n * 2 + c.args.words.ref_ptr.1) r.1)

pub returns-clause-contents : goal.returns-clause-contents
returns-clause-contents c =
    let w = c.args.words in
    let l = c.in-Ok.look.layout in
    let r = read_at w.now c.args.list c.args.position (sym c.look.ensures.outcome ∙ c.in-Ok.is) in
    let e : c.node-a.result + 3 ≡ record_at l c.in-Ok.look.site.cell = ap (λ (n : ℕ). n + 3) c.node-a.ensures in
    ap (λ (n : ℕ). take n (drop (c.node-a.result + 3) w.now)) (add-sub_cancel_left (c.node-a.result + 3) c.from.result ∙ c.from.ensures)
    ∙ ap (λ (n : ℕ). take l.width (drop n w.now)) e
    ∙ r.0

pub returns-clause-place : goal.returns-clause-place
returns-clause-place c =
    let w = c.args.words in
    let l = c.in-Ok.look.layout in
    let r = read_at w.now c.args.list c.args.position (sym c.look.ensures.outcome ∙ c.in-Ok.is) in
    let e : c.node-a.result + 3 ≡ record_at l c.in-Ok.look.site.cell = ap (λ (n : ℕ). n + 3) c.node-a.ensures in
    (refl, ap (λ (n : ℕ). n * 2 + w.ref_ptr.1) (e ∙ r.1))
