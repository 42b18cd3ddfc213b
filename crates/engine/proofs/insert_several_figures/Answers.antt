-- What the look at the list and the ends of the cells give, of the records' words.
use Rattle.std.proofs.Common.{◌≡◌, ◌*◌, ◌/◌, ◌≤◌, length, Ok, Err, ap, sym, subst, ◌∙◌}
use Rattle.layout.specs.declared.Refusal.TheVariants.{Size}
use Rattle.lists.specs.Decide.{view_of}
use Rattle.requests.specs.Requests.{ends_at, EndsUnworn}
use Rattle.requests.proofs.First.{asked-yes, first-refused, first-at}
use Rattle.edits.specs.Edits.{insert_stores}
use Rattle.calls.specs.Calls.{several_figures}
use Rattle.calls.proofs.Beforehand.{figures-refused, list-laid, figures-shut, records-few, figures-told}
use Rattle.sites.proofs.Exits.{handed}
use Rattle.engine.specs.Lent.{record_in}
use Rattle.engine.proofs.insert_several_figures.Goals as goal

pub returns-in_err-look-clause-figures : goal.returns-in_err-look-clause-figures
returns-in_err-look-clause-figures g c =
    let f = g.E.Form in
    let a = c.args in
    let b = a.lent.now in
    let records = record_in (f.whole a.records.now) (f.words_in a.records.now) in
    handed c.from_residual.ensures.1
    ∙ sym
    (first-refused Err (f.whole b) (λ m h. sym (figures-refused (f.words_in b) a.list a.position a.start records h).0)
    (sym c.look.ensures.outcome ∙ c.in_err-look.was))

pub of-s-requires : goal.of-s-requires
of-s-requires g c =
    let f = g.E.Form in
    let a = c.args in
    let b = a.lent.now in
    let records = record_in (f.whole a.records.now) (f.words_in a.records.now) in
    let x = first-at (f.whole b) (sym c.look.ensures.outcome ∙ c.in_ok-look.was) in
    list-laid (f.words_in b) a.list a.position a.start records x.1

pub returns-in-Err-clause-figures : goal.returns-in-Err-clause-figures
returns-in-Err-clause-figures g c =
    let f = g.E.Form in
    let a = c.args in
    let b = a.lent.now in
    let w = f.words_in b in
    let records = record_in (f.whole a.records.now) (f.words_in a.records.now) in
    let l = c.in_ok-look.look.layout in
    let t = c.in_ok-look.look.site in
    let x = first-at (f.whole b) (sym c.look.ensures.outcome ∙ c.in_ok-look.was) in
    let ends : c.ends.result ≡ ends_at l (view_of l w).ident t.count a.position a.start (length records) =
    rw (c.of-s.ensures.0, c.of-s.ensures.1, c.record_size-size.ensures) at c.ends.ensures.cells in
    let told = (figures-shut w a.list a.position a.start records x.1 (sym ends ∙ c.in-Err.is)).0 in
    told ∙ sym (asked-yes (f.whole b) (Err Size) (several_figures w a.list a.position a.start records) x.0)

pub several_stores-requires : goal.several_stores-requires
several_stores-requires g c =
    let f = g.E.Form in
    let a = c.args in
    let b = a.lent.now in
    let w = f.words_in b in
    let records = record_in (f.whole a.records.now) (f.words_in a.records.now) in
    let l = c.in_ok-look.look.layout in
    let t = c.in_ok-look.look.site in
    let x = first-at (f.whole b) (sym c.look.ensures.outcome ∙ c.in_ok-look.was) in
    let ends : c.ends.result ≡ ends_at l (view_of l w).ident t.count a.position a.start (length records) =
    rw (c.of-s.ensures.0, c.of-s.ensures.1, c.record_size-size.ensures) at c.ends.ensures.cells in
    let few = records-few w a.list a.position a.start records x.1 (sym ends ∙ c.in-Ok.is) in
    ((list-laid w a.list a.position a.start records x.1).in_range, subst (λ n. n / l.width ≤ l.nodes) (sym c.record_size-size.ensures) few)

pub returns-clause-figures : goal.returns-clause-figures
returns-clause-figures g c =
    let f = g.E.Form in
    let a = c.args in
    let b = a.lent.now in
    let w = f.words_in b in
    let records = record_in (f.whole a.records.now) (f.words_in a.records.now) in
    let l = c.in_ok-look.look.layout in
    let t = c.in_ok-look.look.site in
    let x = first-at (f.whole b) (sym c.look.ensures.outcome ∙ c.in_ok-look.was) in
    let ends : c.ends.result ≡ ends_at l (view_of l w).ident t.count a.position a.start (length records) =
    rw (c.of-s.ensures.0, c.of-s.ensures.1, c.record_size-size.ensures) at c.ends.ensures.cells in
    let unworn : EndsUnworn (view_of l w).ident (Ok c.in-Ok.ends) = rw (c.of-s.ensures.0, c.of-s.ensures.1, c.in-Ok.is) at c.ends.ensures.worn in
    let told = (figures-told w a.list a.position a.start records x.1 (sym ends ∙ c.in-Ok.is) unworn).0 in
    let n : c.several_stores.result ≡ length records / l.width * insert_stores l =
    c.several_stores.ensures ∙ ap (λ n. n / l.width * insert_stores l) c.record_size-size.ensures in
    ap (λ n. Ok (record { first = c.in-Ok.ends.first; last = c.in-Ok.ends.last; stores = n })) n
    ∙ told
    ∙ sym (asked-yes (f.whole b) (Err Size) (several_figures w a.list a.position a.start records) x.0)

pub returns-clause-worn : goal.returns-clause-worn
returns-clause-worn g c =
    let f = g.E.Form in
    let a = c.args in
    let b = a.lent.now in
    let w = f.words_in b in
    let records = record_in (f.whole a.records.now) (f.words_in a.records.now) in
    let l = c.in_ok-look.look.layout in
    let t = c.in_ok-look.look.site in
    let x = first-at (f.whole b) (sym c.look.ensures.outcome ∙ c.in_ok-look.was) in
    let ends : c.ends.result ≡ ends_at l (view_of l w).ident t.count a.position a.start (length records) =
    rw (c.of-s.ensures.0, c.of-s.ensures.1, c.record_size-size.ensures) at c.ends.ensures.cells in
    let unworn : EndsUnworn (view_of l w).ident (Ok c.in-Ok.ends) = rw (c.of-s.ensures.0, c.of-s.ensures.1, c.in-Ok.is) at c.ends.ensures.worn in
    (figures-told w a.list a.position a.start records x.1 (sym ends ∙ c.in-Ok.is) unworn).1.1.1
