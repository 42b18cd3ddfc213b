-- A refusal is handed on, and an opened store's words are asked for the site.
use Rattle.std.proofs.Common.{◌≡◌, Err, ◌∙◌, sym}
use Rattle.layout.specs.declared.Refusal.TheVariants.{Size}
use Rattle.requests.specs.Requests.{look_of, site_of}
use Rattle.requests.proofs.Laws.{opened-laid, look-shut, look-refused, look_at}
use Rattle.requests.proofs.First.{asked-yes, first-shut, first-open}
use Rattle.sites.proofs.Exits.{handed}
use Rattle.sites.proofs.look.Goals as goal

pub returns-in_err-layout-clause-outcome : goal.returns-in_err-layout-clause-outcome
returns-in_err-layout-clause-outcome g c =
    let b = c.args.lent.now in
    let w = g.E.Form.words_in b in
    handed c.from_residual.ensures.1
    ∙ sym (first-shut Err (g.E.Form.whole b) (λ m h. sym (look-shut w c.args.q h)) (sym c.open.ensures ∙ c.in_err-layout.was))

pub of-requires : goal.of-requires
of-requires g c =
    let b = c.args.lent.now in
    opened-laid (g.E.Form.words_in b) c.in_ok-layout.layout (first-open (g.E.Form.whole b) (sym c.open.ensures ∙ c.in_ok-layout.was)).1

pub returns-in_err-site-clause-outcome : goal.returns-in_err-site-clause-outcome
returns-in_err-site-clause-outcome g c =
    let b = c.args.lent.now in
    let w = g.E.Form.words_in b in
    let o = first-open (g.E.Form.whole b) (sym c.open.ensures ∙ c.in_ok-layout.was) in
    let s : c.site_of.result ≡ site_of c.in_ok-layout.layout w c.args.q = rw (c.of.ensures.0, c.of.ensures.1) at c.site_of.ensures.site in
    handed c.from_residual-in_err-site.ensures.1
    ∙ look-refused w c.args.q o.1 (sym s ∙ c.in_err-site.was)
    ∙ sym (asked-yes (g.E.Form.whole b) (Err Size) (look_of w c.args.q) o.0)

pub returns-clause-outcome : goal.returns-clause-outcome
returns-clause-outcome g c =
    let b = c.args.lent.now in
    let w = g.E.Form.words_in b in
    let o = first-open (g.E.Form.whole b) (sym c.open.ensures ∙ c.in_ok-layout.was) in
    let s : c.site_of.result ≡ site_of c.in_ok-layout.layout w c.args.q = rw (c.of.ensures.0, c.of.ensures.1) at c.site_of.ensures.site in
    look_at w c.args.q o.1 (sym s ∙ c.in_ok-site.was)
    ∙ sym (asked-yes (g.E.Form.whole b) (Err Size) (look_of w c.args.q) o.0)
