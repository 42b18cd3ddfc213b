-- `listing_at` writes the refusal of questions 1 to 4, or the listing by the layout.
use Rattle.std.proofs.Common.{sym, ◌∙◌}
use Rattle.requests.proofs.Laws.{opened-laid}
use Rattle.listing_text.proofs.Listed.{listing-shut, listing-open}
use Rattle.listing_text.proofs.listing_at.Goals as goal

pub refused_line-requires : goal.refused_line-requires
refused_line-requires c = rw (listing-shut c.args.words.now (sym c.open.ensures ∙ c.in-Err.is)) at c.requires

pub of-requires : goal.of-requires
of-requires c = opened-laid c.args.words.now c.in-Ok.l (sym c.open.ensures ∙ c.in-Ok.is)

pub listing_in-requires : goal.listing_in-requires
listing_in-requires c =
    let e = sym c.open.ensures ∙ c.in-Ok.is in
    rw (c.of.ensures.0, c.of.ensures.1) (rw (listing-open c.args.words.now e) at c.requires)

pub returns-in-Err : goal.returns-in-Err
returns-in-Err c = rw (listing-shut c.args.words.now (sym c.open.ensures ∙ c.in-Err.is)) c.refused_line.ensures

pub returns-in-Ok : goal.returns-in-Ok
returns-in-Ok c =
    rw (listing-open c.args.words.now (sym c.open.ensures ∙ c.in-Ok.is)) (rw (c.of.ensures.0, c.of.ensures.1) at c.listing_in.ensures)
