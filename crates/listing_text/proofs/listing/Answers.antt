-- `listing`: no listing is too long, and the whole of it is the answer and the bytes.
use Rattle.std.proofs.Common.{refl, sym, ◌∙◌, rules, arith}
use Rattle.listing_text.proofs.Listed.{listing-short, short-room, wrote-all}
use Rattle.listing_text.proofs.listing.Goals as goal

pub listing_at-requires : goal.listing_at-requires
listing_at-requires c = short-room (listing-short c.args.words.now (λ i. omega (arith, c.type_inv.words i)))

pub returns : goal.returns
returns c =
    let short = listing-short c.args.words.now (λ i. omega (arith, c.type_inv.words i)) in
    let both = wrote-all refl short c.listing_at.ensures.wrote in
    let same = sym c.listing_at.ensures.same_buffer in
    record { answer = both.0; bytes = search (rules, same) ∙ both.1.0; short = both.1.1 }
