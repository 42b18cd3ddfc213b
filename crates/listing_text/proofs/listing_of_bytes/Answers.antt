-- `listing_of_bytes` refuses too many bytes and an odd number of bytes, and lists the words of all others.
use Rattle.std.proofs.Common.{◌≡◌, sym, ◌∙◌, rules, arith}
use Rattle.listing_text.specs.Listing.{refused_line, byte_listing}
use Rattle.listing_text.proofs.Listed.{refused-short, short-room, wrote-all, bytes-long, bytes-odd, bytes-even}
use Rattle.listing_text.proofs.listing_of_bytes.Goals.{then-bytes-gt-MAX_BYTES-via-then-bytes-gt-MAX_BYTES, then-bytes-gt-MAX_BYTES-via-else-bytes-gt-MAX_BYTES+then-bytes-ne0}
use Rattle.listing_text.proofs.listing_of_bytes.Goals as goal

pub refused_line-requires : goal.refused_line-requires
refused_line-requires c = short-room (refused-short 4 (omega arith))

pub returns-then-bytes-gt-MAX_BYTES : goal.returns-then-bytes-gt-MAX_BYTES
returns-then-bytes-gt-MAX_BYTES c =
    let b = c.args.bytes.now in
    let shut : byte_listing b ≡ refused_line 4 =
    elim c.then-bytes-gt-MAX_BYTES.branch [
      | then-bytes-gt-MAX_BYTES-via-then-bytes-gt-MAX_BYTES w ↦ bytes-long b (omega (arith, w.if-bytes-gt-MAX_BYTES.true))
      | then-bytes-gt-MAX_BYTES-via-else-bytes-gt-MAX_BYTES+then-bytes-ne0 w ↦ bytes-odd b (omega (arith, w.if-bytes-gt-MAX_BYTES.false)) (λ z. omega (arith, z, w.if-bytes-ne0.true))
    ] in
    let both = wrote-all shut (refused-short 4 (omega arith)) c.refused_line.ensures.wrote in
    let same = sym c.refused_line.ensures.same_buffer in
    record { answer = both.0; bytes = search (rules, same) ∙ both.1.0; short = both.1.1 }

pub returns : goal.returns
returns c =
    let e = bytes-even c.args.bytes.now (omega (arith, c.if-bytes-gt-MAX_BYTES.false)) (omega (arith, c.if-bytes-ne0.false)) in
    record {
      answer = rw e (rw c.decode.ensures at c.listing.ensures.answer);
      bytes = rw e (rw c.decode.ensures at c.listing.ensures.bytes);
      short = c.listing.ensures.short;
    }
