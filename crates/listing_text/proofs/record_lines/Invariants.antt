-- `record_lines` writes record by record: c is the cell in front of position p, and the records from p on are still to be written.
use Rattle.std.proofs.Common.{◌≡◌, ◌∷◌, get_or, drop}
use Rattle.lists.specs.Decide.{sequence_of}
use Rattle.writing.proofs.Writing.{Writing}
use Rattle.listing_text.specs.Listing.{record_lines}
use Rattle.listing_text.proofs.record_lines.Given as goal

abbrev pub invariant-loop-p : goal.invariant-loop-p
invariant-loop-p l =
    (l.c ≡ get_or (l.k ∷ sequence_of l.s.layout l.s.lent.now l.k) l.p 0)
    × Writing l.initial.out (record_lines l.s.layout l.s.lent.now 0 (sequence_of l.s.layout l.s.lent.now l.k))
    l.out (record_lines l.s.layout l.s.lent.now l.p (drop l.p (sequence_of l.s.layout l.s.lent.now l.k)))
