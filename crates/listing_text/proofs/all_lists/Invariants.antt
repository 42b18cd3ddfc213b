-- `all_lists` writes list by list: the lists from k on are still to be written.
use Rattle.std.proofs.Common.{◌-◌}
use Rattle.lists.specs.Decide.{sequence_of}
use Rattle.writing.proofs.Writing.{Writing}
use Rattle.listing_text.specs.Listing.{lists_from}
use Rattle.listing_text.proofs.all_lists.Given as goal

abbrev pub invariant-loop-k : goal.invariant-loop-k
invariant-loop-k l =
    Writing l.initial.out (lists_from l.s.layout l.s.lent.now (sequence_of l.s.layout l.s.lent.now) 0 l.s.layout.lists)
    l.out (lists_from l.s.layout l.s.lent.now (sequence_of l.s.layout l.s.lent.now) l.k (l.s.layout.lists - l.k))
