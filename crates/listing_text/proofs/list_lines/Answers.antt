-- `list_lines` writes the first line of the list, which holds, and then its records.
use Rattle.std.proofs.Common.{◌≡◌, ◌<◌, ℕ, List, true, refl}
use Rattle.layout.specs.declared.Layout.{Layout}
use Rattle.lists.specs.Decide.{view_of, count_in, sound_of, HeldList}
use Rattle.lists.proofs.Ring.{sound-held}
use Rattle.writing.proofs.Writing.{wrote-append, room-first, room-rest}
use Rattle.listing_text.proofs.Lines.{list-parts}
use Rattle.listing_text.proofs.list_lines.Goals as goal

-- the list holds
held : {l : Layout} (w : List ℕ) (k n : ℕ) → k < l.lists → sound_of l w ≡ true → n ≡ count_in l w k → HeldList l (view_of l w) k n
held {l} w k n k-list sound e = sound-held l (view_of l w) (count_in l w) k k-list sound refl e

pub list_line-requires : goal.list_line-requires
list_line-requires c = room-first _ _ (rw (list-parts c.args.s.now.lent.now (held c.args.s.now.lent.now c.args.k c.count-count.result c.requires.list c.requires.sound c.count-count.ensures)) at c.requires.room)

pub record_lines-requires-clause-held : goal.record_lines-requires-clause-held
record_lines-requires-clause-held c = held c.args.s.now.lent.now c.args.k c.count-count.result c.requires.list c.requires.sound c.count-count.ensures

pub record_lines-requires-clause-room : goal.record_lines-requires-clause-room
record_lines-requires-clause-room c =
    let h = held c.args.s.now.lent.now c.args.k c.count-count.result c.requires.list c.requires.sound c.count-count.ensures in
    room-rest _ (rw (list-parts c.args.s.now.lent.now h) at c.requires.room) c.list_line.ensures

pub returns : goal.returns
returns c = rw (list-parts c.args.s.now.lent.now (held c.args.s.now.lent.now c.args.k c.count-count.result c.requires.list c.requires.sound c.count-count.ensures)) (wrote-append c.list_line.ensures c.record_lines.ensures)
