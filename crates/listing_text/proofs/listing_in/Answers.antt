-- `listing_in` writes the lists of a sound store, and refuses unsound lists.
use Rattle.layout.proofs.Laws.{answered-no, answered-yes}
use Rattle.writing.proofs.Writing.{wrote-append, room-first, room-rest}
use Rattle.listing_text.proofs.Listed.{listed-sound, listed-unsound}
use Rattle.listing_text.proofs.listing_in.Goals as goal

pub all_lists-requires : goal.all_lists-requires
all_lists-requires c =
    let sound = answered-yes c.is_sound.ensures c.if-is_sound.true in
    record { sound = sound; room = room-first _ _ (rw (listed-sound c.args.s.now.layout c.args.s.now.lent.now sound) at c.requires) }

pub text-requires : goal.text-requires
text-requires c =
    let sound = answered-yes c.is_sound.ensures c.if-is_sound.true in
    room-rest _ (rw (listed-sound c.args.s.now.layout c.args.s.now.lent.now sound) at c.requires) c.all_lists.ensures

pub refused_line-requires : goal.refused_line-requires
refused_line-requires c =
    rw (listed-unsound c.args.s.now.layout c.args.s.now.lent.now (answered-no c.is_sound.ensures c.if-is_sound.false)) at c.requires

pub returns-then-is_sound : goal.returns-then-is_sound
returns-then-is_sound c =
    rw (listed-sound c.args.s.now.layout c.args.s.now.lent.now (answered-yes c.is_sound.ensures c.if-is_sound.true))
    (wrote-append c.all_lists.ensures c.text.ensures)

pub returns-else-is_sound : goal.returns-else-is_sound
returns-else-is_sound c =
    rw (listed-unsound c.args.s.now.layout c.args.s.now.lent.now (answered-no c.is_sound.ensures c.if-is_sound.false)) c.refused_line.ensures
