-- Questions 5 and 6 are those of every request, and then its own follow.
use Rattle.std.proofs.Common.{◌≡◌, ◌<◌, true, arith, ap, ◌∙◌, sym}
use Rattle.layout.proofs.Laws.{answered-no, answered-yes}
use Rattle.lists.specs.Decide.{view_of, count_in, sound_of}
use Rattle.lists.proofs.Ring.{sound-held}
use Rattle.requests.specs.Requests.{list_of}
use Rattle.requests.proofs.Laws.{site-unlisted, site-unsound, site-check, site-whole, site-member, site-gap, site-gaps, site-mark}
use Rattle.requests.proofs.Worn.{site-said}
use Rattle.sites.proofs.site_of.Goals as goal

pub returns-then-s-list-clause-site : goal.returns-then-s-list-clause-site
returns-then-s-list-clause-site g c =
    let s = c.args.s.now in
    let w = g.E.Form.words_in s.lent.now in
    site-unlisted s.layout (view_of s.layout w) (count_in s.layout w) c.args.q s.laid.in_range (omega (arith, c.list_of-list.ensures))

pub returns-then-not-is_sound-clause-site : goal.returns-then-not-is_sound-clause-site
returns-then-not-is_sound-clause-site g c =
    let s = c.args.s.now in
    let w = g.E.Form.words_in s.lent.now in
    site-unsound s.layout (view_of s.layout w) (count_in s.layout w) c.args.q (omega (arith, c.list_of-list.ensures))
    (answered-no c.is_sound.ensures c.if-not-is_sound.true)

pub member-requires : goal.member-requires
member-requires g c =
    let s = c.args.s.now in
    let w = g.E.Form.words_in s.lent.now in
    let v = view_of s.layout w in
    let counts = count_in s.layout w in
    let q = c.args.q in
    let listed : list_of q < s.layout.lists = omega (arith, c.list_of-list.ensures) in
    let sounds : sound_of s.layout w ≡ true = answered-yes c.is_sound.ensures c.if-not-is_sound.false in
    sound-held s.layout v counts (list_of q) listed sounds (sym (ap list_of c.in-Member.is)) (c.count-n.ensures ∙ ap counts c.list_of-list.ensures)

pub gap-requires : goal.gap-requires
gap-requires g c =
    let s = c.args.s.now in
    let w = g.E.Form.words_in s.lent.now in
    let v = view_of s.layout w in
    let counts = count_in s.layout w in
    let q = c.args.q in
    let listed : list_of q < s.layout.lists = omega (arith, c.list_of-list.ensures) in
    let sounds : sound_of s.layout w ≡ true = answered-yes c.is_sound.ensures c.if-not-is_sound.false in
    sound-held s.layout v counts (list_of q) listed sounds (sym (ap list_of c.in-Gap.is)) (c.count-n.ensures ∙ ap counts c.list_of-list.ensures)

pub gaps-requires : goal.gaps-requires
gaps-requires g c =
    let s = c.args.s.now in
    let w = g.E.Form.words_in s.lent.now in
    let v = view_of s.layout w in
    let counts = count_in s.layout w in
    let q = c.args.q in
    let listed : list_of q < s.layout.lists = omega (arith, c.list_of-list.ensures) in
    let sounds : sound_of s.layout w ≡ true = answered-yes c.is_sound.ensures c.if-not-is_sound.false in
    sound-held s.layout v counts (list_of q) listed sounds (sym (ap list_of c.in-Gaps.is)) (c.count-n.ensures ∙ ap counts c.list_of-list.ensures)

pub returns-in-Check : goal.returns-in-Check
returns-in-Check g c =
    let s = c.args.s.now in
    let w = g.E.Form.words_in s.lent.now in
    let v = view_of s.layout w in
    let counts = count_in s.layout w in
    let q = c.args.q in
    let listed : list_of q < s.layout.lists = omega (arith, c.list_of-list.ensures) in
    let sounds : sound_of s.layout w ≡ true = answered-yes c.is_sound.ensures c.if-not-is_sound.false in
    let both = site-said s.layout s.laid.in_range v counts q (site-check s.layout v counts q listed sounds c.in-Check.is) in
    record { site = both.0; worn = both.1 }

pub returns-in-Whole : goal.returns-in-Whole
returns-in-Whole g c =
    let s = c.args.s.now in
    let w = g.E.Form.words_in s.lent.now in
    let v = view_of s.layout w in
    let counts = count_in s.layout w in
    let q = c.args.q in
    let listed : list_of q < s.layout.lists = omega (arith, c.list_of-list.ensures) in
    let sounds : sound_of s.layout w ≡ true = answered-yes c.is_sound.ensures c.if-not-is_sound.false in
    let both = site-said s.layout s.laid.in_range v counts q (site-whole s.layout v counts q listed sounds c.in-Whole.is (c.count-n.ensures ∙ ap counts c.list_of-list.ensures)) in
    record { site = both.0; worn = both.1 }

pub returns-in-Member : goal.returns-in-Member
returns-in-Member g c =
    let s = c.args.s.now in
    let w = g.E.Form.words_in s.lent.now in
    let v = view_of s.layout w in
    let counts = count_in s.layout w in
    let q = c.args.q in
    let listed : list_of q < s.layout.lists = omega (arith, c.list_of-list.ensures) in
    let sounds : sound_of s.layout w ≡ true = answered-yes c.is_sound.ensures c.if-not-is_sound.false in
    let both = site-said s.layout s.laid.in_range v counts q (c.member.ensures ∙ site-member s.layout v counts q listed sounds c.in-Member.is) in
    record { site = both.0; worn = both.1 }

pub returns-in-Gap-clause-site : goal.returns-in-Gap-clause-site
returns-in-Gap-clause-site g c =
    let s = c.args.s.now in
    let w = g.E.Form.words_in s.lent.now in
    let v = view_of s.layout w in
    let counts = count_in s.layout w in
    let q = c.args.q in
    let listed : list_of q < s.layout.lists = omega (arith, c.list_of-list.ensures) in
    let sounds : sound_of s.layout w ≡ true = answered-yes c.is_sound.ensures c.if-not-is_sound.false in
    c.gap.ensures.site ∙ site-gap s.layout v counts q listed sounds c.in-Gap.is

pub returns-in-Gaps-clause-site : goal.returns-in-Gaps-clause-site
returns-in-Gaps-clause-site g c =
    let s = c.args.s.now in
    let w = g.E.Form.words_in s.lent.now in
    let v = view_of s.layout w in
    let counts = count_in s.layout w in
    let q = c.args.q in
    let listed : list_of q < s.layout.lists = omega (arith, c.list_of-list.ensures) in
    let sounds : sound_of s.layout w ≡ true = answered-yes c.is_sound.ensures c.if-not-is_sound.false in
    c.gaps.ensures.site ∙ site-gaps s.layout v counts q listed sounds c.in-Gaps.is

pub returns-in-Mark-clause-site : goal.returns-in-Mark-clause-site
returns-in-Mark-clause-site g c =
    let s = c.args.s.now in
    let w = g.E.Form.words_in s.lent.now in
    let v = view_of s.layout w in
    let counts = count_in s.layout w in
    let q = c.args.q in
    let listed : list_of q < s.layout.lists = omega (arith, c.list_of-list.ensures) in
    let sounds : sound_of s.layout w ≡ true = answered-yes c.is_sound.ensures c.if-not-is_sound.false in
    c.mark.ensures ∙ site-mark s.layout v counts q listed sounds c.in-Mark.is
