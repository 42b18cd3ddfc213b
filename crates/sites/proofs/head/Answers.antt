-- Questions 1 to 4 read nothing but the first eight words.
use Rattle.std.proofs.Common.{refl}
use Rattle.layout.specs.Words.{opened_by, marked}
use Rattle.sites.proofs.head.Goals as goal

pub returns : goal.returns
unfolding opened_by marked
returns g c = (
  refl,
  λ n.
      rw (
        c.word-8.ensures,
        c.word-7.ensures,
        c.word-6.ensures,
        c.word-5.ensures,
        c.word-4.ensures,
        c.word-3.ensures,
        c.word-2.ensures,
        c.word.ensures,
      ) refl,
)
