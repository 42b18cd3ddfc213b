-- `insert_links` lists the six stores.
use mathlib.Core.Path.{sym, subst}
use native.Mathlib.Nat.{add-zero}
use Rattle.stores.specs.Stores.{Inside}
use Rattle.edits.specs.Edits.{insert_links}
use Rattle.edits.proofs.Inside.{links-inside}
use Rattle.edits.proofs.insert_links.Goals as goal

pub returns-clause-links : goal.returns-clause-links
unfolding insert_links
returns-clause-links c =
    rw (
      c.set_word.ensures,
      c.set_word-2.ensures,
      c.set_word-3.ensures,
      c.set_count.ensures,
      c.set_word-4.ensures,
      c.set_word-5.ensures,
      c.ident.ensures,
      add-zero,
    )

pub returns-clause-inside : goal.returns-clause-inside
returns-clause-inside c = subst (Inside _) (sym (returns-clause-links c)) (links-inside c.requires)
