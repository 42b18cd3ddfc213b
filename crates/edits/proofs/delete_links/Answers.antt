-- `delete_links` lists the four stores.
use mathlib.Core.Path.{sym, subst}
use native.Mathlib.Nat.{add-zero}
use Rattle.stores.specs.Stores.{Inside}
use Rattle.edits.specs.Edits.{delete_links}
use Rattle.edits.proofs.Inside.{delete-links-inside}
use Rattle.edits.proofs.delete_links.Goals as goal

pub returns-clause-links : goal.returns-clause-links
unfolding delete_links
returns-clause-links c =
    rw (
      c.set_word.ensures,
      c.set_word-2.ensures,
      c.set_count.ensures,
      c.saturating_sub.ensures,
      c.set_word-3.ensures,
      add-zero,
    )

pub returns-clause-inside : goal.returns-clause-inside
returns-clause-inside c = subst (Inside _) (sym (returns-clause-links c)) (delete-links-inside c.requires)
