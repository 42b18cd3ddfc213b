-- Where a call works, found by links.
use Rattle.std.specs.Prelude.{ℕ, ◌+◌, List, [], ◌∷◌, ◌++◌, length, get_or}
use Rattle.layout.specs.declared.Layout.{Layout}
use Rattle.requests.specs.declared.Site.{Site}
use Rattle.requests.specs.Requests.{next_cell, around, first_free, with_free}

-- the gap of list k at position p, for cell c
abbrev pub gap_site : ℕ → ℕ → ℕ → List ℕ → Site
gap_site k p c s = record { before = get_or (k ∷ s) p 0; cell = c; after = get_or (s ++ k ∷ []) p 0; count = length s }

-- the gap behind the record just inserted at a site, with the next free cell, searched from the one after the cell just used
unfoldable pub next_site : Layout → (ℕ → ℕ) → Site → Site
next_site l ident t =
    with_free (first_free ident (around l (next_cell l t.cell) l.nodes)) t
    (λ x. record { before = t.cell; cell = x; after = t.after; count = t.count + 1 })
