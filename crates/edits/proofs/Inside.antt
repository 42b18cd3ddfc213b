-- Every store of an insert or a delete goes to a word of the store; and the zeros that wipe a record.
use Prim.Native.Nat.{ℕ, ◌+◌, ◌-◌, ◌≤◌, ◌<◌}
use mathlib.Core.Path.{◌≡◌, ap, ◌∙◌, sym}
use mathlib.Core.List.{List, [], ◌∷◌}
use native.Mathlib.Omega.{arith}
use lib.ListN.{length, take, replicate, length-replicate, replicate-append-replicate}
use lib.Seq.{take_at}
use Rattle.sequences.specs.Sequence.{All}
use Rattle.sequences.proofs.Members.{all_append}
use Rattle.layout.specs.declared.Layout.{Layout}
use Rattle.layout.specs.Words.{most_width, tail_words, cell_at, count_at, record_at, size_of}
use Rattle.layout.proofs.Laws.{size_small, cell-fits, header-fits, node-fits}
use Rattle.stores.specs.Stores.{Write, in_row}
use Rattle.lists.specs.Lists.{blank_asked}
use Rattle.requests.specs.declared.Site.{Site}
use Rattle.edits.specs.Edits.{insert_links, insert_writes, delete_links, delete_writes, Placed}

-- the words of a record lie in a row
row_inside : (n a : ℕ) (vs : List ℕ) → a + length vs ≤ n → All (λ (p : Write). p.at < n) (in_row a vs)
unfolding in_row
row_inside n a [] h = tt
row_inside n a (v ∷ vs) h = (omega arith, row_inside n (a + 1) vs (omega arith))

module _ {l : Layout} {k : ℕ} {t : Site} (p : Placed l k t) where
  -- the words of the site stand within the store
  site-fits
      : (cell_at l t.cell + 3 ≤ size_of l) × (cell_at l t.before + 3 ≤ size_of l)
      × (cell_at l t.after + 3 ≤ size_of l) × (count_at l k < size_of l)
  site-fits =
      let r = p.in_range in (
        cell-fits l t.cell r p.cell.high,
        cell-fits l t.before r p.before,
        cell-fits l t.after r p.after,
        omega (arith, header-fits l k p.list),
      )

  -- and so does its record
  pub record-fits : (record_at l t.cell + tail_words l ≤ size_of l) × (size_of l ≤ 65536)
  record-fits = (omega (arith, node-fits l t.cell p.cell), size_small l p.in_range)

  -- the stores that wipe it: a row of the first of so many zeros as the longest has words
  pub blank-row : in_row (record_at l t.cell) (take (tail_words l) (replicate most_width 0)) ≡ blank_asked l t.cell
  blank-row =
      let n = tail_words l in
      let m : n + (most_width - n) ≡ most_width = omega (arith, p.in_range.tail) in
      ap (λ (vs : List ℕ). in_row (record_at l t.cell) (take n vs))
      (sym (replicate-append-replicate n (most_width - n) 0 ∙ ap (λ (k : ℕ). replicate k 0) m))
      ∙ ap (in_row (record_at l t.cell)) (take_at (replicate n 0) (replicate (most_width - n) 0) n (length-replicate n 0))

  pub links-inside : All (λ (q : Write). q.at < size_of l) (insert_links l k t)
  unfolding insert_links
  links-inside = omega (arith, site-fits)

  pub insert-inside : (words : List ℕ) → length words ≡ tail_words l → All (λ (q : Write). q.at < size_of l) (insert_writes l k t words)
  unfolding insert_writes
  insert-inside words e =
      all_append (λ (q : Write). q.at < size_of l) (in_row (record_at l t.cell) words) (insert_links l k t)
      (row_inside (size_of l) (record_at l t.cell) words (omega (arith, record-fits))) links-inside

  pub delete-links-inside : All (λ (q : Write). q.at < size_of l) (delete_links l k t)
  unfolding delete_links
  delete-links-inside = omega (arith, site-fits)

  pub delete-inside : All (λ (q : Write). q.at < size_of l) (delete_writes l k t)
  unfolding delete_writes
  delete-inside =
      all_append (λ (q : Write). q.at < size_of l) (delete_links l k t) (blank_asked l t.cell) delete-links-inside
      (row_inside (size_of l) (record_at l t.cell) (replicate (tail_words l) 0) (omega (arith, record-fits, length-replicate {A = ℕ} (tail_words l) 0)))
