-- Laws of the lines of a listing: each text is its first part and the rest.
use Prim.Native.Nat.{ℕ, suc, ◌+◌, ◌-◌, ◌≤◌, ◌<◌}
use mathlib.Core.Path.{◌≡◌, ap, ◌∙◌}
use mathlib.Core.List.{List, [], ◌∷◌, ◌++◌, append_assoc}
use native.Mathlib.Omega.{arith}
use native.Mathlib.Numerals.{add-one}
use lib.ListN.{length, get_or, drop, get_or-append}
use Rattle.layout.specs.declared.Layout.{Layout}
use Rattle.layout.specs.Words.{Laid, Node, record_at}
use Rattle.layout.proofs.Laws.{node-fits}
use Rattle.lists.specs.Decide.{view_of, sequence_of, HeldList}
use Rattle.lists.proofs.Ring.{held-count, ring-after}
use Rattle.edits.specs.Edited.{record_in}
use Rattle.writing.specs.Text.{codes, decimal, spaced}
use Rattle.listing_text.specs.Listing.{record_line, record_lines, list_line, list_lines, lists_from}
use Rattle.writing.proofs.Writing.{drop-next, drop-end}

-- a record lies in the store
pub record-fits : {l : Layout} {w : List ℕ} {c : ℕ} → Laid l w → Node l c → record_at l c + l.width ≤ length w
record-fits {l} {w} {c} h n = omega (arith, node-fits l c n, h.exact)

-- the records of a list that holds, met along the forward links
module _ {l : Layout} (w : List ℕ) {k n : ℕ} (h : HeldList l (view_of l w) k n) (p : ℕ) where
  -- the cell in front of position p leads to the member there
  pub member-next : {c x : ℕ} → c ≡ get_or (k ∷ sequence_of l w k) p 0 → x ≡ (view_of l w).forward c → p < n → x ≡ get_or (k ∷ sequence_of l w k) (p + 1) 0
  member-next e f q =
      f ∙ ap (view_of l w).forward e ∙ ring-after h p (omega arith)
      ∙ get_or-append (sequence_of l w k) (k ∷ []) 0 p (omega (arith, held-count h))
      ∙ rw (add-one p)

  -- one record more
  pub record-next : {x : ℕ} (rec : List ℕ) → p < n → x ≡ get_or (k ∷ sequence_of l w k) (p + 1) 0 → rec ≡ record_in l w x
      → record_lines l w p (drop p (sequence_of l w k)) ≡ record_line p x rec ++ record_lines l w (p + 1) (drop (p + 1) (sequence_of l w k))
  unfolding record_lines
  record-next rec q e r = rw (drop-next (sequence_of l w k) p (omega (arith, held-count h)), r, e, add-one p)

  pub record-end : n ≤ p → record_lines l w p (drop p (sequence_of l w k)) ≡ []
  unfolding record_lines
  record-end q = rw (drop-end (sequence_of l w k) p (omega (arith, held-count h)))

-- the line of a record, part by part
pub record-parts : (p c : ℕ) (rec : List ℕ)
    → record_line p c rec ≡ decimal p ++ ((codes " " ++ decimal c) ++ (spaced rec ++ codes "\n"))
unfolding record_line spaced
record-parts p c rec = ap (λ (t : List ℕ). decimal p ++ (codes " " ++ t)) (append_assoc (decimal c) (spaced rec) (codes "\n"))

-- the lines of a list that holds, part by part
pub list-parts : {l : Layout} (w : List ℕ) {k n : ℕ} → HeldList l (view_of l w) k n
    → list_lines l w k (sequence_of l w k) ≡ list_line k n ++ record_lines l w 0 (sequence_of l w k)
unfolding list_lines
list-parts w h = rw (held-count h)

-- the lists from k on
module _ (l : Layout) (w : List ℕ) (sequence : ℕ → List ℕ) (k : ℕ) where
  pub lists-next : k < l.lists
      → lists_from l w sequence k (l.lists - k) ≡ list_lines l w k (sequence k) ++ lists_from l w sequence (k + 1) (l.lists - (k + 1))
  unfolding lists_from
  lists-next h =
      let m : l.lists - k ≡ suc (l.lists - suc k) = omega arith in
      rw (m, add-one)

  pub lists-end : l.lists ≤ k → lists_from l w sequence k (l.lists - k) ≡ []
  unfolding lists_from
  lists-end h = let m : l.lists - k ≡ 0 = omega arith in rw m
