-- Walks to a cell. "A step follows one link, from the nearer end, and is run with a budget."
use Rattle.std.specs.Prelude.{ℕ, zero, suc, ◌+◌, ◌-◌, ◌/◌, ◌<◌, ◌≤◌, ◌≡◌, List, ◌∷◌, Bool, true, false, cond, eqb, leb, length, get_or, Option, Some, None}
use Rattle.sequences.specs.Sequence.{follow}
use Rattle.layout.specs.declared.Layout.{Layout}
use Rattle.layout.specs.Words.{Node}
use Rattle.lists.specs.Decide.{View}
use Rattle.layout.specs.declared.Cell.{Cell}
use Rattle.spans.specs.Spans.{cell_in}
use Rattle.seeks.specs.declared.Seek.{Seek}

-- "from the nearer end": a list of n members is a ring of n + 1 cells, of which its header, cell k, is the first. Cell q of the ring lies q
-- links ahead of the header and n + 1 - q behind it.
unfoldable pub nearer : ℕ → ℕ → ℕ → Seek
nearer k n q =
    cond (leb q (n - q)) (record { at = k; left = q; ahead = true })
    (record { at = k; left = n + 1 - q; ahead = false })

-- "A step follows one link": that of the cell c, where the walk stands
abbrev pub stepped : Cell → Seek → Seek
stepped c t = record { at = cond t.ahead c.forward c.back; left = t.left - 1; ahead = t.ahead }

-- "and is run with a budget": it has arrived where no link is left to follow; with one left and no budget for it, it is spent
unfoldable pub run_with : View → ℕ → Seek → Option ℕ
run_with v zero t = cond (eqb t.left 0) (Some t.at) None
run_with v (suc b) t = cond (eqb t.left 0) (Some t.at) (run_with v b (stepped (cell_in v t.at) t))

-- "half the list's length, rounded up"
abbrev pub half : ℕ → ℕ
half n = (n + 1) / 2

-- what budgets are worth on the way to cell q of the ring of list k, whose members are s
pub record Reached (v : View) (k : ℕ) (s : List ℕ) (q : ℕ) : Type 0 where
  -- "a budget of half the list's length, rounded up, always arrives", at the cell that the plain sequence has there;
  pub arrives : run_with v (half (length s)) (nearer k (length s) q) ≡ Some (get_or (k ∷ s) q 0)
  -- so does one for the links ahead, and one for those behind;
  pub ahead : (b : ℕ) → q ≤ b → run_with v b (nearer k (length s) q) ≡ Some (get_or (k ∷ s) q 0)
  pub behind : (b : ℕ) → length s + 1 - q ≤ b → run_with v b (nearer k (length s) q) ≡ Some (get_or (k ∷ s) q 0)
  -- and one too small for either is spent
  pub spent : (b : ℕ) → b < q → b < length s + 1 - q → run_with v b (nearer k (length s) q) ≡ None

-- the link that a walk follows, and that the cells whose links it has yet to follow are nodes
abbrev pub link_of : View → Bool → ℕ → ℕ
link_of v ahead c = cond ahead (v.forward c) (v.back c)

abbrev pub Inside : Layout → View → Seek → Type 0
Inside l v t = (i : ℕ) → i < t.left → Node l (follow (link_of v t.ahead) i t.at)
