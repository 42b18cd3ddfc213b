-- Where nodes stand, computed by a product, and a cell as it is read.
use Rattle.std.specs.Prelude.{ℕ, ◌+◌, ◌*◌, ◌≡◌, List, get_or}
use Rattle.layout.specs.declared.Layout.{Layout}
use Rattle.layout.specs.declared.Grid.{Grid}
use Rattle.layout.specs.declared.Cell.{Cell}
use Rattle.layout.specs.Words.{first_node, cell_count, node_words, nodes_at, forward_word, back_word}

-- the numbers that the address of a node is computed from
pub record Gridded (l : Layout) (g : Grid) : Type 0 where
  pub first : g.first ≡ nodes_at l
  pub step : g.step ≡ node_words l
  pub low : g.low ≡ node_words l * first_node l
  pub from : g.from ≡ first_node l
  pub to : g.to ≡ cell_count l

-- a cell as it stands in words from a on
abbrev pub cell_of : List ℕ → ℕ → Cell
cell_of w a = record { ident = get_or w a 0; forward = get_or w (a + forward_word) 0; back = get_or w (a + back_word) 0 }
