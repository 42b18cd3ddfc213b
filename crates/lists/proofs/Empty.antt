-- A formatted store is sound, and all its lists are empty.
use Prim.Native.Nat.{ℕ, ◌+◌, ◌<◌, ◌≤◌}
use mathlib.Core.Path.{◌≡◌, refl, ap, ◌∙◌, sym}
use mathlib.Core.List.{[]}
use native.Mathlib.Omega.{arith}
use native.Mathlib.Nat.{add-zero}
use lib.ListN.{get_or}
use Rattle.sequences.specs.Sequence.{steps}
use Rattle.layout.specs.declared.Layout.{Layout}
use Rattle.layout.specs.Words.{header_words, forward_word, back_word, count_word, nodes_at, node_at, cell_at, record_at, InRange, layout_of, empty_header, formatted, free}
use Rattle.layout.proofs.Laws.{cell-header, cell-node, length-formatted, formatted-header, formatted-node, formatted-marked}
use Rattle.lists.specs.Lists.{IsList, SoundLists, Sound}
use Rattle.lists.proofs.Agree.{holds-agrees}

-- word j of a cell that is a header
header-word : (l : Layout) (k j : ℕ) → k < l.lists → j < header_words → get_or (formatted l) (cell_at l k + j) 0 ≡ get_or (empty_header k) j 0
header-word l k j h g = rw (cell-header l k h) (formatted-header l k j h g)

pub formatted-list : (l : Layout) (k : ℕ) → k < l.lists → IsList l (formatted l) k []
unfolding steps
formatted-list l k h =
    record {
      nodes = tt;
      different = tt;
      agrees =
          holds-agrees l (formatted l) k [] (record {
            ident = ap (λ (a : ℕ). get_or (formatted l) a 0) (sym (add-zero (cell_at l k))) ∙ header-word l k 0 h (omega arith);
            turn =
                record {
                  idents = tt;
                  forwards = (header-word l k forward_word h (omega arith), tt);
                  backs = (header-word l k back_word h (omega arith), tt);
                };
            count = formatted-header l k count_word h (omega arith);
          });
    }

node-behind : (l : Layout) (i : ℕ) → nodes_at l ≤ node_at l i
unfolding node_at
node-behind l i = omega arith

pub formatted-lists : (l : Layout) → SoundLists l (formatted l)
formatted-lists l =
    record {
      sequence = λ _. [];
      lists = formatted-list l;
      outside = λ i n _. free (formatted-node l (cell_at l i) (omega (arith, cell-node l i n.low, node-behind l i)));
    }

pub formatted-sound : (l : Layout) → InRange l → Sound (formatted l)
unfolding formatted
formatted-sound l r =
    record {
      ordered =
          record {
            marked = formatted-marked l r;
            in_range = r;
            exact = length-formatted l;
            lists = formatted-lists l;
          };
      wiped = λ i n _ _ f _. formatted-node l (record_at l i + f) (omega (arith, node-behind l i));
    }

-- of this layout, and each list is empty
pub formatted-empty : (l : Layout) → InRange l → (s : Sound (formatted l)) × (layout_of (formatted l) ≡ l) × ((k : ℕ) → s.ordered.lists.sequence k ≡ [])
unfolding formatted formatted-lists formatted-sound
formatted-empty l r = (formatted-sound l r, refl, λ k. refl)
