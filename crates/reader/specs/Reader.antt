-- What the reader for the printer hands out. "It hands out each record once, in list order, then empty parts. Made over a
-- refused store or list it hands out empty parts only."
use Rattle.std.specs.Prelude.{ℕ, zero, suc, ◌+◌, List, [], ◌∷◌, cond, ltb}
use Rattle.calls.specs.Calls.{read_words}
use Rattle.reader.specs.declared.Place.{Place}

-- the position behind p: the last of the numbers stays, and is beyond every list
unfoldable pub next_at : ℕ → ℕ
next_at p = cond (ltb p 65535) (p + 1) p

abbrev pub next_place : Place → Place
next_place p = record { list = p.list; at = next_at p.at }

-- the first n hand-outs of a reader over words w and list k from position p on: a record is handed out, the position stepped
unfoldable pub hand_outs : ℕ → List ℕ → ℕ → ℕ → List (List ℕ)
hand_outs zero w k p = []
hand_outs (suc n) w k p = read_words w k p ∷ hand_outs n w k (next_at p)
