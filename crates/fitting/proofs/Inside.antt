-- The faults of a list are words of the store.
use Prim.Native.Nat.{ℕ, ◌+◌, ◌<◌}
use mathlib.Core.List.{List, [], ◌∷◌}
use mathlib.Core.Bool.{Bool, true, false, cond}
use native.Mathlib.Omega.{arith}
use lib.Dec.{eqb}
use Rattle.sequences.specs.Sequence.{All}
use Rattle.sequences.proofs.Trail.{trail-inside}
use Rattle.layout.specs.declared.Layout.{Layout}
use Rattle.layout.specs.declared.Refusal.TheVariants.{NoFit}
use Rattle.layout.specs.Words.{link_words, ident_word, forward_word, back_word, InRange, Node, is_node, cell_count, cell_at, size_of, ident_of}
use Rattle.layout.proofs.Laws.{cell-fits}
use Rattle.lists.specs.Decide.{View}
use Rattle.lists.proofs.Unique.{all-nodes}
use Rattle.std.specs.Prelude.{Ok, Err}
use Rattle.fitting.specs.declared.Walk.{Walk}
use Rattle.fitting.specs.Fitting.{are_many, fault, turn_faults, others_faults, walked, walk_of, turned, way_of, decides, is_rival, ahead, behind, by_count, choose, fit_in}
use Rattle.fitting.specs.Fitting.{walk_in, Each, FaultFits}
use Rattle.fitting.proofs.Walks.{Every, every-plus, every-fault}

-- the cell and the word of a fault are the store's
abbrev Inside : Layout → ℕ → ℕ → Type 0
Inside l c f = (c < cell_count l) × (cell_at l c + f < size_of l)

-- what holds of both candidates' faults holds of those of the candidate that is chosen
choose-each : {P : ℕ → ℕ → Type 0} (x y : Walk) (n : ℕ) → Every P x.faults → Every P y.faults → Each P (walk_in (choose x y n)).faults
choose-each {P} x y n p q = by (decides x.faults) (are_many x.faults) (are_many y.faults) (is_rival y.faults)
  where
    counts : (a b : Bool) → Each P (walk_in (by_count a b x y)).faults
    counts true true = tt
    counts true false = p.each
    counts false true = q.each
    counts false false = tt

    by : (d m o r : Bool)
        → Each P (walk_in (cond d (Ok (ahead x)) (cond m (cond o (Err NoFit) (Ok (behind y)))
        (cond r (by_count (eqb n x.members) (eqb n y.members) x y) (Ok (ahead x)))))).faults
    by true m o r = p.each
    by false true true r = tt
    by false true false r = q.each
    by false false o true = counts (eqb n x.members) (eqb n y.members)
    by false false o false = p.each

-- what holds of the first three words of every cell holds of the faults of a turn round list k
module _ (l : Layout) (P : ℕ → ℕ → Type 0) (link : (c f : ℕ) → c < cell_count l → f < link_words → P c f)
    (v : View) (a b k : ℕ) (ha : a < link_words) (hb : b < link_words) (hk : k < l.lists) where
  word-every : (x c f v : ℕ) → c < cell_count l → f < link_words → Every P (fault x c f v)
  word-every x c f v h g = every-fault x c f v (link c f h g)

  -- the rest of it
  turn-every : (x : ℕ) (s : List ℕ) → x < cell_count l → All (Node l) s → Every P (turn_faults v a b k x s)
  unfolding turn_faults
  turn-every x [] h t =
      every-plus (word-every (v.forward x) x a k h ha) (word-every (v.back k) k b x (omega arith) hb)
  turn-every x (y ∷ s) h t =
      let c : y < cell_count l = t.0.high in
      every-plus (word-every (v.forward x) x a y h ha)
      (every-plus (word-every (v.ident y) y ident_word (ident_of k) c (omega arith))
      (every-plus (word-every (v.back y) y b x c hb)
      (turn-every y s c t.1)))

  -- all of it
  pub others-every : (s : List ℕ) → All (Node l) s → Every P (others_faults v a b k s)
  unfolding others_faults
  others-every s t = every-plus (word-every (v.ident k) k ident_word (ident_of k) (omega arith) (omega arith)) (turn-every k s (omega arith) t)

module _ (l : Layout) (r : InRange l) where
  -- the faults of a walk of list k
  walk-fits : (v : View) (a b k : ℕ) → a < link_words → b < link_words → k < l.lists → Every (Inside l) (walk_of l v a b k).faults
  walk-fits v a b k ha hb hk =
      let s = walked l v k in
      let t = all-nodes l s (trail-inside v.forward (is_node l) l.nodes (v.forward k)) in
      others-every l (Inside l) (λ c f h g. (h, omega (arith, cell-fits l c r h))) v a b k ha hb hk s t

  -- so the mend of list k is a word of the store
  pub fit-fits : (v : View) (k n : ℕ) → k < l.lists → FaultFits l (walk_in (fit_in l v k n)).faults
  unfolding fit_in
  fit-fits v k n h =
      choose-each (way_of l v false k) (way_of l v true k) n (walk-fits v forward_word back_word k (omega arith) (omega arith) h)
      (walk-fits (turned v) back_word forward_word k (omega arith) (omega arith) h)
