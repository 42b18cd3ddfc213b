-- Wipes go up: node by node, and word by word.
use Prim.Native.Nat.{ℕ, zero, suc, ◌+◌, ◌<◌, ◌≤◌}
use mathlib.Core.Path.{◌≡◌, refl, ap, sym, subst}
use mathlib.Core.List.{List, [], ◌∷◌, ◌++◌, Memᴰ}
use mathlib.Core.Bool.{Bool, true, false}
use native.Mathlib.Omega.{arith}
use lib.ListN.{replicate}
use Rattle.sequences.specs.Sequence.{All, range, filter}
use Rattle.sequences.proofs.Members.{all_in, in_all, all_append}
use Rattle.sequences.proofs.Range.{range-between}
use Rattle.sequences.proofs.Filter.{filter-yes, filter-no, filter-in}
use Rattle.stores.specs.Stores.{Write, in_row}
use Rattle.layout.specs.declared.Layout.{Layout}
use Rattle.layout.specs.Words.{tail_words, first_node, record_at}
use Rattle.layout.proofs.Apart.{tail-word, cell-order}
use Rattle.lists.specs.Lists.{blank_asked}
use Rattle.lists.specs.Decide.{view_of}
use Rattle.recovery.specs.Fits.{wrong}
use Rattle.recovery.specs.Plan.{joined, nodes_out, blanks_asked, wipes_asked}
use Rattle.recovery.proofs.Required.{right?, wrong-right, wrong-wrong, wrong-in}
use Rattle.recovery.proofs.Joined.{out-is}
use Rattle.recovery.proofs.Count.{row_in, in-blank, in-blanks}
use Rattle.wiping.specs.Wiping.{Rising}

-- cells in rising order
abbrev Up : List ℕ → Type 0
Up [] = Unit {0}
Up (c ∷ cs) = All (λ d. c < d) cs × Up cs

range-up : (a n : ℕ) → Up (range a n)
unfolding range
range-up a zero = tt
range-up a (suc n) = (in_all (λ d. a < d) (range (suc a) n) (λ d m. (range-between (suc a) n d m).0), range-up (suc a) n)

filter-up : (test : ℕ → Bool) (s : List ℕ) → Up s → Up (filter test s)
unfolding filter
filter-up test [] u = tt
filter-up test (c ∷ s) u = by (test c) refl (filter-up test s u.1)
  where
    by : (b : Bool) → test c ≡ b → Up (filter test s) → Up (filter test (c ∷ s))
    by true e r =
        subst Up (sym (filter-yes test c s e)) (in_all (λ d. c < d) (filter test s) (λ d m. all_in (λ d. c < d) s u.0 (filter-in test s d m).0), r)
    by false e r = subst Up (sym (filter-no test c s e)) r

-- two rising lists, the second behind the first
rising-append : (ps qs : List Write) → Rising ps → Rising qs → ((p q : Write) → Memᴰ p ps → Memᴰ q qs → p.at < q.at) → Rising (ps ++ qs)
rising-append [] qs a b h = b
rising-append (p ∷ ps) qs a b h = (
  all_append (λ (q : Write). p.at < q.at) ps qs a.0 (in_all _ qs (λ q m. h p q (Memᴰ.head refl) m)),
  rising-append ps qs a.1 b (λ r q m n. h r q (Memᴰ.tail m) n),
)

-- what is wrong of a rising list
wrong-rising : (w : List ℕ) (ps : List Write) → Rising ps → Rising (wrong w ps)
unfolding wrong
wrong-rising w [] h = tt
wrong-rising w (p ∷ ps) h =
    elim (right? w p) [
      | yes e ↦ subst Rising (sym (wrong-right w p ps e)) (wrong-rising w ps h.1)
      | no n ↦
          subst Rising (sym (wrong-wrong w p ps n))
          (in_all (λ (q : Write). p.at < q.at) (wrong w ps) (λ q m. all_in (λ (r : Write). p.at < r.at) ps h.0 (wrong-in w ps m).0), wrong-rising w ps h.1)
    ]

-- the words of a record, and those of nodes in rising order
row-rising : (a n : ℕ) → Rising (in_row a (replicate n 0))
unfolding in_row
row-rising a zero = tt
row-rising a (suc n) = (
  in_all _ (in_row (a + 1) (replicate n 0)) (λ q m. let r = row_in (a + 1) n m in omega (arith, ap (λ (t : Write). t.at) r.2)),
  row-rising (a + 1) n,
)

blanks-rising : (l : Layout) (cs : List ℕ) → All (λ c. first_node l ≤ c) cs → Up cs → Rising (blanks_asked l cs)
unfolding blanks_asked
blanks-rising l [] n u = tt
blanks-rising l (c ∷ cs) n u =
    rising-append (blank_asked l c) (blanks_asked l cs) (row-rising (record_at l c) (tail_words l)) (blanks-rising l cs n.1 u.1)
    (λ p q m m'.
    let f = in-blank l c m in
    let r = in-blanks l cs m' in
    let x = tail-word l c f.0 n.0 f.1 in
    let y = tail-word l r.0 r.2.0 (all_in (λ c. first_node l ≤ c) cs n.1 r.1) r.2.1 in
    omega (
      arith,
      ap (λ (t : Write). t.at) f.2,
      ap (λ (t : Write). t.at) r.2.2,
      x,
      y.0,
      cell-order l c r.0 (all_in (λ d. c < d) cs u.0 r.1),
    ))

pub wipes-rising : (l : Layout) (w : List ℕ) (s : ℕ → List ℕ) → Rising (wrong w (wipes_asked l w s))
wipes-rising l w s =
    wrong-rising w (wipes_asked l w s)
    (blanks-rising l (nodes_out l w s)
    (in_all _ (nodes_out l w s) (λ c m. (out-is (view_of l w).ident (joined s l.lists) (first_node l) l.nodes c m).0))
    (filter-up _ (range (first_node l) l.nodes) (range-up (first_node l) l.nodes)))
