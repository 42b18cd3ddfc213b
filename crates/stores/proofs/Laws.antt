-- Laws of runs of stores.
use Prim.Native.Nat.{ℕ, suc, zero, ◌+◌, ◌≤◌, ◌<◌}
use mathlib.Core.Path.{◌≡◌, refl, ap, ◌∙◌, sym, subst}
use mathlib.Core.List.{List, [], ◌∷◌, ◌++◌, Memᴰ}
use mathlib.Core.Logic.{◌⊎◌, inl, inr, ⊎_elim}
use native.Mathlib.Decide.{ℕ_discrete, dec_lt}
use native.Mathlib.Omega.{arith}
use native.Mathlib.Numerals.{add-one}
use native.Mathlib.Nat.{add-zero}
use lib.ListN.{length, get_or, set, take, drop, length-set, take-append-drop}
use lib.Seq.{take-suc, take_all, take-take, set_out, get_or-set_same, get_or-set_other}
use Rattle.sequences.specs.Sequence.{All}
use Rattle.sequences.proofs.Members.{all_in}
use Rattle.stores.specs.Stores.{Write, write, store, run, applied, Spares, in_row}

-- stores in a row one after the other
pub run-append : (ps qs : List Write) (w : List ℕ) → run (ps ++ qs) w ≡ run qs (run ps w)
unfolding run
run-append [] qs w = refl
run-append (p ∷ ps) qs w = run-append ps qs (store w p)

pub length_run : (ps : List Write) (w : List ℕ) → length (run ps w) ≡ length w
unfolding run
length_run [] w = refl
length_run (p ∷ ps) w = length_run ps (store w p) ∙ length-set w p.at p.value

-- no store, one store more, all stores
pub applied-none : (ps : List Write) (w : List ℕ) → applied ps 0 w ≡ w
unfolding run
applied-none [] w = refl
applied-none (p ∷ ps) w = refl

pub applied-more : (ps : List Write) (i : ℕ) (w : List ℕ) → i < length ps → applied ps (i + 1) w ≡ store (applied ps i w) (get_or ps i (write 0 0))
unfolding run
applied-more ps i w h =
    ap (λ (n : ℕ). applied ps n w) (add-one i)
    ∙ ap (λ (qs : List Write). run qs w) (take-suc ps i (write 0 0) h)
    ∙ run-append (take i ps) (get_or ps i (write 0 0) ∷ []) w

pub applied-all : (ps : List Write) (m : ℕ) (w : List ℕ) → length ps ≤ m → applied ps m w ≡ run ps w
applied-all ps m w h = ap (λ (qs : List Write). run qs w) (take_all m ps h)

-- a longer run passes through what every smaller allowance leaves
pub applied-through : (ps : List Write) (m n : ℕ) (w : List ℕ) → m ≤ n → applied ps n w ≡ run (drop m (take n ps)) (applied ps m w)
applied-through ps m n w h =
    ap (λ (qs : List Write). run qs w) (sym (take-append-drop m (take n ps)))
    ∙ run-append (take m (take n ps)) (drop m (take n ps)) w
    ∙ ap (λ (qs : List Write). run (drop m (take n ps)) (run qs w)) (take-take m n ps h)

-- a word that no store goes to stays
pub run_out : (ps : List Write) (w : List ℕ) (a : ℕ) → Spares a ps → get_or (run ps w) a 0 ≡ get_or w a 0
unfolding run
run_out [] w a h = refl
run_out (p ∷ ps) w a h = run_out ps (store w p) a h.1 ∙ get_or-set_other w p.at a p.value 0 h.0

-- a word that no later store goes to has the value stored
pub run_in
    : (ps : List Write) (p : Write) (qs : List Write) (w : List ℕ)
    → p.at < length w → Spares p.at qs → get_or (run (ps ++ p ∷ qs) w) p.at 0 ≡ p.value
unfolding run
run_in ps p qs w h n =
    ap (λ (x : List ℕ). get_or x p.at 0) (run-append ps (p ∷ qs) w)
    ∙ run_out qs (store (run ps w) p) p.at n
    ∙ get_or-set_same (run ps w) p.at p.value 0 (subst (λ (n : ℕ). p.at < n) (sym (length_run ps w)) h)

-- a word is as before, or has the value of a store that goes to it
pub run-word : (ps : List Write) (w : List ℕ) (a : ℕ)
    → (get_or (run ps w) a 0 ≡ get_or w a 0) ⊎ ((p : Write) × Memᴰ p ps × (p.at ≡ a) × (get_or (run ps w) a 0 ≡ p.value))
unfolding run
run-word [] w a = inl refl
run-word (p ∷ ps) w a =
    ⊎_elim here (λ r. inr (r.0, Memᴰ.tail r.1, r.2, r.3)) (run-word ps (store w p) a)
  where
    x : List ℕ
    x = run ps (store w p)

    here : get_or x a 0 ≡ get_or (store w p) a 0 → (get_or x a 0 ≡ get_or w a 0) ⊎ ((q : Write) × Memᴰ q (p ∷ ps) × (q.at ≡ a) × (get_or x a 0 ≡ q.value))
    here e = by (ℕ_discrete p.at a) (dec_lt p.at (length w))
      where
        by : Dec (p.at ≡ a) → Dec (p.at < length w)
            → (get_or x a 0 ≡ get_or w a 0) ⊎ ((q : Write) × Memᴰ q (p ∷ ps) × (q.at ≡ a) × (get_or x a 0 ≡ q.value))
        by (no n) i = inl (e ∙ get_or-set_other w p.at a p.value 0 (λ q. n (sym q)))
        by (yes q) (no i) = inl (e ∙ ap (λ (y : List ℕ). get_or y a 0) (set_out w p.at p.value (omega arith)))
        by (yes q) (yes i) =
            inr (p, Memᴰ.head refl, q, e ∙ ap (λ (n : ℕ). get_or (store w p) n 0) (sym q) ∙ get_or-set_same w p.at p.value 0 i)

-- so one that stores go to with one value only has that value or the one it had
pub run-either : (ps : List Write) (w : List ℕ) (a v : ℕ) → All (λ (p : Write). a ≡ p.at → p.value ≡ v) ps
    → (get_or (run ps w) a 0 ≡ get_or w a 0) ⊎ (get_or (run ps w) a 0 ≡ v)
run-either ps w a v h =
    ⊎_elim inl (λ r. inr (r.3 ∙ all_in (λ (p : Write). a ≡ p.at → p.value ≡ v) ps h r.1 (sym r.2))) (run-word ps w a)

-- stores in a row of addresses
pub row-spares : (a b : ℕ) (vs : List ℕ) → ((j : ℕ) → j < length vs → a ≡ b + j → ⊥) → Spares a (in_row b vs)
unfolding in_row
row-spares a b [] h = tt
row-spares a b (v ∷ vs) h =
    (λ e. h 0 (omega arith) (omega arith), row-spares a (b + 1) vs (λ j k e. h (suc j) (omega arith) (omega arith)))

pub length-row : (b : ℕ) (vs : List ℕ) → length (in_row b vs) ≡ length vs
unfolding in_row
length-row b [] = refl
length-row b (v ∷ vs) = ap suc (length-row (b + 1) vs)

-- store i of them
pub row_write : (b i : ℕ) (vs : List ℕ) → i < length vs → get_or (in_row b vs) i (write 0 0) ≡ write (b + i) (get_or vs i 0)
unfolding in_row
row_write b i [] h = absurd (omega arith)
row_write b zero (v ∷ vs) h = ap (λ (n : ℕ). write n v) (sym (add-zero b))
row_write b (suc i) (v ∷ vs) h =
    let e : b + 1 + i ≡ b + suc i = omega arith in
    row_write (b + 1) i vs (omega arith) ∙ ap (λ (n : ℕ). write n (get_or vs i 0)) e

pub row_at : (b : ℕ) (vs w : List ℕ) (j : ℕ) → b + length vs ≤ length w → j < length vs → get_or (run (in_row b vs) w) (b + j) 0 ≡ get_or vs j 0
unfolding in_row run
row_at b [] w j h k = absurd (omega arith)
row_at b (v ∷ vs) w zero h k =
    ap (λ (n : ℕ). get_or (run (in_row (b + 1) vs) (set w b v)) n 0) (add-zero b)
    ∙ run_out (in_row (b + 1) vs) (set w b v) b (row-spares b (b + 1) vs (λ j k e. omega arith))
    ∙ get_or-set_same w b v 0 (omega arith)
row_at b (v ∷ vs) w (suc j) h k =
    let e : b + suc j ≡ b + 1 + j = omega arith in
    ap (λ (n : ℕ). get_or (run (in_row (b + 1) vs) (set w b v)) n 0) e
    ∙ row_at (b + 1) vs (set w b v) j (omega (arith, length-set w b v)) (omega arith)
