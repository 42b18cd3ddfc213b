-- Words that are overwritten from the front.
use Prim.Native.Nat.{ℕ, suc, ◌+◌, ◌<◌}
use mathlib.Core.Path.{◌≡◌, ap, ◌∙◌, sym}
use mathlib.Core.List.{List, ◌++◌, append-nil}
use native.Mathlib.Omega.{arith}
use native.Mathlib.Numerals.{add-one}
use lib.ListN.{length, get_or, set, take, drop}
use lib.Seq.{take-suc, drop-cons, set_at, append_snoc, length-take-le, take-length, drop-length}

-- the first i words are those of f, the others those of w
abbrev pub over : List ℕ → List ℕ → ℕ → List ℕ
over f w i = take i f ++ drop i w

pub over-next : (f w : List ℕ) (i : ℕ) → i < length f → i < length w → set (over f w i) i (get_or f i 0) ≡ over f w (i + 1)
over-next f w i h k =
    ap (λ (t : List ℕ). set (take i f ++ t) i (get_or f i 0)) (drop-cons w i 0 k)
    ∙ set_at (take i f) (get_or w i 0) (drop (suc i) w) (get_or f i 0) i (length-take-le i f (omega arith))
    ∙ sym (append_snoc (take i f) (get_or f i 0) (drop (suc i) w))
    ∙ ap (λ (t : List ℕ). t ++ drop (suc i) w) (sym (take-suc f i 0 h))
    ∙ ap (over f w) (sym (add-one i))

-- all of them
pub over-all : (f w : List ℕ) (i : ℕ) → i ≡ length f → length f ≡ length w → over f w i ≡ f
over-all f w i e k =
    ap (over f w) e
    ∙ ap (λ (t : List ℕ). t ++ drop (length f) w) (take-length f)
    ∙ ap (λ (n : ℕ). f ++ drop n w) k
    ∙ ap (λ (t : List ℕ). f ++ t) (drop-length w)
    ∙ append-nil f
