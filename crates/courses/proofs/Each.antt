-- Recoveries one after another: what a loop over the allowances knows, and demand 3 of what it leaves.
use Prim.Native.Nat.{ℕ, ◌+◌, ◌<◌, ◌≤◌}
use mathlib.Core.Path.{◌≡◌, refl, ap, ◌∙◌, sym, subst}
use mathlib.Core.List.{List, [], ◌∷◌, ◌++◌}
use native.Mathlib.Numerals.{add-one}
use lib.ListN.{length, get_or, take}
use lib.Seq.{take-suc, take_all}
use Rattle.calls.specs.Answers.{answer_of, Answer}
use Rattle.stores.specs.Stores.{words_after}
use Rattle.recovery.specs.Plan.{recover_plan}
use Rattle.courses.specs.Course.{words_through}
use Rattle.courses.specs.Demand3.{Demanded}
use Rattle.courses.proofs.Recoveries.{words_last}
use Rattle.courses.proofs.Demand3.{demand3}

-- no recovery yet
pub each_none : (ms y : List ℕ) → y ≡ words_through (take 0 ms) y
unfolding words_through
each_none ms y = refl

-- one more
pub each_more : (ms : List ℕ) (i : ℕ) (y x : List ℕ) → i < length ms → x ≡ words_through (take i ms) y
    → words_after (recover_plan x) (get_or ms i 0) x ≡ words_through (take (i + 1) ms) y
each_more ms i y x h e =
    ap (λ (v : List ℕ). words_after (recover_plan v) (get_or ms i 0) v) e ∙ sym (words_last (take i ms) (get_or ms i 0) y)
    ∙ ap (λ (ns : List ℕ). words_through ns y) (sym (take-suc ms i 0 h))
    ∙ ap (λ (n : ℕ). words_through (take n ms) y) (sym (add-one i))

-- no allowance is left
pub each_all : (ms : List ℕ) (i : ℕ) (y x : List ℕ) → length ms ≤ i → x ≡ words_through (take i ms) y → x ≡ words_through ms y
each_all ms i y x h e = e ∙ ap (λ (ns : List ℕ). words_through ns y) (take_all i ms h)

-- and the last one
pub each_last : (ms : List ℕ) (last : ℕ) (y x : List ℕ) → x ≡ words_through ms y
    → words_after (recover_plan x) last x ≡ words_through (ms ++ last ∷ []) y
each_last ms last y x e = ap (λ (v : List ℕ). words_after (recover_plan v) last v) e ∙ sym (words_last ms last y)

-- demand 3 of what they leave and of the last answer
pub each-demanded : (ms : List ℕ) (last : ℕ) (y z : List ℕ) (r : Answer) → z ≡ words_through (ms ++ last ∷ []) y
    → r ≡ answer_of (recover_plan (words_through ms y)) last → Demanded y ms last z r
each-demanded ms last y z r ends answer =
    subst (Demanded y ms last z) (sym answer)
    (subst (λ (v : List ℕ). Demanded y ms last v (answer_of (recover_plan (words_through ms y)) last)) (sym ends) (demand3 y ms last))
