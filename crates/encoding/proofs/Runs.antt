-- Runs of word stores in either form: what the laws of a form give of the first stores of a plan.
use Prim.Native.Nat.{ℕ, ◌+◌, ◌-◌, ◌≤◌, ◌<◌}
use mathlib.Core.Path.{◌≡◌, refl, ap, ◌∙◌, sym}
use mathlib.Core.List.{List, [], ◌∷◌, ◌++◌}
use native.Mathlib.Numerals.{add-one}
use lib.ListN.{length, get_or, take}
use lib.Seq.{take-suc, take_all, take-append-le}
use Rattle.stores.specs.declared.Write.{Write}
use Rattle.stores.specs.Stores.{write, Plan, refuse, stores, left_by, words_after}
use Rattle.stores.proofs.Laws.{length_run}
use Rattle.stores.proofs.Segments.{take-append}
use Rattle.encoding.specs.Form.{FormLaws}

module _ {A : Type 0} {words_in : List A → List ℕ} {after : List Write → List A → List A} (laws : FormLaws words_in after) where
  -- there are as many words after stores as before
  pub length-after : (ps : List Write) (b : List A) → length (words_in (after ps b)) ≡ length (words_in b)
  length-after ps b = ap length (laws.words ps b) ∙ length_run ps (words_in b)

  -- no store is made
  pub after-none : (ps : List Write) (b : List A) → after (take 0 ps) b ≡ b
  after-none [] b = laws.none b
  after-none (p ∷ ps) b = laws.none b

  -- one store more
  pub after-more : (ps : List Write) (i : ℕ) (b : List A) → i < length ps
      → after (take (i + 1) ps) b ≡ after (get_or ps i (write 0 0) ∷ []) (after (take i ps) b)
  after-more ps i b h =
      ap (λ (n : ℕ). after (take n ps) b) (add-one i)
      ∙ ap (λ (qs : List Write). after qs b) (take-suc ps i (write 0 0) h)
      ∙ laws.append (take i ps) (get_or ps i (write 0 0) ∷ []) b

  -- all stores are made
  pub after-all : (ps : List Write) (m : ℕ) (b : List A) → length ps ≤ m → after (take m ps) b ≡ after ps b
  after-all ps m b h = ap (λ (qs : List Write). after qs b) (take_all m ps h)

  -- of two segments, the second goes on where the first ends, with what is left of the allowance ..
  pub after-append : (ps qs : List Write) (m : ℕ) (b : List A)
      → after (take m (ps ++ qs)) b ≡ after (take (m - length ps) qs) (after (take m ps) b)
  after-append ps qs m b =
      ap (λ (t : List Write). after t b) (take-append m ps qs) ∙ laws.append (take m ps) (take (m - length ps) qs) b

  -- .. and has nothing to do if that is none
  pub after-first : (ps qs : List Write) (m : ℕ) (b : List A) → m ≤ length ps → after (take m (ps ++ qs)) b ≡ after (take m ps) b
  after-first ps qs m b h = ap (λ (t : List Write). after t b) (take-append-le m ps qs h)

  -- of the stores qs the first, ps, are made: those that are left give what all give
  pub after-made : (ps rs : List Write) (b : List A) {qs : List Write} {c : List A} → qs ≡ ps ++ rs → c ≡ after ps b → after rs c ≡ after qs b
  after-made ps rs b e f = ap (after rs) f ∙ sym (laws.append ps rs b) ∙ ap (λ (qs : List Write). after qs b) (sym e)

  -- what a call leaves is, read as words, what the call on words leaves
  pub words-left : (p : Plan) (m : ℕ) (b : List A) → words_in (left_by after p m b) ≡ words_after p m (words_in b)
  words-left (refuse n) m b = refl
  words-left (stores ps) m b = laws.words (take m ps) b
