-- What the parts of recovery hand on: a store stays one through every run, the mends go to its words, and what is found tells the plan.
use Prim.Native.Nat.{ℕ}
use mathlib.Core.Path.{◌≡◌, ap, sym, subst, ◌∙◌}
use mathlib.Core.List.{List, ◌++◌}
use mathlib.Core.Bool.{false}
use native.Mathlib.Omega.{arith}
use lib.ListN.{length, get_or}
use Rattle.std.specs.Prelude.{Result}
use Rattle.std.proofs.Math.Path.{subst₂}
use Rattle.layout.specs.declared.Refusal.{Refusal}
use Rattle.stores.specs.Stores.{Write, Inside, run, stores}
use Rattle.layout.specs.declared.Layout.{Layout}
use Rattle.layout.specs.Words.{most_cells, Node, Laid, InRange, size_of}
use Rattle.lists.specs.Decide.{View, view_of, count_in}
use Rattle.recovery.specs.Plan.{recover_of}
use Rattle.encoding.specs.Form.{FormLaws}
use Rattle.encoding.proofs.Runs.{length-after}
use Rattle.mending.specs.declared.Mends.{Mends}
use Rattle.mending.specs.declared.Found.{Found}
use Rattle.mending.specs.Mending.{Mended, FoundIn, FoundOf, erased_from, clears, wipes, writes_in}
use Rattle.mending.proofs.AllLists.{mends-inside}
use Rattle.mending.proofs.Recovered.{recover-stores, recover-wipes, recover-mends}
use Rattle.mending.proofs.Finding.{none_left, none-unwiped}

pub laid_after : {A : Type 0} {words_in : List A → List ℕ} {after : List Write → List A → List A} (laws : FormLaws words_in after)
    (ps : List Write) {l : Layout} {b c : List A} → Laid l (words_in b) → c ≡ after ps b → Laid l (words_in c)
laid_after {words_in = words_in} laws ps {b = b} h e =
    record { in_range = h.in_range; exact = ap (λ x. length (words_in x)) e ∙ length-after laws ps b ∙ h.exact }

pub mended-inside : {l : Layout} {v : View} {count : ℕ → ℕ} {m : Mends} {ps : List Write} → InRange l → Mended l v count m → ps ≡ writes_in m.writes
    → Inside (size_of l) ps
mended-inside {l = l} {v = v} {count = count} r t e =
    subst (Inside (size_of l)) (sym (e ∙ t.writes)) (mends-inside l r v count 0 l.lists (omega arith))

-- what is found of a store is found of its words, by its layout
pub found-of : {k l : Layout} {x w : List ℕ} (r : Result Found Refusal) → k ≡ l → x ≡ w → FoundOf k x r → FoundOf l w r
found-of r = subst₂ (λ l w. FoundOf l w r)

-- the entries xs of the column are what is left of the identifiers
abbrev pub Left : Mends → List ℕ → Layout → List ℕ → Type 0
Left m xs l w =
    (idents : List ℕ) × (most_cells ≡ length idents) × ((c : ℕ) → Node l c → get_or idents c 0 ≡ (view_of l w).ident c)
    × (xs ≡ erased_from l (view_of l w) (λ k. get_or m.back k false) 0 l.lists idents)

module _ {l : Layout} {w : List ℕ} (h : Laid l w) where
  pub left-planned : {m : Mends} {xs : List ℕ} {ps : List Write} → Mended l (view_of l w) (count_in l w) m → Left m xs l w → ps ≡ writes_in m.writes
      → let qs = ps ++ clears l xs in stores (qs ++ wipes l (run qs w)) ≡ recover_of l w
  left-planned {m = m} t c e =
      (λ i. let qs = e i ++ clears l (c.3 i) in stores (qs ++ wipes l (run qs w)))
      ∙ sym (recover-stores l w m t h.exact h.in_range c.0 c.1 c.2)

  module _ {f : Found} {ps : List Write} (t : FoundIn l w f) (n : f.left ≡ false) (e : ps ≡ writes_in f.mends.writes) where
    pub wipes-planned : stores (ps ++ wipes l (run ps w)) ≡ recover_of l w
    wipes-planned =
        (λ i. stores (e i ++ wipes l (run (e i) w))) ∙ sym (recover-wipes l w f.mends t.mends h.exact h.in_range (none_left l w f t n))

    pub mends-planned : f.unwiped ≡ false → stores ps ≡ recover_of l w
    mends-planned u =
        ap stores e ∙ sym (recover-mends l w f.mends t.mends h.exact h.in_range (none_left l w f t n) (none-unwiped l w f t u))
