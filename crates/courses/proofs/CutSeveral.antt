-- An insert of several records cut after m stores: the records whose central store was made are in the list, and what it leaves behind is
-- what recovery needs to know of a cut call.
use Prim.Native.Nat.{ℕ, suc, ◌+◌, ◌*◌, ◌-◌, ◌/◌, ◌<◌, ◌≤◌, min}
use mathlib.Core.Path.{◌≡◌, refl, ap, ap₂, ◌∙◌, sym, subst}
use mathlib.Core.List.{List, [], ◌∷◌, ◌++◌}
use mathlib.Core.Bool.{Bool, true, false, cond}
use native.Mathlib.Decide.{dec_lt}
use native.Mathlib.Omega.{arith}
use native.Mathlib.Nat.{mul-zero, mul-one, mul-suc, min-zero, suc-min-suc, div_self, div-eq_of_lt, div-eq-sub-div}
use native.Mathlib.Numerals.{add-one}
use lib.Dec.{ltb}
use lib.ListN.{length, get_or, take, drop}
use borrow.Author.Tests.{ltb-true, ltb-false}
use Rattle.sequences.specs.Sequence.{◌∈◌}
use Rattle.stores.specs.Stores.{Write, run, applied}
use Rattle.stores.proofs.Laws.{length_run, applied-all}
use Rattle.stores.proofs.Segments.{applied-append, applied-first}
use Rattle.layout.specs.declared.Layout.{Layout}
use Rattle.layout.specs.Words.{head_words, tail_words, size_of}
use Rattle.lists.specs.Lists.{SoundLists, SameCells}
use Rattle.requests.specs.Sites.{gap_site}
use Rattle.edits.specs.Edits.{insert_central, chain, chain_at}
use Rattle.edits.specs.Edited.{FreeNodes}
use Rattle.edits.proofs.Several as S
use Rattle.courses.specs.Course.{due_of, due_of_several}
use Rattle.courses.proofs.Cut.{Cut, none-cut}
use Rattle.courses.proofs.CutInsert.{insert-cut}

-- w₁ is w with another sequence for list k and every other list as it was: a cut of w₁ is one of w
pub cut-through
    : (l : Layout) (w w₁ : List ℕ) (s : SoundLists l w) (s₁ : SoundLists l w₁) (k : ℕ)
    → ((j : ℕ) → (j ≡ k → ⊥) → s₁.sequence j ≡ s.sequence j)
    → ((j : ℕ) → j < l.lists → (j ≡ k → ⊥) → SameCells l w w₁ (j ∷ s.sequence j))
    → length w₁ ≡ length w → ((b : ℕ) → b < head_words → get_or w₁ b 0 ≡ get_or w b 0)
    → (own x y : List ℕ) → Cut l w₁ s₁ k own x y → Cut l w s k own x y
cut-through l w w₁ s s₁ k same others size head own x y c =
    record {
      size = c.size ∙ size;
      head = λ b h. c.head b h ∙ head b h;
      others =
          λ j h n d f i g.
          subst (λ (r : List ℕ). SameCells l w₁ y (j ∷ r)) (same j n) (c.others j h n) d f i g ∙ others j h n d f i g;
      rest = λ d nd o. c.rest d nd (λ j h n m. o j h n (subst (λ (r : List ℕ). d ∈ r) (same j n) m));
      own = c.own;
      apart = λ h d i j g n m. c.apart h d i j g n (subst (λ (r : List ℕ). d ∈ (j ∷ r)) (sym (same j n)) m);
      list = c.list;
      records = c.records;
    }

-- what is due of several records, by the number of central stores made
due-made : (n r m d : ℕ) → (m + 1) / n ≡ d → due_of_several n r m ≡ n * min r d
due-made n r m d e = cc

-- cut in the first segment, what is due of one; cut later, the first and what is due of the others
due-first : (q n r m : ℕ) → n ≡ q + 1 → m < n → (due_of_several n (suc r) m ≡ due_of q n m) × (due_of q n m ≤ n)
due-first q n r m e h = by (ltb m q) refl
  where
    by : (b : Bool) → ltb m q ≡ b → (due_of_several n (suc r) m ≡ cond b 0 n) × (cond b 0 n ≤ n)
    by true g = (
      due-made n (suc r) m 0 (div-eq_of_lt {n = m + 1} {m = n} (omega (arith, ltb-true m q g)))
          ∙ ap (λ (x : ℕ). n * x) (min-zero (suc r))
          ∙ mul-zero n,
      omega arith,
    )
    by false g =
        let f : m + 1 ≡ n = omega (arith, ltb-false m q g) in (
          due-made n (suc r) m 1 (ap (λ (x : ℕ). x / n) f ∙ div_self {n = n} (omega arith))
              ∙ ap (λ (x : ℕ). n * x) (suc-min-suc r 0 ∙ ap suc (min-zero r))
              ∙ mul-one n,
          omega arith,
        )

due-later : (n r m : ℕ) → 0 < n → n ≤ m → due_of_several n (suc r) m ≡ due_of_several n r (m - n) + n
due-later n r m z h =
    let e : m + 1 - n ≡ m - n + 1 = omega arith in
    due-made n (suc r) m (suc ((m - n + 1) / n))
    (div-eq-sub-div {m = n} {n = m + 1} z (omega arith) ∙ ap (λ (x : ℕ). x / n + 1) e ∙ add-one ((m - n + 1) / n))
    ∙ ap (λ (x : ℕ). n * x) (suc-min-suc r ((m - n + 1) / n))
    ∙ mul-suc n (min r ((m - n + 1) / n))

-- the first record's segment, and the others'
module _ (l : Layout) (w : List ℕ) (exact : length w ≡ size_of l) (s : SoundLists l w) (k : ℕ) (hk : k < l.lists)
    (p : ℕ) (hp : p ≤ length (s.sequence k)) (c : ℕ) (cs : List ℕ) (free : FreeNodes l w (c ∷ cs))
    (words : List ℕ) (enough : suc (length cs) * l.width ≤ length words) where
  abbrev n : ℕ
  n = tail_words l + 6

  abbrev full : List Write
  full = chain_at l k p (s.sequence k) (c ∷ cs) words

  abbrev First : List Write
  First = S.First l w exact s k hk p hp c cs free words enough

  abbrev After : List ℕ
  After = S.After l w exact s k hk p hp c cs free words enough

  abbrev after : SoundLists l After
  after = S.after-lists l w exact s k hk p hp c cs free words enough

  abbrev Rest : List Write
  Rest = chain_at l k (p + 1) (after.sequence k) cs (drop l.width words)

  size : length (take l.width words) ≡ tail_words l
  size = S.size l w exact s k hk p hp c cs free words enough

  split : full ≡ First ++ Rest
  split = S.chain-split l w exact s k hk p hp c cs free words enough

  first-length : length First ≡ n
  first-length = S.insert-length l k (gap_site k p c (s.sequence k)) (take l.width words) ∙ ap (λ (x : ℕ). x + 6) size

  -- what a cut inside the first segment leaves, and one behind it
  inside : (d : ℕ) → d ≤ n → applied full d w ≡ applied First d w
  inside d h = ap (λ (ps : List Write). applied ps d w) split ∙ applied-first First Rest d w (omega (arith, first-length))

  behind : (d : ℕ) → n ≤ d → applied full d w ≡ applied Rest (d - n) After
  behind d h =
      ap (λ (ps : List Write). applied ps d w) split
      ∙ applied-append First Rest d w
      ∙ ap₂ (λ (x : ℕ) (v : List ℕ). applied Rest (d - x) v) first-length (applied-all First d w (omega (arith, first-length)))

  cut_inside : (m : ℕ) → m < n → (own : List ℕ) × Cut l w s k own (applied full (due_of_several n (suc (length cs)) m) w) (applied full m w)
  cut_inside m h =
      let d = due-first (insert_central l) n (length cs) m (omega arith) h in
      let r = insert-cut l w exact s k hk p hp c free.nodes.0 free.free.0 (take l.width words) size m in (
        r.0,
        subst (λ (x : List ℕ). Cut l w s k r.0 x (applied full m w))
            (sym (ap (λ (x : ℕ). applied full x w) d.0 ∙ inside (due_of (insert_central l) n m) d.1))
            (subst (Cut l w s k r.0 (applied First (due_of (insert_central l) n m) w)) (sym (inside m (omega arith))) r.1),
      )

  cut-behind
      : (m : ℕ) → n ≤ m
      → (own : List ℕ) × Cut l After after k own (applied Rest (due_of_several n (length cs) (m - n)) After) (applied Rest (m - n) After)
      → (own : List ℕ) × Cut l w s k own (applied full (due_of_several n (suc (length cs)) m) w) (applied full m w)
  cut-behind m h r =
      let d : due_of_several n (suc (length cs)) m ≡ due_of_several n (length cs) (m - n) + n = due-later n (length cs) m (omega arith) h in
      let e : due_of_several n (suc (length cs)) m - n ≡ due_of_several n (length cs) (m - n) = omega (arith, d) in (
        r.0,
        subst (λ (x : List ℕ). Cut l w s k r.0 x (applied full m w))
            (sym (behind (due_of_several n (suc (length cs)) m) (omega (arith, d)) ∙ ap (λ (x : ℕ). applied Rest x After) e))
            (subst (Cut l w s k r.0 (applied Rest (due_of_several n (length cs) (m - n)) After)) (sym (behind m h))
            (cut-through l w After s after k (S.after-theirs l w exact s k hk p hp c cs free words enough)
            (S.after-others l w exact s k hk p hp c cs free words enough) (length_run First w)
            (S.after-head l w exact s k hk p hp c cs free words enough) r.0 _ _ r.1)),
      )

  cut-either
      : (m : ℕ)
      → (own : List ℕ) × Cut l After after k own (applied Rest (due_of_several n (length cs) (m - n)) After) (applied Rest (m - n) After)
      → (own : List ℕ) × Cut l w s k own (applied full (due_of_several n (suc (length cs)) m) w) (applied full m w)
  cut-either m r = by (dec_lt m n)
    where
      by : Dec (m < n) → (own : List ℕ) × Cut l w s k own (applied full (due_of_several n (suc (length cs)) m) w) (applied full m w)
      by (yes h) = cut_inside m h
      by (no h) = cut-behind m (omega arith) r

-- wherever it is cut
pub chain-cut
    : (l : Layout) (w : List ℕ) → length w ≡ size_of l → (s : SoundLists l w) (k : ℕ) → k < l.lists → (p : ℕ) → p ≤ length (s.sequence k)
    → (cells : List ℕ) → FreeNodes l w cells → (words : List ℕ) → length cells * l.width ≤ length words → (m : ℕ)
    → (own : List ℕ) × Cut l w s k own (applied (chain_at l k p (s.sequence k) cells words) (due_of_several (tail_words l + 6) (length cells) m) w)
    (applied (chain_at l k p (s.sequence k) cells words) m w)
unfolding chain run
chain-cut l w exact s k hk p hp [] free words enough m = (
  s.sequence k,
  subst (λ (x : List ℕ). Cut l w s k (s.sequence k) x (applied [] m w)) (sym (applied-all [] (due_of_several (tail_words l + 6) 0 m) w (omega arith)))
      (subst (Cut l w s k (s.sequence k) w) (sym (applied-all [] m w (omega arith))) (none-cut l w s k)),
)
chain-cut l w exact s k hk p hp (c ∷ cs) free words enough m =
    cut-either l w exact s k hk p hp c cs free words enough m
    (chain-cut l (S.After l w exact s k hk p hp c cs free words enough) (S.after-exact l w exact s k hk p hp c cs free words enough)
    (S.after-lists l w exact s k hk p hp c cs free words enough) k hk (p + 1) (S.after-position l w exact s k hk p hp c cs free words enough) cs
    (S.after_free l w exact s k hk p hp c cs free words enough) (drop l.width words) (S.other-words l (length cs) words enough)
    (m - (tail_words l + 6)))
