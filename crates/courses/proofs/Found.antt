-- The found store is accepted: every list but the one named with its old sequence, that one by the central store.
use Prim.Native.Nat.{ℕ, zero, suc, ◌+◌, ◌<◌, ◌≤◌}
use mathlib.Core.Path.{◌≡◌, refl, ap, ◌∙◌, sym, subst}
use mathlib.Core.List.Memᴰ
use mathlib.Core.List.{List, ◌∷◌}
use mathlib.Core.Bool.{Bool, true, false, cond}
use mathlib.Core.Logic.{◌⊎◌, inl, inr, ⊎_elim}
use native.Mathlib.Decide.{ℕ_discrete}
use native.Mathlib.Omega.{arith}
use native.Mathlib.Nat.{eq-or-lt_of_le, le_of_suc-le-suc}
use lib.Dec.{eqb}
use lib.ListN.{length, get_or, set, length-set}
use lib.Seq.{get_or-set_other}
use borrow.Author.Tests.{eqb-false}
use Rattle.sequences.specs.Sequence.{◌∈◌, All, Forward, Backward}
use Rattle.sequences.proofs.Members.{member?}
use Rattle.layout.specs.declared.Layout.{Layout}
use Rattle.layout.specs.Words.{header_words, count_word, Node, InRange, cell_at, cell_words, ident_at, count_at, ident_of, Unlisted}
use Rattle.layout.proofs.Apart.{cells-apart, words-apart, links-words, words-header}
use Rattle.lists.specs.Lists.{IsList, SoundLists, SameCells}
use Rattle.lists.specs.Decide.{view_of}
use Rattle.lists.proofs.Nodes.{list-used}
use Rattle.lists.proofs.Unique.{member-ident}
use Rattle.lists.proofs.Same.{ident-word, count-word, lists-apart}
use Rattle.edits.specs.Edited.{replaced}
use Rattle.edits.proofs.Edited.{replaced-own, replaced-other}
use Rattle.recovery.specs.Fits.{Fits, Chosen}
use Rattle.recovery.specs.Plan.{Accepted}
use Rattle.recovery.proofs.Candidates.{right-forward, right-backward}
use Rattle.courses.specs.Course.{Alteration, untouched, altered, both, alter, Allowed, AllowedBut, altered_below}
use Rattle.courses.proofs.Own.{Own, own-chosen, own_same}
use Rattle.courses.proofs.Other.{Touches, ident-touched, forwards-right, backs-right, altered-fits, altered-chosen}

-- a word that no alteration goes to
abbrev pub Out : Layout → ℕ → (ℕ → Alteration) → ℕ → ℕ → Type 0
Out l k alts n a = (j : ℕ) → j < n → (j ≡ k → ⊥) → (c f : ℕ) → Touches j (alts j) c f → a ≡ cell_at l c + f → ⊥

alter-out : (l : Layout) (j : ℕ) → j < l.lists → (x : Alteration) (w : List ℕ) (a : ℕ) → ((c f : ℕ) → Touches j x c f → a ≡ cell_at l c + f → ⊥)
    → get_or (alter l j x w) a 0 ≡ get_or w a 0
alter-out l j h untouched w a o = refl
alter-out l j h (altered c f v) w a o = get_or-set_other w (cell_at l c + f) a v 0 (o c f (refl, refl))
alter-out l j h (both c v n) w a o =
    get_or-set_other (set w (ident_at l c) v) (count_at l j) a n 0 (λ e. o j count_word (inr (refl, refl)) (e ∙ count-word l j h))
    ∙ get_or-set_other w (ident_at l c) a v 0 (λ e. o c 0 (inl (refl, refl)) (e ∙ ident-word l c))

pub altered-out : (l : Layout) (k : ℕ) (alts : ℕ → Alteration) (n : ℕ) (w : List ℕ) (a : ℕ) → n ≤ l.lists → Out l k alts n a
    → get_or (altered_below l k alts n w) a 0 ≡ get_or w a 0
unfolding altered_below
altered-out l k alts zero w a g h = refl
altered-out l k alts (suc j) w a g h = by (eqb j k) refl (altered-out l k alts j w a (omega arith) (λ i q. h i (omega arith)))
  where
    by : (b : Bool) → eqb j k ≡ b → get_or (altered_below l k alts j w) a 0 ≡ get_or w a 0
        → get_or (cond b (altered_below l k alts j w) (alter l j (alts j) (altered_below l k alts j w))) a 0 ≡ get_or w a 0
    by true e r = r
    by false e r = alter-out l j g (alts j) (altered_below l k alts j w) a (h j (omega arith) (eqb-false j k e)) ∙ r

length-alter : (l : Layout) (j : ℕ) (x : Alteration) (w : List ℕ) → length (alter l j x w) ≡ length w
length-alter l j untouched w = refl
length-alter l j (altered c f v) w = length-set w (cell_at l c + f) v
length-alter l j (both c v n) w = length-set (set w (ident_at l c) v) (count_at l j) n ∙ length-set w (ident_at l c) v

pub length-altered : (l : Layout) (k : ℕ) (alts : ℕ → Alteration) (n : ℕ) (w : List ℕ) → length (altered_below l k alts n w) ≡ length w
unfolding altered_below
length-altered l k alts zero w = refl
length-altered l k alts (suc j) w = by (eqb j k) (length-altered l k alts j w)
  where
    by : (b : Bool) → length (altered_below l k alts j w) ≡ length w
        → length (cond b (altered_below l k alts j w) (alter l j (alts j) (altered_below l k alts j w))) ≡ length w
    by true r = r
    by false r = length-alter l j (alts j) (altered_below l k alts j w) ∙ r

-- is it that word of that cell?
word? : (c d f g : ℕ) → ((c ≡ d) × (f ≡ g)) ⊎ ((c ≡ d) × (f ≡ g) → ⊥)
word? c d f g = by (ℕ_discrete c d) (ℕ_discrete f g)
  where
    by : Dec (c ≡ d) → Dec (f ≡ g) → ((c ≡ d) × (f ≡ g)) ⊎ ((c ≡ d) × (f ≡ g) → ⊥)
    by (yes a) (yes b) = inl (a, b)
    by (yes a) (no b) = inr (λ t. b t.1)
    by (no a) b = inr (λ t. a t.0)

module _ (l : Layout) (w : List ℕ) (s : SoundLists l w) (k : ℕ) (alts : ℕ → Alteration)
    (allowed : AllowedBut k l.lists s.sequence alts) where
  -- an altered word is a word of a cell of its list
  pub altered-cell : (j : ℕ) → j < l.lists → (j ≡ k → ⊥) → (c f : ℕ) → Touches j (alts j) c f → (c ∈ (j ∷ s.sequence j)) × (f < cell_words l c)
  altered-cell j h n c f = by (alts j) (allowed j h n)
    where
      header : c ≡ j → f < header_words → f < cell_words l c
      header e g = omega (arith, ap (cell_words l) e, words-header l j h)

      by : (x : Alteration) → Allowed j (s.sequence j) x → Touches j x c f → (c ∈ (j ∷ s.sequence j)) × (f < cell_words l c)
      by untouched a t = absurd t
      by (altered d g v) (inl q) t = (Memᴰ.head (t.0 ∙ q.0), header (t.0 ∙ q.0) (omega (arith, t.1, q.1)))
      by (altered d g v) (inr q) t = (Memᴰ.tail (Memᴰ.cast t.0 q.0), links-words l c f (omega (arith, t.1, q.1)))
      by (both d v m) q (inl t) = (Memᴰ.cast t.0 q, links-words l c f (omega (arith, t.1)))
      by (both d v m) q (inr t) = (Memᴰ.head t.0, header t.0 (omega (arith, t.1)))

  -- words of cells in no list but k are not altered
  pub out-cells : (c f : ℕ) → f < cell_words l c → ((j : ℕ) → j < l.lists → (j ≡ k → ⊥) → c ∈ (j ∷ s.sequence j) → ⊥)
      → Out l k alts l.lists (cell_at l c + f)
  out-cells c f g o j h n d e t z =
      let m = altered-cell j h n d e t in
      cells-apart l c d f e (λ y. o j h n (Memᴰ.cast y m.0)) g m.1 z

  -- nor is a word of a list that its alteration does not go to
  pub out-list : (j : ℕ) → j < l.lists → (j ≡ k → ⊥) → (c f : ℕ) → c ∈ (j ∷ s.sequence j) → f < cell_words l c → (Touches j (alts j) c f → ⊥)
      → Out l k alts l.lists (cell_at l c + f)
  out-list j h n c f m g o i hi ni d e t z = by (ℕ_discrete i j)
    where
      there : (d ∈ (i ∷ s.sequence i)) × (e < cell_words l d)
      there = altered-cell i hi ni d e t

      by : Dec (i ≡ j) → ⊥
      by (yes y) =
          words-apart l c d f e
          (λ a b.
          o (subst (λ (x : ℕ). Touches x (alts x) c f) y
          (subst (λ (x : ℕ). Touches i (alts i) x f) (sym a) (subst (λ (x : ℕ). Touches i (alts i) d x) (sym b) t))))
          g there.1 z
      by (no y) =
          cells-apart l c d f e
          (λ a. lists-apart l w j i (s.sequence j) (s.sequence i) h hi (λ x. y (sym x)) (s.lists j h) (s.lists i hi) c d m there.0 a)
          g there.1 z

  -- the words before the alterations: every other list as in the sound store, and outside them nodes that are free, worn or the named list's
  module _ (range : InRange l) (y₀ : List ℕ) (others : (j : ℕ) → j < l.lists → (j ≡ k → ⊥) → SameCells l w y₀ (j ∷ s.sequence j))
      (rest : (c : ℕ) → Node l c → ((j : ℕ) → j < l.lists → (j ≡ k → ⊥) → c ∈ s.sequence j → ⊥)
      → Unlisted (get_or y₀ (ident_at l c) 0) ⊎ (get_or y₀ (ident_at l c) 0 ≡ ident_of k)) where
    abbrev pub y : List ℕ
    y = altered_below l k alts l.lists y₀

    pub kept : (j : ℕ) → j < l.lists → (j ≡ k → ⊥) → (c f : ℕ) → c ∈ (j ∷ s.sequence j) → f < cell_words l c → (Touches j (alts j) c f → ⊥)
        → get_or y (cell_at l c + f) 0 ≡ get_or w (cell_at l c + f) 0
    kept j h n c f m g t = altered-out l k alts l.lists y₀ (cell_at l c + f) (omega arith) (out-list j h n c f m g t) ∙ others j h n c f m g

    pub kept-outside : (c f : ℕ) → f < cell_words l c → ((j : ℕ) → j < l.lists → (j ≡ k → ⊥) → c ∈ (j ∷ s.sequence j) → ⊥)
        → get_or y (cell_at l c + f) 0 ≡ get_or y₀ (cell_at l c + f) 0
    kept-outside c f g o = altered-out l k alts l.lists y₀ (cell_at l c + f) (omega arith) (out-cells c f g o)

    -- a cell is in one of the other lists, or in none
    find-list : (c n : ℕ) → ((m : ℕ) × (m < n) × (m ≡ k → ⊥) × (c ∈ s.sequence m)) ⊎ ((m : ℕ) → m < n → (m ≡ k → ⊥) → c ∈ s.sequence m → ⊥)
    find-list c zero = inr (λ m h. absurd (omega arith))
    find-list c (suc n) = ⊎_elim (λ r. inl (r.0, omega (arith, r.1), r.2, r.3)) (λ o. by o (ℕ_discrete n k) (member? c (s.sequence n))) (find-list c n)
      where
        by : ((m : ℕ) → m < n → (m ≡ k → ⊥) → c ∈ s.sequence m → ⊥) → Dec (n ≡ k) → (c ∈ s.sequence n) ⊎ (c ∈ s.sequence n → ⊥)
            → ((m : ℕ) × (m < suc n) × (m ≡ k → ⊥) × (c ∈ s.sequence m)) ⊎ ((m : ℕ) → m < suc n → (m ≡ k → ⊥) → c ∈ s.sequence m → ⊥)
        by o (no q) (inl p) = inl (n, omega arith, q, p)
        by o (yes q) p =
            inr (λ m h z t. ⊎_elim (λ e. z (e ∙ q)) (λ e. o m e z t) (eq-or-lt_of_le (le_of_suc-le-suc h)))
        by o (no q) (inr p) =
            inr (λ m h z t. ⊎_elim (λ e. p (subst (λ (x : ℕ). c ∈ s.sequence x) e t)) (λ e. o m e z t) (eq-or-lt_of_le (le_of_suc-le-suc h)))

    touches? : (j : ℕ) (x : Alteration) (c f : ℕ) → Touches j x c f ⊎ (Touches j x c f → ⊥)
    touches? j untouched c f = inr (λ t. t)
    touches? j (altered d g v) c f = word? c d f g
    touches? j (both d v n) c f =
        ⊎_elim (λ t. inl (inl t)) (λ o. ⊎_elim (λ t. inl (inr t)) (λ p. inr (⊎_elim o p)) (word? c j f count_word)) (word? c d f 0)

    -- where a node with list j's identifier comes from
    source : (j : ℕ) → j < l.lists → (j ≡ k → ⊥) → (c : ℕ) → Node l c → get_or y (ident_at l c) 0 ≡ ident_of j
        → (c ∈ s.sequence j) ⊎ ((m : ℕ) × (t : List ℕ) × (m < l.lists) × (m ≡ j → ⊥) × All (Node l) t × (c ∈ t)
        × Forward (view_of l y).forward m t m × Backward (view_of l y).back m t m)
    source j h n c nc e = ⊎_elim somewhere (λ o. absurd (nowhere o)) (find-list c l.lists)
      where
        nowhere : ((m : ℕ) → m < l.lists → (m ≡ k → ⊥) → c ∈ s.sequence m → ⊥) → ⊥
        nowhere o =
            let same : get_or y (ident_at l c) 0 ≡ get_or y₀ (ident_at l c) 0 =
            ap (λ (b : ℕ). get_or y b 0) (ident-word l c)
            ∙ kept-outside c 0 (links-words l c 0 (omega arith)) out
            ∙ ap (λ (b : ℕ). get_or y₀ b 0) (sym (ident-word l c)) in
            ⊎_elim (list-used range h (sym same ∙ e))
            (λ z. let q : 42400 + j ≡ 42400 + k = sym e ∙ same ∙ z in n (omega arith)) (rest c nc o)
          where
            out : (m : ℕ) → m < l.lists → (m ≡ k → ⊥) → c ∈ (m ∷ s.sequence m) → ⊥
            out m hm z (Memᴰ.head q) = omega (arith, nc.low)
            out m hm z (Memᴰ.tail q) = o m hm z q

        somewhere : (m : ℕ) × (m < l.lists) × (m ≡ k → ⊥) × (c ∈ s.sequence m)
            → (c ∈ s.sequence j) ⊎ ((m : ℕ) × (t : List ℕ) × (m < l.lists) × (m ≡ j → ⊥) × All (Node l) t × (c ∈ t)
            × Forward (view_of l y).forward m t m × Backward (view_of l y).back m t m)
        somewhere r = by (ℕ_discrete r.0 j) (touches? r.0 (alts r.0) c 0)
          where
            i : IsList l w r.0 (s.sequence r.0)
            i = s.lists r.0 r.1

            by : Dec (r.0 ≡ j) → Touches r.0 (alts r.0) c 0 ⊎ (Touches r.0 (alts r.0) c 0 → ⊥)
                → (c ∈ s.sequence j) ⊎ ((m : ℕ) × (t : List ℕ) × (m < l.lists) × (m ≡ j → ⊥) × All (Node l) t × (c ∈ t)
                × Forward (view_of l y).forward m t m × Backward (view_of l y).back m t m)
            by (yes z) t = inl (subst (λ (x : ℕ). c ∈ s.sequence x) z r.3)
            by (no z) (inl t) =
                let spared = ident-touched r.0 (alts r.0) c t in
                inr (
                  r.0,
                  s.sequence r.0,
                  r.1,
                  z,
                  i.nodes,
                  r.3,
                  right-forward l y r.0 (s.sequence r.0)
                      (forwards-right l w y r.0 r.1 (s.sequence r.0) i (alts r.0) (kept r.0 r.1 r.2)
                      spared.0),
                  right-backward l y r.0 (s.sequence r.0)
                      (backs-right l w y r.0 r.1 (s.sequence r.0) i (alts r.0) (kept r.0 r.1 r.2)
                      spared.1),
                )
            by (no z) (inr t) =
                let same : get_or y (ident_at l c) 0 ≡ get_or w (ident_at l c) 0 =
                ap (λ (b : ℕ). get_or y b 0) (ident-word l c)
                ∙ kept r.0 r.1 r.2 c 0 (Memᴰ.tail r.3) (links-words l c 0 (omega arith)) t
                ∙ ap (λ (b : ℕ). get_or w b 0) (sym (ident-word l c)) in
                let q : 42400 + r.0 ≡ 42400 + j =
                sym (member-ident l w r.0 (s.sequence r.0) c i r.3) ∙ sym same ∙ e in
                absurd (z (omega (arith, q)))

    -- the sequence r is recovery's for list j
    abbrev Taken : ℕ → List ℕ → Type 0
    Taken j r = Fits l y j r × Chosen l y j r

    -- the found store is accepted
    pub found-accepted
        : (t : List ℕ)
        → (k < l.lists
        → Own l y₀ k t × ((c : ℕ) → c ∈ (k ∷ t) → (j : ℕ) → j < l.lists → (j ≡ k → ⊥) → c ∈ (j ∷ s.sequence j) → ⊥))
        → Accepted l y (replaced s.sequence k t)
    found-accepted t own = record { fits = λ j h. (told j h).0; chosen = λ j h. (told j h).1 }
      where
        named : k < l.lists → Taken k t
        named h =
            let o = own h in
            let q = own_same l y₀ y k h t o.0 (λ c f m g. kept-outside c f g (o.1 c m)) in
            (q.fits, own-chosen l y k h t q)

        told : (j : ℕ) → j < l.lists → Taken j (replaced s.sequence k t j)
        told j h = by (ℕ_discrete j k)
          where
            by : Dec (j ≡ k) → Taken j (replaced s.sequence k t j)
            by (yes e) =
                subst (Taken j) (sym (replaced-own s.sequence k t j e))
                (subst (λ (i : ℕ). Taken i t) (sym e) (named (subst (λ (i : ℕ). i < l.lists) e h)))
            by (no n) =
                subst (Taken j) (sym (replaced-other s.sequence k t j n)) (
                  altered-fits l w y j h (s.sequence j) (s.lists j h) (alts j) (kept j h n),
                  altered-chosen l w y j h (s.sequence j) (s.lists j h) (alts j) (kept j h n) (source j h n),
                )
