-- A list with one altered word, or with its count and one identifier altered: its sequence fits, and is chosen.
use Prim.Native.Nat.{ℕ, ◌+◌, ◌<◌, ◌≤◌}
use mathlib.Core.Path.{◌≡◌, refl, ap, ◌∙◌, sym, subst}
use mathlib.Core.List.Memᴰ
use mathlib.Core.List.{List, [], ◌∷◌, ◌++◌, map, map-id, reverse, reverse-reverse, Memᴰ}
use mathlib.Core.Bool.{Bool, true, false}
use mathlib.Core.Logic.{◌⊎◌, inl, inr, ⊎_elim}
use native.Mathlib.Decide.{ℕ_discrete}
use native.Mathlib.Omega.{arith}
use lib.Dec.{eqb}
use lib.ListN.{length, get_or, length-reverse}
use borrow.Author.Tests.{eqb-true, eqb-false}
use Rattle.sequences.specs.Sequence.{◌∈◌, All, Different, Step, steps, Forward, Backward}
use Rattle.sequences.proofs.Members.{all_in, in-front}
use Rattle.sequences.proofs.Steps.{sources, targets, step-source, step-target}
use Rattle.sequences.proofs.Reversed.{backward-forward, ring-reverse, all-reverse, reverse-in, in-reverse, different-reverse}
use Rattle.stores.specs.Stores.{Write, write}
use Rattle.layout.specs.declared.Layout.{Layout}
use Rattle.layout.specs.Words.{link_words, count_word, Node, is_node, cell_at, cell_words, ident_at, forward_at, back_at, ident_of}
use Rattle.layout.proofs.Apart.{links-words, words-header}
use Rattle.lists.specs.Lists.{idents_asked, forwards_asked, backs_asked, others_asked, IsList}
use Rattle.lists.specs.Decide.{view_of, count_in}
use Rattle.lists.proofs.Agree.{Holds, agrees-holds}
use Rattle.lists.proofs.Unique.{header-out, nodes-all}
use Rattle.lists.proofs.Same.{ident-word, count-word}
use Rattle.recovery.specs.Fits.{wrong, Fits, Counted, Chosen, counted}
use Rattle.recovery.proofs.Required.{wrong-right, wrong-wrong}
use Rattle.recovery.proofs.Candidates.{sequence-dec, wrong-others, right-forward, right-backward, Whole, rivals}
use Rattle.recovery.proofs.Slots.{ring-cells}
use Rattle.recovery.proofs.Disjoint.{no-paths}
use Rattle.courses.specs.Course.{Alteration, untouched, altered, both}
use Rattle.courses.proofs.Rival.{no_rival}
use Rattle.courses.proofs.Own.{Own, own-chosen}

-- an alteration of list j goes to word f of cell c
abbrev pub Touches : ℕ → Alteration → ℕ → ℕ → Type 0
Touches j untouched c f = ⊥
Touches j (altered d g v) c f = (c ≡ d) × (f ≡ g)
Touches j (both d v n) c f = ((c ≡ d) × (f ≡ 0)) ⊎ ((c ≡ j) × (f ≡ count_word))

-- it goes to word f of no cell
abbrev pub Spared : ℕ → Alteration → ℕ → Type 0
Spared j a f = (c : ℕ) → Touches j a c f → ⊥

-- it goes to no link, or to one and to nothing else
data Goes (j : ℕ) (a : Alteration) : Type 0 where
  no_link : Spared j a 1 → Spared j a 2 → Goes j a
  one_forward : Spared j a 0 → Spared j a 2 → Spared j a count_word → Goes j a
  one_back : Spared j a 0 → Spared j a 1 → Spared j a count_word → Goes j a

goes : (j : ℕ) (a : Alteration) → Goes j a
goes j untouched = no_link (λ c t. t) (λ c t. t)
goes j (altered d g v) = by (ℕ_discrete g 1) (ℕ_discrete g 2)
  where
    by : Dec (g ≡ 1) → Dec (g ≡ 2) → Goes j (altered d g v)
    by (yes p) q = one_forward (λ c t. omega (arith, t.1)) (λ c t. omega (arith, t.1)) (λ c t. omega (arith, t.1))
    by (no p) (yes q) = one_back (λ c t. omega (arith, t.1)) (λ c t. omega (arith, t.1)) (λ c t. omega (arith, t.1))
    by (no p) (no q) = no_link (λ c t. p (sym t.1)) (λ c t. q (sym t.1))
goes j (both d v n) =
    no_link (λ c. ⊎_elim (λ t. omega (arith, t.1)) (λ t. omega (arith, t.1))) (λ c. ⊎_elim (λ t. omega (arith, t.1)) (λ t. omega (arith, t.1)))

-- so where it goes to an identifier, it goes to no link
pub ident-touched : (j : ℕ) (a : Alteration) (c : ℕ) → Touches j a c 0 → Spared j a 1 × Spared j a 2
ident-touched j a c t =
    elim (goes j a) [ no_link f b ↦ (f, b) | one_forward i b n ↦ absurd (i c t) | one_back i f n ↦ absurd (i c t) ]

map-all-right {ℓ} : {A : Type ℓ} (w : List ℕ) (g : A → Write) (xs : List A) → ((x : A) → Memᴰ x xs → get_or w (g x).at 0 ≡ (g x).value)
    → wrong w (map g xs) ≡ []
unfolding wrong
map-all-right w g [] h = refl
map-all-right w g (x ∷ xs) h = wrong-right w (g x) (map g xs) (h x (Memᴰ.head refl)) ∙ map-all-right w g xs (λ y m. h y (Memᴰ.tail m))

-- only entries with one key may be wrong, and no key comes twice: at most one is wrong
one-wrong {ℓ} : {A : Type ℓ} (w : List ℕ) (key : A → ℕ) (g : A → Write) (xs : List A) (a : ℕ) → Different (map key xs)
    → ((x : A) → Memᴰ x xs → (key x ≡ a → ⊥) → get_or w (g x).at 0 ≡ (g x).value) → length (wrong w (map g xs)) ≤ 1
unfolding wrong
one-wrong w key g [] a d h = omega arith
one-wrong w key g (x ∷ xs) a d h =
    by (one-wrong w key g xs a d.1 (λ y m. h y (Memᴰ.tail m))) (eqb (get_or w (g x).at 0) (g x).value) refl
  where
    by : length (wrong w (map g xs)) ≤ 1 → (b : Bool) → eqb (get_or w (g x).at 0) (g x).value ≡ b → length (wrong w (g x ∷ map g xs)) ≤ 1
    by r true e = rw (wrong-right w (g x) (map g xs) (eqb-true _ _ e)) r
    by r false e =
        let here : (key x ≡ a → ⊥) → ⊥ = λ n. eqb-false _ _ e (h x (Memᴰ.head refl) n) in
        let none : wrong w (map g xs) ≡ [] =
        map-all-right w g xs (λ y m. h y (Memᴰ.tail m) (λ z. here (λ q. d.0 (subst (λ (c : ℕ). c ∈ map key xs) (z ∙ sym q) (Memᴰ.map key m))))) in
        omega (arith, ap length (wrong-wrong w (g x) (map g xs) (eqb-false _ _ e)), ap length none)

-- a list of which all words that the alteration does not go to are as a sound list has them
module _ (l : Layout) (w y : List ℕ) (j : ℕ) (h : j < l.lists) (s : List ℕ) (i : IsList l w j s) (alt : Alteration)
    (kept : (c f : ℕ) → c ∈ (j ∷ s) → f < cell_words l c → (Touches j alt c f → ⊥) → get_or y (cell_at l c + f) 0 ≡ get_or w (cell_at l c + f) 0) where
  right : Holds (view_of l w) j (count_in l w j) s
  right = agrees-holds l w j s i.agrees

  cells : Different (j ∷ s) × Different (s ++ j ∷ [])
  cells = ring-cells l j s h i.nodes i.different

  -- the cell of which an identifier or a link is altered; an untouched list has none
  at : ℕ
  at = elim alt [ untouched ↦ 0 | altered c f v ↦ c | both c v n ↦ c ]

  kept-ident : (c : ℕ) → c ∈ (j ∷ s) → (Touches j alt c 0 → ⊥) → get_or y (ident_at l c) 0 ≡ get_or w (ident_at l c) 0
  kept-ident c m n =
      ap (λ (b : ℕ). get_or y b 0) (ident-word l c) ∙ kept c 0 m (links-words l c 0 (omega arith)) n ∙ ap (λ (b : ℕ). get_or w b 0) (sym (ident-word l c))

  was-ident : (c : ℕ) → c ∈ (j ∷ s) → get_or w (ident_at l c) 0 ≡ ident_of j
  was-ident c (Memᴰ.head e) = ap (λ (d : ℕ). get_or w (ident_at l d) 0) e ∙ right.ident
  was-ident c (Memᴰ.tail m) = all_in (λ d. get_or w (ident_at l d) 0 ≡ ident_of j) s right.turn.idents m

  touched-cell : (c f : ℕ) → f < link_words → (c ≡ at → ⊥) → Touches j alt c f → ⊥
  unfolding at
  touched-cell c f hf = by alt
    where
      by : (a : Alteration) → (c ≡ (elim a as (λ _. ℕ) [ untouched ↦ 0 | altered d g v ↦ d | both d v n ↦ d ]) → ⊥) → Touches j a c f → ⊥
      by untouched o t = t
      by (altered d g v) o t = o t.0
      by (both d v n) o (inl t) = o t.0
      by (both d v n) o (inr t) = omega (arith, t.1)

  idents-few : length (wrong y (idents_asked l j s)) ≤ 1
  idents-few =
      one-wrong y (λ c. c) (λ c. write (ident_at l c) (ident_of j)) (j ∷ s) at (subst Different (sym (map-id (j ∷ s))) cells.0)
      (λ c m n. kept-ident c m (touched-cell c 0 (omega arith) n) ∙ was-ident c m)

  forwards-few : length (wrong y (forwards_asked l j s)) ≤ 1
  forwards-few =
      one-wrong y (λ (t : Step). t.source) (λ (t : Step). write (forward_at l t.source) t.target) (steps j s j) at
      (subst Different (sym (sources j s j)) cells.0)
      (λ t m n.
      kept t.source 1 (step-source j s j m) (links-words l t.source 1 (omega arith)) (touched-cell t.source 1 (omega arith) n)
      ∙ all_in (λ (u : Step). (view_of l w).forward u.source ≡ u.target) (steps j s j) right.turn.forwards m)

  backs-few : length (wrong y (backs_asked l j s)) ≤ 1
  backs-few =
      one-wrong y (λ (t : Step). t.target) (λ (t : Step). write (back_at l t.target) t.source) (steps j s j) at
      (subst Different (sym (targets j s j)) cells.1)
      (λ t m n.
      kept t.target 2 (in-front j s (step-target j s j m)) (links-words l t.target 2 (omega arith)) (touched-cell t.target 2 (omega arith) n)
      ∙ all_in (λ (u : Step). (view_of l w).back u.target ≡ u.source) (steps j s j) right.turn.backs m)

  -- a kind of words that is spared is right
  idents-right : Spared j alt 0 → length (wrong y (idents_asked l j s)) ≡ 0
  idents-right n = ap length (map-all-right y (λ c. write (ident_at l c) (ident_of j)) (j ∷ s) (λ c m. kept-ident c m (n c) ∙ was-ident c m))

  pub forwards-right : Spared j alt 1 → length (wrong y (forwards_asked l j s)) ≡ 0
  forwards-right n =
      ap length (map-all-right y (λ (t : Step). write (forward_at l t.source) t.target) (steps j s j)
      (λ t m.
      kept t.source 1 (step-source j s j m) (links-words l t.source 1 (omega arith)) (n t.source)
      ∙ all_in (λ (u : Step). (view_of l w).forward u.source ≡ u.target) (steps j s j) right.turn.forwards m))

  pub backs-right : Spared j alt 2 → length (wrong y (backs_asked l j s)) ≡ 0
  backs-right n =
      ap length (map-all-right y (λ (t : Step). write (back_at l t.target) t.source) (steps j s j)
      (λ t m.
      kept t.target 2 (in-front j s (step-target j s j m)) (links-words l t.target 2 (omega arith)) (n t.target)
      ∙ all_in (λ (u : Step). (view_of l w).back u.target ≡ u.source) (steps j s j) right.turn.backs m))

  pub count-right : Spared j alt count_word → Counted l y j s
  count-right n =
      ap (λ (b : ℕ). get_or y b 0) (count-word l j h)
      ∙ kept j count_word (Memᴰ.head refl) (omega (arith, words-header l j h)) (n j)
      ∙ ap (λ (b : ℕ). get_or w b 0) (sym (count-word l j h))
      ∙ right.count

  pub altered-fits : Fits l y j s
  altered-fits = record { nodes = i.nodes; different = i.different; few = by (goes j alt) }
    where
      by : Goes j alt → length (wrong y (others_asked l j s)) ≤ 1
      by (no_link f b) = omega (arith, wrong-others l y j s, idents-few, forwards-right f, backs-right b)
      by (one_forward i b n) = omega (arith, wrong-others l y j s, idents-right i, forwards-few, backs-right b)
      by (one_back i f n) = omega (arith, wrong-others l y j s, idents-right i, forwards-right f, backs-few)

  -- with all links right, forward and back lead round s
  pub settled : Spared j alt 1 → Spared j alt 2 → Own l y j s
  settled f b =
      record {
        fits = altered-fits;
        forward = right-forward l y j s (forwards-right f);
        other = s;
        nodes = i.nodes;
        within = λ c m. m;
        back = right-backward l y j s (backs-right b);
        told = inl refl;
      }

  -- another sequence as long, whose cells all carry the list's identifier: each is in s, or in a list whose links are all right
  module _
      (source : (c : ℕ) → Node l c → get_or y (ident_at l c) 0 ≡ ident_of j
      → (c ∈ s) ⊎ ((m : ℕ) × (t : List ℕ) × (m < l.lists) × (m ≡ j → ⊥) × All (Node l) t × (c ∈ t)
      × Forward (view_of l y).forward m t m × Backward (view_of l y).back m t m)) where
    -- onward from cells of s, links that lead round r stay in s
    stay-by
        : (link : ℕ → ℕ) (r : List ℕ) → All (Node l) r → All (λ c. get_or y (ident_at l c) 0 ≡ ident_of j) r
        → ((m : ℕ) (t : List ℕ) → (m < l.lists) → (m ≡ j → ⊥) → All (Node l) t → (c : ℕ) → c ∈ t → c ∈ r
        → Forward (view_of l y).forward m t m → Backward (view_of l y).back m t m → ⊥)
        → (c : ℕ) → c ∈ (j ∷ s) → link c ∈ r → link c ∈ s
    stay-by link r n ids never c m q =
        ⊎_elim (λ z. z) (λ z. absurd (never z.0 z.1 z.2 z.3 z.4 (link c) z.5 q z.6 z.7))
        (source (link c) (all_in (Node l) r n q) (all_in (λ d. get_or y (ident_at l d) 0 ≡ ident_of j) r ids q))

    agree-forward : (c : ℕ) → c ∈ (j ∷ s) → (c ≡ at → ⊥) → (view_of l y).forward c ≡ (view_of l w).forward c
    agree-forward c m n = kept c 1 m (links-words l c 1 (omega arith)) (touched-cell c 1 (omega arith) n)

    agree-back : (c : ℕ) → c ∈ (j ∷ s) → (c ≡ at → ⊥) → (view_of l y).back c ≡ (view_of l w).back c
    agree-back c m n = kept c 2 m (links-words l c 2 (omega arith)) (touched-cell c 2 (omega arith) n)

    by-forward : (r : List ℕ) → Fits l y j r → Whole l y j h r → length r ≡ length s → Forward (view_of l y).forward j r j → r ≡ s
    by-forward r f v e p =
        let d = ring-cells l j r h f.nodes f.different in
        no_rival (is_node l) (view_of l w).forward (view_of l y).forward j at s r (nodes-all l s i.nodes) (nodes-all l r f.nodes) (header-out l j h)
        cells.0 f.different d.1 right.turn.forwards p agree-forward
        (stay-by (view_of l y).forward r f.nodes v.idents
        (λ m t hm n nt c ct cr q b. no-paths l y m j hm h n (view_of l y).forward t r c nt f.nodes ct cr q p)) e

    by-back : (r : List ℕ) → Fits l y j r → Whole l y j h r → length r ≡ length s → Backward (view_of l y).back j r j → r ≡ s
    by-back r f v e p =
        let dr = ring-cells l j (reverse r) h (all-reverse (Node l) r f.nodes) (different-reverse r f.different) in
        let ds = ring-cells l j (reverse s) h (all-reverse (Node l) s i.nodes) (different-reverse s i.different) in
        let z : reverse r ≡ reverse s =
        no_rival (is_node l) (view_of l w).back (view_of l y).back j at (reverse s) (reverse r)
        (nodes-all l (reverse s) (all-reverse (Node l) s i.nodes)) (nodes-all l (reverse r) (all-reverse (Node l) r f.nodes)) (header-out l j h)
        ds.0 (different-reverse r f.different) dr.1
        (backward-forward (view_of l w).back j s j right.turn.backs) (backward-forward (view_of l y).back j r j p)
        (λ c m. agree-back c (ring-reverse j s m))
        (λ c m q.
        reverse-in s (stay-by (view_of l y).back r f.nodes v.idents
        (λ m t hm n nt d ct cr a b.
        no-paths l y m j hm h n (view_of l y).back (reverse t) (reverse r) d (all-reverse (Node l) t nt) (all-reverse (Node l) r f.nodes)
        (reverse-in t ct) (reverse-in r cr) (backward-forward (view_of l y).back m t m b) (backward-forward (view_of l y).back j r j p))
        c (ring-reverse j s m) (in-reverse r q)))
        (length-reverse r ∙ e ∙ sym (length-reverse s)) in
        sym (reverse-reverse r) ∙ ap reverse z ∙ reverse-reverse s

    -- so another that fits is not as long
    as_long : (r : List ℕ) → Fits l y j r → length r ≡ length s → r ≡ s
    as_long r f e = by (sequence-dec r s)
      where
        by : Dec (r ≡ s) → r ≡ s
        by (yes q) = q
        by (no n) =
            ⊎_elim (λ v. by-forward r f v.first e (right-forward l y j r v.forward))
            (λ v. by-back r f v.second e (right-backward l y j r v.back)) (rivals l y j h r s f altered-fits n)

    -- and s is chosen: another fits only where a link is altered, and there the count is right
    pub altered-chosen : Chosen l y j s
    altered-chosen = by (goes j alt)
      where
        by_count : Spared j alt count_word → Chosen l y j s
        by_count n = let c = count-right n in counted c (λ r f d. as_long r f (sym d ∙ c))

        by : Goes j alt → Chosen l y j s
        by (no_link f b) = own-chosen l y j h s (settled f b)
        by (one_forward i b n) = by_count n
        by (one_back i f n) = by_count n
