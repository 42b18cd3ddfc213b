-- The only candidates are the forward and the back walk; a sequence of nodes with at most one wrong word beside the count has different members;
-- and the decision is the document's: none fits, one is chosen, or none of several.
use Prim.Native.Nat.{ℕ, ◌+◌, ◌<◌, ◌≤◌}
use mathlib.Core.Path.{◌≡◌, refl, ap, ◌∙◌, sym, subst}
use mathlib.Core.List.{List, [], ◌∷◌, ◌++◌}
use mathlib.Core.Bool.{Bool, true, false, and-eq-true_iff, true≢false, false≢true}
use mathlib.Core.Logic.{◌⊎◌, inl, inr, ⊎_elim}
use native.Mathlib.Decide.{ℕ_discrete}
use native.Mathlib.Omega.{arith}
use lib.Dec.{eqb}
use lib.ListN.{length, get_or}
use borrow.Author.Tests.{eq-eqb, eqb-true, eqb-false, leb-true, leb-false}
use Rattle.sequences.specs.Sequence.{All, Different, Step, steps, Forward, Backward, trail}
use Rattle.sequences.proofs.Trail.{trail-inside, leads-trail, leads-different}
use Rattle.sequences.proofs.Reversed.{all-reverse, backs-trail, backs-different}
use Rattle.stores.specs.Stores.{write}
use Rattle.layout.specs.declared.Layout.{Layout}
use Rattle.layout.specs.Words.{Node, is_node, ident_of, ident_at, forward_at, back_at}
use Rattle.lists.specs.Lists.{idents_asked, forwards_asked, backs_asked, count_asked, others_asked}
use Rattle.lists.specs.Decide.{view_of, count_in, sequence_of}
use Rattle.lists.proofs.Agree.{all_map, map-all}
use Rattle.lists.proofs.Unique.{header-out, nodes-few, all-nodes, nodes-all}
use Rattle.recovery.specs.Fits.{wrong, Fits, Counted, Chosen, alone, counted, Two, backward_of, few_wrong, same, has_count, Fit, none, only, several, by_count, fitting, fit_of, Says}
use Rattle.recovery.specs.Plan.{Accepted}
use Rattle.recovery.proofs.Required.{Right, wrong-length, agrees-wrong, wrong-agrees}

-- equality of sequences, decided
pub same-yes : (s t : List ℕ) → same s t ≡ true → s ≡ t
unfolding same
same-yes [] [] e = refl
same-yes [] (y ∷ t) e = absurd (false≢true e)
same-yes (x ∷ s) [] e = absurd (false≢true e)
same-yes (x ∷ s) (y ∷ t) e =
    let b = (and-eq-true_iff (eqb x y) (same s t)).0 e in
    ap (λ (c : ℕ). c ∷ s) (eqb-true x y b.0) ∙ ap (λ (u : List ℕ). y ∷ u) (same-yes s t b.1)

pub same_refl : (s : List ℕ) → same s s ≡ true
unfolding same
same_refl [] = refl
same_refl (x ∷ s) = (and-eq-true_iff (eqb x x) (same s s)).1 (eq-eqb x x refl, same_refl s)

pub sequence-dec : (s t : List ℕ) → Dec (s ≡ t)
sequence-dec s t = by (same s t) refl
  where
    by : (b : Bool) → same s t ≡ b → Dec (s ≡ t)
    by true e = yes (same-yes s t e)
    by false e = no (λ q. true≢false (sym (same_refl s) ∙ ap (same s) q ∙ e))

-- the kinds of words that are asked, counted
module _ (l : Layout) (w : List ℕ) (k : ℕ) (s : List ℕ) where
  pub wrong-others
      : length (wrong w (others_asked l k s))
      ≡ length (wrong w (idents_asked l k s)) + (length (wrong w (forwards_asked l k s)) + length (wrong w (backs_asked l k s)))
  wrong-others =
      wrong-length w (idents_asked l k s) (forwards_asked l k s ++ backs_asked l k s)
      ∙ ap (λ (n : ℕ). length (wrong w (idents_asked l k s)) + n) (wrong-length w (forwards_asked l k s) (backs_asked l k s))

  -- all links of a kind are right
  pub right-forward : length (wrong w (forwards_asked l k s)) ≡ 0 → Forward (view_of l w).forward k s k
  right-forward e =
      all_map (Right w) (λ (p : Step). write (forward_at l p.source) p.target) (steps k s k) (wrong-agrees w (forwards_asked l k s) e)

  pub right-backward : length (wrong w (backs_asked l k s)) ≡ 0 → Backward (view_of l w).back k s k
  right-backward e =
      all_map (Right w) (λ (p : Step). write (back_at l p.target) p.source) (steps k s k) (wrong-agrees w (backs_asked l k s) e)

  pub forward-right : Forward (view_of l w).forward k s k → length (wrong w (forwards_asked l k s)) ≡ 0
  forward-right h =
      ap length (agrees-wrong w (forwards_asked l k s) (map-all (Right w) (λ (p : Step). write (forward_at l p.source) p.target) (steps k s k) h))

  pub right-idents : length (wrong w (idents_asked l k s)) ≡ 0 → (get_or w (ident_at l k) 0 ≡ ident_of k) × All (λ c. get_or w (ident_at l c) 0 ≡ ident_of k) s
  right-idents e =
      let r = all_map (Right w) (λ c. write (ident_at l c) (ident_of k)) (k ∷ s) (wrong-agrees w (idents_asked l k s) e) in
      (r.0, r.1)

  pub right-count : length (wrong w (count_asked l k s)) ≡ 0 → count_in l w k ≡ length s
  right-count e = (wrong-agrees w (count_asked l k s) e).0

  -- with at most one wrong word beside the count, all forward links are right or all back links
  pub few-links
      : length (wrong w (others_asked l k s)) ≤ 1 → (length (wrong w (forwards_asked l k s)) ≡ 0) ⊎ (length (wrong w (backs_asked l k s)) ≡ 0)
  few-links h =
      elim (ℕ_discrete (length (wrong w (forwards_asked l k s))) 0) [ yes e ↦ inl e | no n ↦ inr (omega (arith, wrong-others, n)) ]

  -- so its members are different by themselves
  pub few-different : k < l.lists → All (Node l) s → length (wrong w (others_asked l k s)) ≤ 1 → Different s
  few-different h n f =
      ⊎_elim
      (λ e. leads-different (view_of l w).forward (is_node l) k s k (nodes-all l s n) (header-out l k h) (right-forward e))
      (λ e. backs-different (view_of l w).back (is_node l) k s k (nodes-all l s n) (header-out l k h) (right-backward e))
      (few-links f)

  pub few-fits : k < l.lists → All (Node l) s → length (wrong w (others_asked l k s)) ≤ 1 → Fits l w k s
  few-fits h n f = record { nodes = n; different = few-different h n f; few = f }

-- a list has two candidates at most
module _ (l : Layout) (w : List ℕ) (k : ℕ) (h : k < l.lists) where
  pub forward-candidate : (s : List ℕ) → Fits l w k s → length (wrong w (forwards_asked l k s)) ≡ 0 → sequence_of l w k ≡ s
  forward-candidate s f e =
      leads-trail (view_of l w).forward (is_node l) l.nodes k s k (nodes-all l s f.nodes) (header-out l k h)
      (right-forward l w k s e) (nodes-few l s f.nodes f.different)

  pub back-candidate : (s : List ℕ) → Fits l w k s → length (wrong w (backs_asked l k s)) ≡ 0 → backward_of l w k ≡ s
  back-candidate s f e =
      backs-trail (view_of l w).back (is_node l) l.nodes k s k (nodes-all l s f.nodes) (header-out l k h)
      (right-backward l w k s e) (nodes-few l s f.nodes f.different)

  pub candidates : (s : List ℕ) → Fits l w k s → (sequence_of l w k ≡ s) ⊎ (backward_of l w k ≡ s)
  candidates s f =
      ⊎_elim (λ e. inl (forward-candidate s f e)) (λ e. inr (back-candidate s f e)) (few-links l w k s f.few)

  -- what a sequence that fits has right beside another that fits: its identifiers. Of the count nothing follows.
  pub record Whole (s : List ℕ) : Type 0 where
    pub header : get_or w (ident_at l k) 0 ≡ ident_of k
    pub idents : All (λ c. get_or w (ident_at l c) 0 ≡ ident_of k) s

  pub record Rivals (s r : List ℕ) : Type 0 where
    pub first : Whole s
    pub second : Whole r
    pub forward : length (wrong w (forwards_asked l k s)) ≡ 0
    pub back : length (wrong w (backs_asked l k r)) ≡ 0

  whole : (s : List ℕ) → length (wrong w (idents_asked l k s)) ≡ 0 → Whole s
  whole s e = let i = right-idents l w k s e in record { header = i.0; idents = i.1 }

  rest-right : (s : List ℕ) → Fits l w k s → (length (wrong w (forwards_asked l k s)) ≡ 0 → ⊥) ⊎ (length (wrong w (backs_asked l k s)) ≡ 0 → ⊥) → Whole s
  rest-right s f (inl d) = whole s (omega (arith, wrong-others l w k s, f.few))
  rest-right s f (inr d) = whole s (omega (arith, wrong-others l w k s, f.few))

  pub rivals : (s r : List ℕ) → Fits l w k s → Fits l w k r → (s ≡ r → ⊥) → Rivals s r ⊎ Rivals r s
  rivals s r f g n = by (few-links l w k s f.few) (few-links l w k r g.few)
    where
      one : (s r : List ℕ) → Fits l w k s → Fits l w k r → (s ≡ r → ⊥)
          → length (wrong w (forwards_asked l k s)) ≡ 0 → length (wrong w (backs_asked l k r)) ≡ 0 → Rivals s r
      one s r f g n a b =
          record {
            first = rest-right s f (inr (λ e. n (sym (back-candidate s f e) ∙ back-candidate r g b)));
            second = rest-right r g (inl (λ e. n (sym (forward-candidate s f a) ∙ forward-candidate r g e)));
            forward = a;
            back = b;
          }

      by : (length (wrong w (forwards_asked l k s)) ≡ 0) ⊎ (length (wrong w (backs_asked l k s)) ≡ 0)
          → (length (wrong w (forwards_asked l k r)) ≡ 0) ⊎ (length (wrong w (backs_asked l k r)) ≡ 0) → Rivals s r ⊎ Rivals r s
      by (inl a) (inl b) = absurd (n (sym (forward-candidate s f a) ∙ forward-candidate r g b))
      by (inl a) (inr b) = inl (one s r f g n a b)
      by (inr a) (inl b) = inr (one r s g f (λ e. n (sym e)) b a)
      by (inr a) (inr b) = absurd (n (sym (back-candidate s f a) ∙ back-candidate r g b))

  -- the candidates are nodes
  pub forward-nodes : All (Node l) (sequence_of l w k)
  forward-nodes = all-nodes l (sequence_of l w k) (trail-inside (view_of l w).forward (is_node l) l.nodes ((view_of l w).forward k))

  pub back-nodes : All (Node l) (backward_of l w k)
  back-nodes =
      all-nodes l (backward_of l w k)
      (all-reverse (λ x. is_node l x ≡ true) (trail (view_of l w).back (is_node l) l.nodes ((view_of l w).back k))
      (trail-inside (view_of l w).back (is_node l) l.nodes ((view_of l w).back k)))

  fits-yes : (s : List ℕ) → All (Node l) s → few_wrong l w k s ≡ true → Fits l w k s
  unfolding few_wrong
  fits-yes s n e = few-fits l w k s h n (leb-true _ _ e)

  fits-no : (s : List ℕ) → few_wrong l w k s ≡ false → Fits l w k s → ⊥
  unfolding few_wrong
  fits-no s e f = omega (arith, leb-false (length (wrong w (others_asked l k s))) 1 e, f.few)

  counted-yes : (s : List ℕ) → has_count l w k s ≡ true → Counted l w k s
  unfolding has_count
  counted-yes s e = eqb-true _ _ e

  counted-no : (s : List ℕ) → has_count l w k s ≡ false → Counted l w k s → ⊥
  unfolding has_count
  counted-no s e = eqb-false _ _ e

  -- the two candidates
  abbrev F : List ℕ
  F = sequence_of l w k

  abbrev B : List ℕ
  B = backward_of l w k

  -- where one does not fit, the other is the only one that can
  not_back : few_wrong l w k B ≡ false → (r : List ℕ) → Fits l w k r → r ≡ F
  not_back q r f = ⊎_elim (λ d. sym d) (λ d. absurd (fits-no B q (subst (Fits l w k) (sym d) f))) (candidates r f)

  not-forward : few_wrong l w k F ≡ false → (r : List ℕ) → Fits l w k r → r ≡ B
  not-forward p r f = ⊎_elim (λ d. absurd (fits-no F p (subst (Fits l w k) (sym d) f))) (λ d. sym d) (candidates r f)

  -- where both fit and are two, the count decides
  two : Fits l w k F → Fits l w k B → (F ≡ B → ⊥) → (m n : Bool) → has_count l w k F ≡ m → has_count l w k B ≡ n → Says l w k (by_count m n F B)
  two f b apart true true x y = ((F, B, f, b, apart), inr (F, B, (f, counted-yes F x), (b, counted-yes B y), apart))
  two f b apart true false x y = (
    f,
    counted (counted-yes F x) (λ r g c. ⊎_elim (λ d. sym d) (λ d. absurd (counted-no B y (subst (Counted l w k) (sym d) c))) (candidates r g)),
  )
  two f b apart false true x y = (
    b,
    counted (counted-yes B y) (λ r g c. ⊎_elim (λ d. absurd (counted-no F x (subst (Counted l w k) (sym d) c))) (λ d. sym d) (candidates r g)),
  )
  two f b apart false false x y = (
    (F, B, f, b, apart),
    inl (λ s g c.
        ⊎_elim (λ d. counted-no F x (subst (Counted l w k) (sym d) c)) (λ d. counted-no B y (subst (Counted l w k) (sym d) c)) (candidates s g)),
  )

  -- the decision is what the document says
  pub decided : Says l w k (fit_of l w k)
  unfolding fit_of
  decided =
      by (few_wrong l w k F) refl (few_wrong l w k B) refl (same F B) refl (has_count l w k F) refl (has_count l w k B) refl
    where
      by : (a : Bool) → few_wrong l w k F ≡ a → (b : Bool) → few_wrong l w k B ≡ b → (c : Bool) → same F B ≡ c
          → (m : Bool) → has_count l w k F ≡ m → (n : Bool) → has_count l w k B ≡ n → Says l w k (fitting a b c m n F B)
      by true p true q true e m x n y = (
        fits-yes F forward-nodes p,
        alone (λ r f. ⊎_elim (λ d. sym d) (λ d. sym d ∙ sym (same-yes F B e)) (candidates r f)),
      )
      by true p true q false e m x n y =
          two (fits-yes F forward-nodes p) (fits-yes B back-nodes q) (λ d. true≢false (sym (same_refl F) ∙ ap (same F) d ∙ e)) m n x y
      by true p false q c e m x n y = (fits-yes F forward-nodes p, alone (not_back q))
      by false p true q c e m x n y = (fits-yes B back-nodes q, alone (not-forward p))
      by false p false q c e m x n y = (λ r f. fits-no F p (subst (Fits l w k) (not_back q r f) f))

  -- what is chosen, beside each other sequence that fits: its length is the count, the other's is not
  pub chosen-beside : (s : List ℕ) → Chosen l w k s → (r : List ℕ) → Fits l w k r → (r ≡ s) ⊎ (Counted l w k s × (Counted l w k r → ⊥))
  chosen-beside s (alone u) r f = inl (u r f)
  chosen-beside s (counted c u) r f = elim (ℕ_discrete (count_in l w k) (length r)) [ yes e ↦ inl (u r f e) | no n ↦ inr (c, n) ]

  -- and the other way round, by the two candidates
  pub beside-chosen : (s : List ℕ) → Fits l w k s → ((r : List ℕ) → Fits l w k r → (r ≡ s) ⊎ (Counted l w k s × (Counted l w k r → ⊥)))
      → fit_of l w k ≡ only s
  beside-chosen s f h = by (fit_of l w k) decided
    where
      -- of two that are different one is not s
      one-other : (P : List ℕ → Type 0) → Two P → (r : List ℕ) × P r × (r ≡ s → ⊥)
      one-other P (a, b, p, q, n) = elim (sequence-dec a s) [ yes e ↦ (b, q, λ d. n (e ∙ sym d)) | no d ↦ (a, p, d) ]

      by : (x : Fit) → Says l w k x → x ≡ only s
      by none d = absurd (d s f)
      by (only t) d = ap only (⊎_elim (λ e. e) (λ c. absurd (elsewhere c (chosen-beside t d.1 s f))) (h t d.0))
        where
          elsewhere : Counted l w k s × (Counted l w k t → ⊥) → (s ≡ t) ⊎ (Counted l w k t × (Counted l w k s → ⊥)) → ⊥
          elsewhere c (inl e) = c.1 (subst (Counted l w k) e c.0)
          elsewhere c (inr e) = c.1 e.0
      by several d =
          let o = one-other (Fits l w k) d.0 in
          let c = ⊎_elim (λ e. absurd (o.2 e)) (λ c. c) (h o.0 o.1) in
          absurd (⊎_elim (λ z. z s f c.0) (λ z. let q = one-other _ z in ⊎_elim (λ e. q.2 e) (λ x. x.1 q.1.1) (h q.0 q.1.0)) d.1)

-- a decision for every list
pub fit-accepted : (l : Layout) (w : List ℕ) (s : ℕ → List ℕ) → ((k : ℕ) → k < l.lists → fit_of l w k ≡ only (s k)) → Accepted l w s
fit-accepted l w s e =
    record { fits = λ k h. (told k h).0; chosen = λ k h. (told k h).1 }
  where
    told : (k : ℕ) (h : k < l.lists) → Fits l w k (s k) × Chosen l w k (s k)
    told k h = subst (Says l w k) (e k h) (decided l w k h)

pub accepted-fit : (l : Layout) (w : List ℕ) (s : ℕ → List ℕ) → Accepted l w s → (k : ℕ) → k < l.lists → fit_of l w k ≡ only (s k)
accepted-fit l w s a k h = beside-chosen l w k h (s k) (a.fits k h) (chosen-beside l w k h (s k) (a.chosen k h))
