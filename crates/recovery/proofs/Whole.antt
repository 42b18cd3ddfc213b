-- A store that recovery accepts: what its plan is, that a whole run leaves it sound, and that a sound store needs no store.
use Prim.Native.Nat.{ℕ, zero, suc, ◌+◌, ◌*◌, ◌<◌, ◌≤◌}
use mathlib.Core.Path.{◌≡◌, refl, ap, ap₂, ◌∙◌, sym, subst}
use mathlib.Core.List.Memᴰ
use mathlib.Core.List.{List, [], ◌∷◌, ◌++◌, map}
use mathlib.Core.Logic.{⊎_elim}
use native.Mathlib.Decide.{ℕ_discrete}
use native.Mathlib.Omega.{arith}
use native.Mathlib.Nat.{eq-or-lt_of_le, mul-zero, mul-suc, mul-le-mul_left}
use lib.ListN.{length, get_or, replicate, length-map, length-append, length-replicate}
use borrow.Author.Tests.{eq-eqb, eqb-true}
use Rattle.sequences.specs.Sequence.{◌∈◌, All}
use Rattle.sequences.proofs.Members.{all_in, in_all, all_append, append-all}
use Rattle.stores.specs.Stores.{Write, write, run, stores}
use Rattle.stores.proofs.Laws.{run-word, length-row}
use Rattle.std.specs.Prelude.{None, Ok}
use Rattle.layout.specs.declared.Layout.{Layout}
use Rattle.layout.specs.Words.{tail_words, first_node, Node, size_of, ident_at, record_at, worn_ident, Unlisted, free, worn, is_worn, opened}
use Rattle.lists.specs.Lists.{asked, others_asked, count_asked, Agrees, IsList, SoundLists, Blank, blank_asked, Wiped}
use Rattle.lists.specs.Decide.{view_of}
use Rattle.lists.proofs.Blank.{agrees-blank}
use Rattle.recovery.specs.Fits.{wrong, Fits, alone, Fit, none, only, several, fit_of}
use Rattle.recovery.specs.Plan.{joined, out_of, nodes_out, lists_asked, clears_asked, blanks_asked, wipes_asked, required, recover_stores, most_stores, only_of, fitting_of, fit_refusal, refusal_from, recover_of, recover_plan, Accepted}
use Rattle.recovery.proofs.Candidates.{accepted-fit, fit-accepted}
use Rattle.recovery.proofs.Required.{Right, wrong-append, wrong-length, agrees-wrong, wrong-in, wrong-most, wrong-agreed}
use Rattle.recovery.proofs.Joined.{one-joined, joined-one, joined_same, is-out, out-few}
use Rattle.recovery.proofs.Count.{in-lists, in-clears, in-wipes, required-once, required-inside}
use Rattle.recovery.proofs.Suffix.{right_unique, worn-kept}

-- no list is refused
pub accepted-unrefused : (l : Layout) (w : List ℕ) (s : ℕ → List ℕ) → Accepted l w s → (k n : ℕ) → k + n ≤ l.lists → refusal_from l w k n ≡ None
unfolding refusal_from
accepted-unrefused l w s a k zero h = refl
accepted-unrefused l w s a k (suc n) h =
    ap (λ (f : Fit). fit_refusal f (refusal_from l w (suc k) n)) (accepted-fit l w s a k (omega arith)) ∙ accepted-unrefused l w s a (suc k) n (omega arith)

-- and the other way round: each list has its sequence
all-only : (l : Layout) (w : List ℕ) (k n : ℕ) → refusal_from l w k n ≡ None → (j : ℕ) → k ≤ j → j < k + n → fit_of l w j ≡ only (fitting_of l w j)
unfolding refusal_from
all-only l w k zero e j p q = absurd (omega arith)
all-only l w k (suc n) e j p q =
    let r = by (fit_of l w k) e in
    ⊎_elim (λ z. subst (λ (i : ℕ). fit_of l w i ≡ only (fitting_of l w i)) z r.0) (λ z. all-only l w (suc k) n r.1 j z (omega arith)) (eq-or-lt_of_le p)
  where
    by : (f : Fit) → fit_refusal f (refusal_from l w (suc k) n) ≡ None → (f ≡ only (only_of f)) × (refusal_from l w (suc k) n ≡ None)
    by none e = let z : ◌≡◌ {A = ℕ} 0 1 = cc in absurd (omega arith)
    by (only s) e = (refl, e)
    by several e = let z : ◌≡◌ {A = ℕ} 0 1 = cc in absurd (omega arith)

pub unrefused-accepted : (l : Layout) (w : List ℕ) → refusal_from l w 0 l.lists ≡ None → Accepted l w (fitting_of l w)
unrefused-accepted l w e = fit-accepted l w (fitting_of l w) (λ k h. all-only l w 0 l.lists e k (omega arith) (omega arith))

-- sequences that agree below L require the same words, and give one plan
pub required-same : (l : Layout) (w : List ℕ) (s t : ℕ → List ℕ) → ((k : ℕ) → k < l.lists → s k ≡ t k) → required l w s ≡ required l w t
required-same l w s t h =
    ap₂ ◌++◌ (joined_same (λ k. asked l k (s k)) (λ k. asked l k (t k)) l.lists (λ k q. ap (asked l k) (h k q)))
    (ap (λ (cs : List ℕ). map (λ c. write (ident_at l c) 0) cs ++ blanks_asked l cs)
    (ap (λ (ms : List ℕ). out_of (view_of l w).ident ms (first_node l) l.nodes) (joined_same s t l.lists h)))

pub plan-same : (l : Layout) (w : List ℕ) (s t : ℕ → List ℕ) → ((k : ℕ) → k < l.lists → s k ≡ t k) → recover_stores l w s ≡ recover_stores l w t
plan-same l w s t h = ap (wrong w) (required-same l w s t h)

-- the plan of an accepted store
accepted-stores : (l : Layout) (w : List ℕ) (s : ℕ → List ℕ) → Accepted l w s → recover_of l w ≡ stores (recover_stores l w s)
unfolding recover_of
accepted-stores l w s a =
    rw (accepted-unrefused l w s a 0 l.lists (omega arith))
    (ap stores (plan-same l w (fitting_of l w) s (λ k h. ap only_of (accepted-fit l w s a k h))))

pub accepted-plan : (l : Layout) (w : List ℕ) (s : ℕ → List ℕ) → opened w ≡ Ok l → Accepted l w s → recover_plan w ≡ stores (recover_stores l w s)
unfolding recover_plan
accepted-plan l w s o a = rw o (accepted-stores l w s a)

-- nothing is to be cleared where every node in no sequence is free or worn
pub clear_none : (l : Layout) (w : List ℕ) (s : ℕ → List ℕ) → ((c : ℕ) → Node l c → (c ∈ joined s l.lists → ⊥) → Unlisted (get_or w (ident_at l c) 0))
    → Agrees w (clears_asked l w s)
clear_none l w s h =
    in_all (Right w) (clears_asked l w s)
    (λ p m. let c = in-clears l w s m in subst (Right w) c.4 (unworn c.0 c.3 (h c.0 c.1 c.2)))
  where
    unworn : (c : ℕ) → (get_or w (ident_at l c) 0 ≡ worn_ident → ⊥) → Unlisted (get_or w (ident_at l c) 0) → get_or w (ident_at l c) 0 ≡ 0
    unworn c n (free z) = z
    unworn c n (worn z) = absurd (n z)

-- and nothing to be wiped where every such node that is not worn has a blank record
pub wipe-none : (l : Layout) (w y : List ℕ) (s : ℕ → List ℕ)
    → ((c : ℕ) → Node l c → (c ∈ joined s l.lists → ⊥) → (get_or w (ident_at l c) 0 ≡ worn_ident → ⊥) → Blank l y c)
    → Agrees y (wipes_asked l w s)
wipe-none l w y s h =
    in_all (Right y) (wipes_asked l w s)
    (λ p m. let c = in-wipes l w s m in let f = c.4 in subst (Right y) (sym f.2) (h c.0 c.1 c.2 c.3 f.0 f.1))

-- an ordered store holds all that its sequences require of the lists and of identifiers, and a sound one all they require
module _ (l : Layout) (w : List ℕ) (x : SoundLists l w) where
  abbrev Out : ℕ → Type 0
  Out c = c ∈ joined x.sequence l.lists → ⊥

  no_member : (c : ℕ) → Out c → (k : ℕ) → k < l.lists → c ∈ x.sequence k → ⊥
  no_member c o k h m = o (one-joined x.sequence l.lists k c h m)

  pub ordered-agrees : Agrees w (lists_asked l x.sequence) × Agrees w (clears_asked l w x.sequence)
  ordered-agrees = (
    in_all (Right w) (lists_asked l x.sequence)
        (λ p m. let k = in-lists l w x.sequence m in all_in (Right w) (asked l k.0 (x.sequence k.0)) (x.lists k.0 k.1).agrees k.2),
    clear_none l w x.sequence (λ c n o. x.outside c n (no_member c o)),
  )

  pub sound-agrees : Wiped l w x.sequence → Agrees w (required l w x.sequence)
  sound-agrees h =
      all_append (Right w) (lists_asked l x.sequence) (clears_asked l w x.sequence ++ wipes_asked l w x.sequence) ordered-agrees.0
      (all_append (Right w) (clears_asked l w x.sequence) (wipes_asked l w x.sequence) ordered-agrees.1
      (wipe-none l w w x.sequence (λ c n o. h c n (no_member c o))))

-- of blank records, one
blanks-one : (l : Layout) (y cs : List ℕ) → Agrees y (blanks_asked l cs) → (c : ℕ) → c ∈ cs → Agrees y (blank_asked l c)
unfolding blanks_asked
blanks-one l y (d ∷ cs) h c (Memᴰ.head e) =
    subst (λ (b : ℕ). Agrees y (blank_asked l b)) (sym e) (append-all (Right y) (blank_asked l d) (blanks_asked l cs) h).0
blanks-one l y (d ∷ cs) h c (Memᴰ.tail m) = blanks-one l y cs (append-all (Right y) (blank_asked l d) (blanks_asked l cs) h).1 c m
blanks-one l y [] h c x'' = elim x'' [ ]

-- a store y that holds what is required of w, in which the same nodes are worn, is ordered, and sound if it holds all
module _ (l : Layout) (w y : List ℕ) (s : ℕ → List ℕ) (a : Accepted l w s)
    (same : (c : ℕ) → Node l c → (c ∈ joined s l.lists → ⊥) → is_worn (get_or y (ident_at l c) 0) ≡ is_worn (get_or w (ident_at l c) 0)) where
  out : (c : ℕ) → ((k : ℕ) → k < l.lists → c ∈ s k → ⊥) → c ∈ joined s l.lists → ⊥
  out c o m = let k = joined-one s l.lists c m in o k.0 k.1 k.2

  -- a node in no list that is not worn, before or after
  is-out-of : (c : ℕ) → Node l c → (c ∈ joined s l.lists → ⊥) → (get_or w (ident_at l c) 0 ≡ worn_ident → ⊥) → c ∈ nodes_out l w s
  is-out-of c n o z = is-out (view_of l w).ident (joined s l.lists) (first_node l) l.nodes c n.low n.high o z

  pub agrees-lists : Agrees y (lists_asked l s) → Agrees y (clears_asked l w s) → (x : SoundLists l y) × (x.sequence ≡ s)
  agrees-lists h g = (
    record {
      sequence = s;
      lists =
          λ k q.
          record {
            nodes = (a.fits k q).nodes;
            different = (a.fits k q).different;
            agrees =
                in_all (Right y) (asked l k (s k))
                (λ p m. all_in (Right y) (lists_asked l s) h (one-joined (λ j. asked l j (s j)) l.lists k p q m));
          };
      outside = λ c n o. by c n (out c o) (ℕ_discrete (get_or w (ident_at l c) 0) worn_ident);
    },
    refl,
  )
    where
      by : (c : ℕ) → Node l c → (c ∈ joined s l.lists → ⊥) → Dec (get_or w (ident_at l c) 0 ≡ worn_ident) → Unlisted (get_or y (ident_at l c) 0)
      by c n o (yes z) = worn (eqb-true _ worn_ident (same c n o ∙ eq-eqb _ worn_ident z))
      by c n o (no z) = free (all_in (Right y) (clears_asked l w s) g (Memᴰ.map (λ c. write (ident_at l c) 0) (is-out-of c n o z)))

  pub agrees-wiped : Agrees y (wipes_asked l w s) → Wiped l y s
  agrees-wiped h c n o z =
      agrees-blank l y c
      (blanks-one l y (nodes_out l w s) h c
      (is-out-of c n (out c o) (λ e. z (eqb-true _ worn_ident (same c n (out c o) ∙ eq-eqb _ worn_ident e)))))

-- so a whole run leaves an accepted store sound
module _ (l : Layout) (w : List ℕ) (s : ℕ → List ℕ) (e : length w ≡ size_of l) (a : Accepted l w s) where
  abbrev Final : List ℕ
  Final = run (recover_stores l w s) w

  agreed : Agrees Final (required l w s)
  agreed = wrong-agreed (required l w s) (required-once l w s a.fits) w (required-inside l w s a.fits e)

  same-worn : (c : ℕ) → Node l c → (c ∈ joined s l.lists → ⊥) → is_worn (get_or Final (ident_at l c) 0) ≡ is_worn (get_or w (ident_at l c) 0)
  same-worn = worn-kept l w s a Final (run-word (recover_stores l w s) w)

  outs : Agrees Final (clears_asked l w s) × Agrees Final (wipes_asked l w s)
  outs = append-all (Right Final) (clears_asked l w s) (wipes_asked l w s) (append-all (Right Final) (lists_asked l s) _ agreed).1

  pub whole-sound : (x : SoundLists l Final) × (x.sequence ≡ s)
  whole-sound = agrees-lists l w Final s a same-worn (append-all (Right Final) (lists_asked l s) _ agreed).0 outs.0

  pub whole-wiped : Wiped l Final s
  whole-wiped = agrees-wiped l w Final s a same-worn outs.1

-- where every list has all its words, each has only one sequence that fits
pub lists-accepted : (l : Layout) (w : List ℕ) (s : ℕ → List ℕ) → ((k : ℕ) → k < l.lists → IsList l w k (s k)) → Accepted l w s
unfolding asked
lists-accepted l w s i =
    record { fits = fits; chosen = λ k h. alone (right_unique l w k h (s k) (fits k h) (none k h)) }
  where
    none : (k : ℕ) → k < l.lists → wrong w (others_asked l k (s k)) ≡ []
    none k h = agrees-wrong w (others_asked l k (s k)) (append-all (Right w) (others_asked l k (s k)) (count_asked l k (s k)) (i k h).agrees).0

    fits : (k : ℕ) → k < l.lists → Fits l w k (s k)
    fits k h = record { nodes = (i k h).nodes; different = (i k h).different; few = omega (arith, ap length (none k h)) }

-- so a sound store needs no store
pub sound-accepted : (l : Layout) (w : List ℕ) (x : SoundLists l w) → Accepted l w x.sequence
sound-accepted l w x = lists-accepted l w x.sequence x.lists

pub sound-settled : (l : Layout) (w : List ℕ) (x : SoundLists l w) → Wiped l w x.sequence → recover_stores l w x.sequence ≡ []
sound-settled l w x h = agrees-wrong w (required l w x.sequence) (sound-agrees l w x h)

-- and an ordered one the wipes alone
pub ordered-wipes : (l : Layout) (w : List ℕ) (x : SoundLists l w) → recover_stores l w x.sequence ≡ wrong w (wipes_asked l w x.sequence)
ordered-wipes l w x =
    let h = ordered-agrees l w x in
    let s = x.sequence in
    wrong-append w (lists_asked l s) (clears_asked l w s ++ wipes_asked l w s)
    ∙ ap₂ ◌++◌ (agrees-wrong w (lists_asked l s) h.0)
    (wrong-append w (clears_asked l w s) (wipes_asked l w s) ∙ ap (λ (ps : List Write). ps ++ wrong w (wipes_asked l w s)) (agrees-wrong w (clears_asked l w s) h.1))

-- the words of blank records: as many as the cells' tails have, and those of one cell are among them
length-blanks : (l : Layout) (cs : List ℕ) → length (blanks_asked l cs) ≡ tail_words l * length cs
unfolding blanks_asked
length-blanks l [] = sym (mul-zero (tail_words l))
length-blanks l (c ∷ cs) =
    omega (
      arith,
      length-append (blank_asked l c) (blanks_asked l cs),
      length-row (record_at l c) (replicate (tail_words l) 0),
      length-replicate {A = ℕ} (tail_words l) 0,
      length-blanks l cs,
      mul-suc (tail_words l) (length cs),
    )

-- a plan has two stores at most for each list, one for each node's identifier and one for each record word
module _ (l : Layout) (w : List ℕ) (s : ℕ → List ℕ) (a : Accepted l w s) where
  lists-few : (n : ℕ) → n ≤ l.lists → length (wrong w (joined (λ k. asked l k (s k)) n)) ≤ 2 * n
  unfolding joined wrong asked
  lists-few zero h = omega arith
  lists-few (suc n) h =
      omega (
        arith,
        wrong-length w (joined (λ k. asked l k (s k)) n) (asked l n (s n)),
        wrong-length w (others_asked l n (s n)) (count_asked l n (s n)),
        (a.fits n (omega arith)).few,
        wrong-most w (count_asked l n (s n)),
        lists-few n (omega arith),
      )

  pub few-stores : length (recover_stores l w s) ≤ most_stores l
  few-stores =
      let few = out-few (view_of l w).ident (joined s l.lists) (first_node l) l.nodes in
      omega (
        arith,
        wrong-length w (lists_asked l s) (clears_asked l w s ++ wipes_asked l w s),
        wrong-length w (clears_asked l w s) (wipes_asked l w s),
        lists-few l.lists (omega arith),
        wrong-most w (clears_asked l w s),
        wrong-most w (wipes_asked l w s),
        length-map (nodes_out l w s) (λ c. write (ident_at l c) 0),
        length-blanks l (nodes_out l w s),
        mul-le-mul_left (tail_words l) few,
        few,
      )

  -- every store of the plan goes to a word of the store
  pub stores-inside : length w ≡ size_of l → All (λ (p : Write). p.at < length w) (recover_stores l w s)
  stores-inside e =
      in_all (λ (p : Write). p.at < length w) (recover_stores l w s)
      (λ p m. all_in (λ (q : Write). q.at < length w) (required l w s) (required-inside l w s a.fits e) (wrong-in w (required l w s) m).0)
