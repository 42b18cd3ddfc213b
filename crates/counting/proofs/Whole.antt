-- A list with its count and one identifier altered comes back whole: both words are required as they were, and nothing else was altered.
use Prim.Native.Nat.{ℕ, ◌+◌, ◌<◌, ◌≤◌}
use mathlib.Core.Path.{◌≡◌, refl, ap, ◌∙◌, sym, subst}
use mathlib.Core.List.Memᴰ
use mathlib.Core.List.{List, ◌∷◌, ◌++◌, map, Memᴰ}
use mathlib.Core.Logic.{◌⊎◌, inl, inr, ⊎_elim}
use native.Mathlib.Decide.{ℕ_discrete}
use native.Mathlib.Omega.{arith}
use lib.ListN.{length, get_or, set, length-set}
use lib.Seq.{get_or-set_other}
use Rattle.std.specs.Prelude.{Ok}
use Rattle.sequences.specs.Sequence.{◌∈◌}
use Rattle.sequences.proofs.Members.{all_in}
use Rattle.calls.specs.Answers.{answer_of}
use Rattle.stores.specs.declared.Outcome.TheVariants.{Done}
use Rattle.stores.specs.Stores.{Write, write, run, Plan, words_after}
use Rattle.stores.proofs.Outcomes.{outcome-done}
use Rattle.stores.proofs.Laws.{run-word, length_run, applied-all}
use Rattle.layout.specs.declared.Layout.{Layout}
use Rattle.layout.specs.Words.{link_words, count_word, first_node, cell_at, ident_at, count_at, is_worn, layout_of, opened}
use Rattle.layout.proofs.Laws.{open-opened}
use Rattle.layout.proofs.Apart.{cell-behind, words-apart, links-words, words-header}
use Rattle.lists.specs.Lists.{asked, Agrees, Sound}
use Rattle.lists.specs.Decide.{view_of}
use Rattle.lists.proofs.Same.{ident-word, count-word, same-opened}
use Rattle.recovery.specs.Plan.{joined, lists_asked, clears_asked, blanks_asked, wipes_asked, required, recover_stores, recover_plan, Accepted, differing}
use Rattle.recovery.proofs.Required.{Right, wrong-in, wrong-agreed}
use Rattle.recovery.proofs.Differing.{differing-self, differing-set, differ-none, differ-some}
use Rattle.recovery.proofs.Joined.{one-joined, ring_out, out-same}
use Rattle.recovery.proofs.Slots.{asked-word}
use Rattle.recovery.proofs.Count.{required-once, required-inside, plan-differs}
use Rattle.recovery.proofs.Whole.{accepted-plan, sound-agrees}
use Rattle.courses.specs.Course.{both, alter}
use Rattle.courses.proofs.Altered.{list-accepted}

module _ (w : List ℕ) (s : Sound w) (k c v n : ℕ) (h : k < (layout_of w).lists) (m : c ∈ (k ∷ s.ordered.lists.sequence k)) where
  abbrev l : Layout
  l = layout_of w

  abbrev t : ℕ → List ℕ
  t = s.ordered.lists.sequence

  abbrev w' : List ℕ
  w' = alter l k (both c v n) w

  size : length w' ≡ length w
  size = length-set (set w (ident_at l c) v) (count_at l k) n ∙ length-set w (ident_at l c) v

  -- a word is as it was, unless it is one of the two
  kept : (a : ℕ) → (a ≡ ident_at l c → ⊥) → (a ≡ count_at l k → ⊥) → get_or w' a 0 ≡ get_or w a 0
  kept a p q = get_or-set_other (set w (ident_at l c) v) (count_at l k) a n 0 q ∙ get_or-set_other w (ident_at l c) a v 0 p

  head : (a : ℕ) → a < 8 → get_or w' a 0 ≡ get_or w a 0
  head a g = kept a (λ e. omega (arith, cell-behind l c, ident-word l c)) (λ e. omega (arith, cell-behind l k, count-word l k h))

  opens : opened w' ≡ Ok l
  opens = same-opened w w' head size ∙ open-opened w s.ordered.marked s.ordered.in_range s.ordered.exact

  accepted : Accepted l w' t
  accepted = list-accepted l s.ordered.in_range w s.ordered.lists k h (both c v n) m

  -- the same nodes in no list are worn, so the same is required
  outside : (x : ℕ) → first_node l ≤ x → (x ∈ joined t l.lists → ⊥) → get_or w' (ident_at l x) 0 ≡ get_or w (ident_at l x) 0
  outside x low o =
      kept (ident_at l x)
      (λ e.
      words-apart l x c 0 0 (λ q _. ring_out l t k x h low o (subst (λ (d : ℕ). d ∈ (k ∷ t k)) (sym q) m)) (links-words l x 0 (omega arith))
      (links-words l c 0 (omega arith)) (sym (ident-word l x) ∙ e ∙ ident-word l c))
      (λ e.
      words-apart l x k 0 count_word (λ _ q. omega arith) (links-words l x 0 (omega arith)) (omega (arith, words-header l k h))
      (sym (ident-word l x) ∙ e ∙ count-word l k h))

  same : required l w' t ≡ required l w t
  same =
      ap (λ (cs : List ℕ). lists_asked l t ++ (map (λ c. write (ident_at l c) 0) cs ++ blanks_asked l cs))
      (out-same (view_of l w).ident (view_of l w').ident (joined t l.lists) (first_node l) l.nodes (λ x p q o. ap is_worn (outside x p o)))

  abbrev rs : List Write
  rs = required l w' t

  agrees : Agrees w rs
  agrees = subst (Agrees w) (sym same) (sound-agrees l w s.ordered.lists s.wiped)

  abbrev ps : List Write
  ps = recover_stores l w' t

  abbrev Final : List ℕ
  Final = run ps w'

  agreed : Agrees Final rs
  agreed = wrong-agreed rs (required-once l w' t accepted.fits) w' (required-inside l w' t accepted.fits (size ∙ s.ordered.exact))

  -- a word that is required is as it was
  asked-back : (a u : ℕ) → Memᴰ (write a u) rs → get_or w a 0 ≡ get_or Final a 0
  asked-back a u i = all_in (Right w) rs agrees i ∙ sym (all_in (Right Final) rs agreed i)

  -- and so are the two
  its-word : (x f : ℕ) → x ∈ (k ∷ t k) → (f < link_words) ⊎ ((x ≡ k) × (f ≡ count_word)) → get_or w (cell_at l x + f) 0 ≡ get_or Final (cell_at l x + f) 0
  its-word x f i g =
      let q = asked-word l k (t k) h x f i g in
      asked-back (cell_at l x + f) q.0 (Memᴰ.append_left (clears_asked l w' t ++ wipes_asked l w' t) (one-joined (λ j. asked l j (t j)) l.lists k _ h q.1))

  back : (a : ℕ) → get_or w a 0 ≡ get_or Final a 0
  back a =
      ⊎_elim (λ e. by e (ℕ_discrete a (ident_at l c)) (ℕ_discrete a (count_at l k)))
      (λ q. ap (λ (b : ℕ). get_or w b 0) (sym q.2) ∙ all_in (Right w) rs agrees (wrong-in w' rs q.1).0 ∙ sym q.3)
      (run-word ps w' a)
    where
      by : get_or Final a 0 ≡ get_or w' a 0 → Dec (a ≡ ident_at l c) → Dec (a ≡ count_at l k) → get_or w a 0 ≡ get_or Final a 0
      by e (yes p) q =
          subst (λ (b : ℕ). get_or w b 0 ≡ get_or Final b 0) (sym (p ∙ ident-word l c)) (its-word c 0 m (inl (omega arith)))
      by e (no p) (yes q) =
          subst (λ (b : ℕ). get_or w b 0 ≡ get_or Final b 0) (sym (q ∙ count-word l k h)) (its-word k count_word (Memᴰ.head refl) (inr (refl, refl)))
      by e (no p) (no q) = sym (e ∙ kept a p q)

  restored : Final ≡ w
  restored =
      elim (ℕ_discrete (differing w Final) 0) [
        | yes e ↦ differ-none w Final long e
        | no d ↦ absurd (let r = differ-some w Final long (omega arith) in r.2 (back r.0))
      ]
    where
      long : length Final ≡ length w
      long = length_run ps w' ∙ size

  number : length ps ≡ differing w' w
  number = sym (plan-differs l t ps w' (size ∙ s.ordered.exact) accepted refl) ∙ ap (differing w') restored

  two : length ps ≤ 2
  two = omega (arith, number, differing-set (set w (ident_at l c) v) w (count_at l k) n, differing-set w w (ident_at l c) v, differing-self w)

  pub comes_back : (m : ℕ) → 2 ≤ m → (answer_of (recover_plan w') m ≡ Ok (Done (differing w' w))) × (words_after (recover_plan w') m w' ≡ w)
  comes_back m g =
      subst (λ (p : Plan). (answer_of p m ≡ Ok (Done (differing w' w))) × (words_after p m w' ≡ w)) (sym (accepted-plan l w' t opens accepted)) (
        ap Ok (sym (outcome-done ps m (omega (arith, two))) ∙ ap Done number),
        applied-all ps m w' (omega (arith, two)) ∙ restored,
      )
