-- One altered word is put back: every list still takes its sequence, so what is wrong of the required words is that word alone.
use Prim.Native.Nat.{ℕ, ◌<◌, ◌≤◌}
use mathlib.Core.Path.{◌≡◌, refl, ap, ◌∙◌, sym, subst}
use mathlib.Core.List.{List, [], ◌∷◌}
use mathlib.Core.Logic.{◌⊎◌, inl, inr}
use native.Mathlib.Omega.{arith}
use lib.ListN.{length, get_or, set, length-set}
use lib.Seq.{set-set, set-get_or}
use borrow.Author.Tests.{le-ltb}
use Rattle.std.specs.Prelude.{Ok}
use Rattle.sequences.specs.Sequence.{◌∈◌}
use Rattle.sequences.proofs.Members.{all_in, member?}
use Rattle.calls.specs.Answers.{answer_of}
use Rattle.stores.specs.declared.Outcome.TheVariants.{Done, Stopped}
use Rattle.stores.specs.Stores.{Write, write, run, Plan, stores, words_after}
use Rattle.stores.proofs.Laws.{applied-all}
use Rattle.layout.specs.declared.Layout.{Layout}
use Rattle.layout.specs.Words.{Node, ident_at, layout_of}
use Rattle.lists.specs.Lists.{Agrees, Ordered, Sound}
use Rattle.lists.proofs.Same.{ident-word, list_same}
use Rattle.lists.proofs.Unlisted.{given-list}
use Rattle.recovery.specs.Fits.{wrong}
use Rattle.recovery.specs.Plan.{joined, required, recover_plan, Accepted, differing}
use Rattle.recovery.proofs.Required.{wrong-one}
use Rattle.recovery.proofs.Differing.{differing-step, differ-none, differ-some}
use Rattle.recovery.proofs.Joined.{one-joined, joined-one}
use Rattle.recovery.proofs.Count.{required-once}
use Rattle.recovery.proofs.Whole.{accepted-plan, lists-accepted, sound-agrees, sound-accepted}
use Rattle.courses.specs.Course.{altered}
use Rattle.courses.proofs.Altered.{list-accepted}
use Rattle.distance.specs.Distance.{Place, header, identifier, link, Changed, PutBack}
use Rattle.distance.proofs.Noticed.{place-asked, changed-opened, changed-required, changed-unworn}

-- any such word is altered; of a node in no list it is the identifier, and every list has all its words
place-accepted : (w : List ℕ) (s : Ordered w) (a v : ℕ) → Place (layout_of w) s.lists.sequence a → Accepted (layout_of w) (set w a v) s.lists.sequence
place-accepted w s a v = by
  where
    l : Layout
    l = layout_of w

    sequence : ℕ → List ℕ
    sequence = s.lists.sequence

    here : {b : ℕ} → a ≡ b → Accepted l (set w b v) sequence → Accepted l (set w a v) sequence
    here e = subst (λ (b : ℕ). Accepted l (set w b v) sequence) (sym e)

    node : (i : ℕ) → Node l i → a ≡ ident_at l i → (i ∈ joined sequence l.lists) ⊎ (i ∈ joined sequence l.lists → ⊥) → Accepted l (set w a v) sequence
    node i n e (inl m) =
        let k = joined-one sequence l.lists i m in
        here (e ∙ ident-word l i) (list-accepted l s.in_range w s.lists k.0 k.1 (altered i 0 v) (inr (k.2, omega arith)))
    node i n e (inr o) =
        here e
        (lists-accepted l (set w (ident_at l i) v) sequence
        (λ k h.
        list_same l w k h (sequence k) (s.lists.lists k h) (set w (ident_at l i) v)
        (given-list w s i n (λ k h m. o (one-joined sequence l.lists k i h m)) v k h)))

    by : Place l sequence a → Accepted l (set w a v) sequence
    by (header k f h g e) = here e (list-accepted l s.in_range w s.lists k h (altered k f v) (inl (refl, g)))
    by (link k c f h m g e) = here e (list-accepted l s.in_range w s.lists k h (altered c f v) (inr (m, g)))
    by (identifier i n e) = node i n e (member? i (joined sequence l.lists))

module _ (w : List ℕ) (s : Sound w) (w' : List ℕ) (c : Changed w s w') (one : differing w w' ≡ 1) where
  abbrev l : Layout
  l = layout_of w

  abbrev sequence : ℕ → List ℕ
  sequence = s.ordered.lists.sequence

  -- the altered word, and its new value
  some : (a : ℕ) × (a < length w) × (get_or w a 0 ≡ get_or w' a 0 → ⊥)
  some = differ-some w w' c.size (omega arith)

  abbrev a : ℕ
  a = some.0

  abbrev v : ℕ
  v = get_or w' a 0

  changed : w' ≡ set w a v
  changed =
      differ-none (set w a v) w' (c.size ∙ sym (length-set w a v))
      (omega (arith, one, differing-step w w' a v some.1 c.size some.2 refl))

  place : Place l sequence a
  place = c.places a some.2

  agreed : Agrees w (required l w sequence)
  agreed = sound-agrees l w s.ordered.lists s.wiped

  -- the plan is its old value
  one_store : recover_plan w' ≡ stores (write a (get_or w a 0) ∷ [])
  one_store =
      let q = place-asked l w sequence a place (changed-unworn w s w' c a some.2) in
      let old : get_or w a 0 ≡ q.0 = all_in (λ (p : Write). get_or w p.at 0 ≡ p.value) (required l w sequence) agreed q.1 in
      accepted-plan l w' sequence (changed-opened w s w' c)
      (subst (λ (y : List ℕ). Accepted l y sequence) (sym changed) (place-accepted w s.ordered a v place))
      ∙ ap stores
      (ap (wrong w') (changed-required w s w' c)
      ∙ ap (λ (y : List ℕ). wrong y (required l w sequence)) changed
      ∙ wrong-one (required l w sequence) w a q.0 v (required-once l w sequence (sound-accepted l w s.ordered.lists).fits) agreed
      some.1 q.1 (λ e. some.2 (old ∙ sym e))
      ∙ ap (λ (u : ℕ). write a u ∷ []) (sym old))

  -- and storing it gives the same words
  restored : set w' a (get_or w a 0) ≡ w
  restored = ap (λ (y : List ℕ). set y a (get_or w a 0)) changed ∙ set-set w a v (get_or w a 0) ∙ set-get_or w a 0

  abbrev ps : List Write
  ps = write a (get_or w a 0) ∷ []

  whole : (m : ℕ) → 1 ≤ m → (answer_of (stores ps) m ≡ Ok (Done 1)) × (words_after (stores ps) m w' ≡ w)
  unfolding run
  whole m h = (rw (le-ltb m 1 h), applied-all ps m w' h ∙ restored)

  nothing : (answer_of (stores ps) 0 ≡ Ok (Stopped 0)) × (words_after (stores ps) 0 w' ≡ w')
  unfolding run
  nothing = (refl, refl)

  pub put-back : PutBack w w'
  put-back =
      record {
        at = a;
        plan = one_store;
        done = λ m h. subst (λ (p : Plan). (answer_of p m ≡ Ok (Done 1)) × (words_after p m w' ≡ w)) (sym one_store) (whole m h);
        cut = subst (λ (p : Plan). (answer_of p 0 ≡ Ok (Stopped 0)) × (words_after p 0 w' ≡ w')) (sym one_store) nothing;
      }
