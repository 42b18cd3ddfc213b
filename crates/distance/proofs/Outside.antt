-- A node in no list gets another identifier: marked worn, or freed with a blank record, it passes, and any other change is noticed.
use Prim.Native.Nat.{ℕ, ◌+◌, ◌<◌}
use mathlib.Core.Path.{◌≡◌, refl, ap, ◌∙◌, sym, subst}
use mathlib.Core.List.{List}
use mathlib.Core.Bool.{Bool, true, false}
use native.Mathlib.Omega.{arith}
use lib.ListN.{get_or, set, length-set}
use lib.Seq.{get_or-set_other, set-set}
use Rattle.std.specs.Prelude.{Ok, Err}
use Rattle.sequences.specs.Sequence.{◌∈◌}
use Rattle.layout.specs.declared.Layout.{Layout}
use Rattle.layout.specs.declared.Refusal.TheVariants.{Unsound}
use Rattle.layout.specs.Words.{tail_words, Node, ident_at, record_at, worn_ident, Unlisted, free, worn, layout_of, opened}
use Rattle.layout.proofs.Apart.{tail-word, cell-behind}
use Rattle.lists.specs.Lists.{SoundLists, Sound, Blank, Wiped}
use Rattle.lists.specs.Decide.{sound_of}
use Rattle.lists.proofs.Unique.{list-sequence}
use Rattle.lists.proofs.Decided.{sound-lists, sound-wiped}
use Rattle.lists.proofs.Same.{ident-word, list_same, same-opened}
use Rattle.lists.proofs.Unlisted.{given-ident, given-list, given-layout, given-ordered, given-wiped}
use Rattle.recovery.specs.Plan.{joined}
use Rattle.recovery.proofs.Joined.{one-joined}
use Rattle.calls.specs.Calls.{check_answer}
use Rattle.calls.proofs.Calls.{sound-opened, sound-check, unsound-check}
use Rattle.distance.specs.Distance.{PutBack}
use Rattle.distance.proofs.Idents.{ident-noticed}

module _ (w : List ℕ) (s : Sound w) (c : ℕ) (node : Node (layout_of w) c)
    (o : c ∈ joined s.ordered.lists.sequence (layout_of w).lists → ⊥) where
  abbrev l : Layout
  l = layout_of w

  abbrev Given : ℕ → List ℕ
  Given v = set w (ident_at l c) v

  out : (k : ℕ) → k < l.lists → c ∈ s.ordered.lists.sequence k → ⊥
  out k h m = o (one-joined s.ordered.lists.sequence l.lists k c h m)

  same_layout : (v : ℕ) → layout_of (Given v) ≡ l
  same_layout v = given-layout w s.ordered c node out v

  -- worn, whatever its record is, or free, if that is blank
  given-sound : (v : ℕ) → Unlisted v → ((v ≡ worn_ident → ⊥) → Blank l w c) → Sound (Given v)
  given-sound v u b =
      let x = given-ordered w s.ordered c node out v u in
      record {
        ordered = x.0;
        wiped =
            subst (λ (m : Layout). Wiped m (Given v) x.0.lists.sequence) (sym (same_layout v))
            (subst (Wiped l (Given v)) (sym x.1) (given-wiped w s.ordered c node out v s.wiped b));
      }

  pub worn-passes : (v : ℕ) → v ≡ worn_ident → check_answer (Given v) ≡ Ok tt
  worn-passes v e = sound-check (Given v) (given-sound v (worn e) (λ n. absurd (n e)))

  -- free, and in its place another
  module _ (b : Blank l w c) (v : ℕ) where
    pub freed-passes : v ≡ 0 → check_answer (Given v) ≡ Ok tt
    freed-passes e = sound-check (Given v) (given-sound v (free e) (λ _. b))

    abbrev Freed : List ℕ
    Freed = Given 0

    same-words : set Freed (ident_at (layout_of Freed) c) v ≡ Given v
    same-words = ap (λ (m : Layout). set Freed (ident_at m c) v) (same_layout 0) ∙ set-set w (ident_at l c) 0 v

    pub listed-freed : (Unlisted v → ⊥) → (check_answer (Given v) ≡ Err Unsound) × PutBack Freed (Given v)
    listed-freed u =
        subst (λ (x : List ℕ). (check_answer x ≡ Err Unsound) × PutBack Freed x) same-words
        (ident-noticed Freed (given-sound 0 (free refl) (λ _. b)) c (subst (λ (m : Layout). Node m c) (sym (same_layout 0)) node) v
        (λ e. u (free (sym e ∙ zero))) (λ _. ((λ z. absurd (omega (arith, sym zero ∙ z))), λ z. absurd (u (worn z)))))
      where
        zero : get_or Freed (ident_at (layout_of Freed) c) 0 ≡ 0
        zero = ap (λ (m : Layout). get_or Freed (ident_at m c) 0) (same_layout 0) ∙ given-ident w s.ordered c node out 0

  -- With a record, and not worn. Words decided sound have the same lists, so the node is in none there, and its record would be blank.
  pub kept-noticed : (v : ℕ) → (Blank l w c → ⊥) → (v ≡ worn_ident → ⊥) → check_answer (Given v) ≡ Err Unsound
  kept-noticed v b n = by (sound_of l (Given v)) refl
    where
      opens : opened (Given v) ≡ Ok l
      opens =
          same-opened w (Given v) (λ a h. get_or-set_other w (ident_at l c) a v 0 (λ e. omega (arith, cell-behind l c, e))) (length-set w (ident_at l c) v)
          ∙ sound-opened w s

      same-record : (f : ℕ) → f < tail_words l → get_or (Given v) (record_at l c + f) 0 ≡ get_or w (record_at l c + f) 0
      same-record f h = get_or-set_other w (ident_at l c) (record_at l c + f) v 0 (λ e. omega (arith, e, (tail-word l c f node.low h).0, ident-word l c))

      same-list : (x : SoundLists l (Given v)) (k : ℕ) → k < l.lists → x.sequence k ≡ s.ordered.lists.sequence k
      same-list x k h =
          let t = s.ordered.lists.sequence k in
          sym (list-sequence l (Given v) k h (x.sequence k) (x.lists k h))
          ∙ list-sequence l (Given v) k h t (list_same l w k h t (s.ordered.lists.lists k h) (Given v) (given-list w s.ordered c node out v k h))

      by : (d : Bool) → sound_of l (Given v) ≡ d → check_answer (Given v) ≡ Err Unsound
      by false e = unsound-check (Given v) l opens e
      by true e =
          let x = sound-lists l s.ordered.in_range (Given v) e in
          absurd
          (b (λ f h.
          sym (same-record f h)
          ∙ sound-wiped l s.ordered.in_range (Given v) e x c node (λ k g m. out k g (subst (λ (t : List ℕ). c ∈ t) (same-list x k g) m))
          (λ z. n (sym (given-ident w s.ordered c node out v) ∙ z)) f h))
