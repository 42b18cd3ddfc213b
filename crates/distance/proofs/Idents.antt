-- The identifier of one node is altered: noticed and put back. So it is if a member's becomes 65,535.
use Prim.Native.Nat.{ℕ, suc, ◌<◌}
use mathlib.Core.Path.{◌≡◌, ap, ◌∙◌, sym, subst}
use mathlib.Core.List.{List}
use mathlib.Core.Logic.{◌↔◌}
use native.Mathlib.Decide.{ℕ_discrete}
use native.Mathlib.Omega.{arith}
use lib.ListN.{length, get_or, set, length-set}
use lib.Seq.{get_or-set_same, get_or-set_other}
use Rattle.std.specs.Prelude.{Err}
use Rattle.sequences.specs.Sequence.{◌∈◌}
use Rattle.sequences.proofs.Members.{all_in}
use Rattle.layout.specs.declared.Layout.{Layout}
use Rattle.layout.specs.declared.Refusal.TheVariants.{Unsound}
use Rattle.layout.specs.Words.{Node, ident_at, worn_ident, worn, layout_of}
use Rattle.layout.proofs.Apart.{links-words, word_fits}
use Rattle.lists.specs.Lists.{Sound}
use Rattle.lists.proofs.Nodes.{unlisted-out}
use Rattle.lists.proofs.Same.{ident-word}
use Rattle.recovery.specs.Plan.{joined, differing}
use Rattle.recovery.proofs.Differing.{differing-self, differing-step}
use Rattle.recovery.proofs.Slots.{same-cell}
use Rattle.recovery.proofs.Joined.{one-joined}
use Rattle.calls.specs.Calls.{check_answer}
use Rattle.distance.specs.Distance.{Place, identifier, Changed, PutBack}
use Rattle.distance.proofs.Noticed.{noticed}
use Rattle.distance.proofs.PutBack.{put-back}

-- node c gets another; if it is in no list, neither the old nor the new one is the mark of a worn node, or both are
module _ (w : List ℕ) (s : Sound w) (c : ℕ) (node : Node (layout_of w) c) (v : ℕ) (other : get_or w (ident_at (layout_of w) c) 0 ≡ v → ⊥)
    (mark : (c ∈ joined s.ordered.lists.sequence (layout_of w).lists → ⊥) → (get_or w (ident_at (layout_of w) c) 0 ≡ worn_ident) ↔ (v ≡ worn_ident)) where
  abbrev l : Layout
  l = layout_of w

  abbrev a : ℕ
  a = ident_at l c

  inside : a < length w
  inside = omega (arith, s.ordered.exact, ident-word l c, word_fits l c 0 node.high (links-words l c 0 (omega arith)))

  altered-ident : Changed w s (set w a v)
  altered-ident =
      record {
        size = length-set w a v;
        places = λ b n. by b n (ℕ_discrete b a);
        worn = λ i g o. kept i o (ℕ_discrete i c);
      }
    where
      by : (b : ℕ) → (get_or w b 0 ≡ get_or (set w a v) b 0 → ⊥) → Dec (b ≡ a) → Place l s.ordered.lists.sequence b
      by b n (yes e) = identifier c node e
      by b n (no e) = absurd (n (sym (get_or-set_other w a b v 0 e)))

      kept : (i : ℕ) → (i ∈ joined s.ordered.lists.sequence l.lists → ⊥) → Dec (i ≡ c)
          → (get_or w (ident_at l i) 0 ≡ worn_ident) ↔ (get_or (set w a v) (ident_at l i) 0 ≡ worn_ident)
      kept i o (yes e) =
          subst (λ (j : ℕ). (get_or w (ident_at l j) 0 ≡ worn_ident) ↔ (get_or (set w a v) (ident_at l j) 0 ≡ worn_ident)) (sym e)
          (subst (λ (x : ℕ). (get_or w a 0 ≡ worn_ident) ↔ (x ≡ worn_ident)) (sym (get_or-set_same w a v 0 inside))
          (mark (subst (λ (j : ℕ). j ∈ joined s.ordered.lists.sequence l.lists → ⊥) e o)))
      kept i o (no q) =
          subst (λ (x : ℕ). (get_or w (ident_at l i) 0 ≡ worn_ident) ↔ (x ≡ worn_ident))
          (sym (get_or-set_other w a (ident_at l i) v 0
          (λ e. q (same-cell l i c 0 0 (links-words l i 0 (omega arith)) (links-words l c 0 (omega arith)) (sym (ident-word l i) ∙ e ∙ ident-word l c)))))
          ((λ z. z), λ z. z)

  one-differs : differing w (set w a v) ≡ 1
  one-differs =
      differing-step w (set w a v) a v inside (length-set w a v) other (get_or-set_same w a v 0 inside) ∙ ap suc (differing-self (set w a v))

  pub ident-noticed : (check_answer (set w a v) ≡ Err Unsound) × PutBack w (set w a v)
  ident-noticed = (
    noticed w s (set w a v) altered-ident (omega (arith, one-differs)) (omega (arith, one-differs)),
    put-back w s (set w a v) altered-ident one-differs,
  )

-- that of a member becomes 65,535
pub member-worn : (w : List ℕ) (s : Sound w) (k c : ℕ) → k < (layout_of w).lists → c ∈ s.ordered.lists.sequence k
    → let w' : List ℕ = set w (ident_at (layout_of w) c) worn_ident in (check_answer w' ≡ Err Unsound) × PutBack w w'
member-worn w s k c h m =
    let l = layout_of w in
    ident-noticed w s c (all_in (Node l) (s.ordered.lists.sequence k) (s.ordered.lists.lists k h).nodes m) worn_ident
    (λ z. unlisted-out l w k (s.ordered.lists.sequence k) s.ordered.in_range h (s.ordered.lists.lists k h) c (worn z) m)
    (λ o. absurd (o (one-joined s.ordered.lists.sequence l.lists k c h m)))
