-- What one fault at most tells of the members: whether each is in use by its identifier.
use Prim.Native.Nat.{ℕ, ◌<◌}
use mathlib.Core.Path.{◌≡◌, refl, ap, ◌∙◌, sym, subst}
use mathlib.Core.List.Memᴰ
use mathlib.Core.List.{List, ◌∷◌}
use mathlib.Core.Bool.{true}
use borrow.Author.Tests.{eq-eqb}
use Rattle.sequences.specs.Sequence.{◌∈◌}
use Rattle.layout.specs.Words.{ident_word, forward_word, back_word, most_lists, ident_of, Unlisted}
use Rattle.lists.specs.Decide.{View}
use Rattle.lists.proofs.Nodes.{in-use, ident-used}
use Rattle.fitting.specs.declared.Faults.{Faults}
use Rattle.fitting.specs.declared.Faults.TheVariants as F
use Rattle.fitting.specs.Fitting.{plus, fault, turn_faults, others_faults, carries}
use Rattle.fitting.proofs.Walks.{one-fault}
use Rattle.fitting.proofs.Told.{plus_comm, Few}

-- word f of cell c is among the faults
abbrev Has : ℕ → ℕ → Faults → Type 0
Has c f F.None = ⊥
Has c f (F.One d g v) = (c ≡ d) × (f ≡ g)
Has c f F.Many = Unit {0}

has_left : (c f : ℕ) (g h : Faults) → Has c f g → Has c f (plus g h)
has_left c f F.None h p = absurd p
has_left c f (F.One d e v) F.None p = p
has_left c f (F.One d e v) (F.One x y z) p = tt
has_left c f (F.One d e v) F.Many p = tt
has_left c f F.Many h p = tt

has_right : (c f : ℕ) (g h : Faults) → Has c f h → Has c f (plus g h)
has_right c f g h p = subst (Has c f) (plus_comm h g) (has_left c f h g p)

-- a turn meets the identifier of each member
turn-has : (v : View) (a b k x : ℕ) (s : List ℕ) (y : ℕ) → y ∈ s → (v.ident y ≡ ident_of k → ⊥) → Has y ident_word (turn_faults v a b k x s)
unfolding turn_faults
turn-has v a b k x (z ∷ s) y (Memᴰ.head e) n =
    has_right y ident_word (fault (v.forward x) x a z) _
    (has_left y ident_word (fault (v.ident z) z ident_word (ident_of k)) _
    (subst (Has y ident_word) (sym (one-fault (v.ident z) z ident_word (ident_of k) (λ q. n (ap v.ident e ∙ q)))) (e, refl)))
turn-has v a b k x (z ∷ s) y (Memᴰ.tail m) n =
    has_right y ident_word (fault (v.forward x) x a z) _
    (has_right y ident_word (fault (v.ident z) z ident_word (ident_of k)) _
    (has_right y ident_word (fault (v.back z) z b x) (turn_faults v a b k z s) (turn-has v a b k z s y m n)))
turn-has v a b k x mathlib.Core.List.[] y x4 n = elim x4 [ ]

-- all carry an identifier that says in use, unless one is wrong that does not
pub members-carry : (v : View) (k : ℕ) (s : List ℕ) → Few (others_faults v forward_word back_word k s) → carries v.ident (others_faults v forward_word back_word k s) ≡ true
    → k < most_lists → (x : ℕ) → x ∈ s → Unlisted (v.ident x) → ⊥
unfolding others_faults
members-carry v k s few c h x m z = by (others_faults v forward_word back_word k s) has few c
  where
    has : Has x ident_word (others_faults v forward_word back_word k s)
    has =
        has_right x ident_word (fault (v.ident k) k ident_word (ident_of k)) (turn_faults v forward_word back_word k k s)
        (turn-has v forward_word back_word k k s x m (λ e. ident-used h e z))

    by : (f : Faults) → Has x ident_word f → Few f → carries v.ident f ≡ true → ⊥
    by F.None p few c = p
    by (F.One d g u) p few c =
        in-use (v.ident d) (rw (eq-eqb g 0 (sym p.1)) at c) (subst (λ (y : ℕ). Unlisted (v.ident y)) p.0 z)
    by F.Many p few c = few
