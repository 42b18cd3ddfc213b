-- A turn round a list that finds everything right is agreement with all that is asked.
use Prim.Native.Nat.{ℕ}
use mathlib.Core.Path.{◌≡◌}
use mathlib.Core.List.{List, [], ◌∷◌, ◌++◌, map}
use mathlib.Core.Bool.{Bool, true, ◌&&◌, and-eq-true_iff}
use lib.Dec.{eqb}
use lib.ListN.{length, get_or}
use borrow.Author.Tests.{eq-eqb, eqb-true}
use Rattle.sequences.specs.Sequence.{All, Step, steps, Forward, Backward}
use Rattle.sequences.proofs.Members.{all_append, append-all}
use Rattle.stores.specs.declared.Write.{Write}
use Rattle.stores.specs.Stores.{write}
use Rattle.layout.specs.declared.Layout.{Layout}
use Rattle.layout.specs.Words.{ident_at, forward_at, back_at, ident_of}
use Rattle.lists.specs.Lists.{idents_asked, forwards_asked, backs_asked, count_asked, others_asked, asked, Agrees}
use Rattle.lists.specs.Decide.{View, view_of, count_in, turn, holds}

-- what holds of every image
pub map-all {ℓ ℓ'} : {A : Type ℓ} {B : Type ℓ'} (P : B → Type 0) (f : A → B) (s : List A) → All (λ x. P (f x)) s → All P (map f s)
map-all P f [] h = tt
map-all P f (x ∷ s) h = (h.0, map-all P f s h.1)

pub all_map {ℓ ℓ'} : {A : Type ℓ} {B : Type ℓ'} (P : B → Type 0) (f : A → B) (s : List A) → All P (map f s) → All (λ x. P (f x)) s
all_map P f [] h = tt
all_map P f (x ∷ s) h = (h.0, all_map P f s h.1)

-- the three kinds of words that a turn compares
pub record Turn (v : View) (k x : ℕ) (s : List ℕ) : Type 0 where
  pub idents : All (λ c. v.ident c ≡ ident_of k) s
  pub forwards : Forward v.forward x s k
  pub backs : Backward v.back x s k

both : {a b : Bool} → a ≡ true → b ≡ true → (a && b) ≡ true
both {a} {b} p q = (and-eq-true_iff a b).1 (p, q)

pub turn-right : (v : View) (k x : ℕ) (s : List ℕ) → turn v k x s ≡ true → Turn v k x s
unfolding turn steps
turn-right v k x [] e =
    let b = (and-eq-true_iff (eqb (v.forward x) k) (eqb (v.back k) x)).0 e in
    record { idents = tt; forwards = (eqb-true _ _ b.0, tt); backs = (eqb-true _ _ b.1, tt) }
turn-right v k x (y ∷ s) e =
    let a = (and-eq-true_iff (eqb (v.forward x) y) (eqb (v.ident y) (ident_of k) && (eqb (v.back y) x && turn v k y s))).0 e in
    let b = (and-eq-true_iff (eqb (v.ident y) (ident_of k)) (eqb (v.back y) x && turn v k y s)).0 a.1 in
    let c = (and-eq-true_iff (eqb (v.back y) x) (turn v k y s)).0 b.1 in
    let r = turn-right v k y s c.1 in
    record {
      idents = (eqb-true _ _ b.0, r.idents);
      forwards = (eqb-true _ _ a.0, r.forwards);
      backs = (eqb-true _ _ c.0, r.backs);
    }

pub right-turn : (v : View) (k x : ℕ) (s : List ℕ) → Turn v k x s → turn v k x s ≡ true
unfolding turn steps
right-turn v k x [] t = both (eq-eqb _ _ t.forwards.0) (eq-eqb _ _ t.backs.0)
right-turn v k x (y ∷ s) t =
    both (eq-eqb _ _ t.forwards.0)
    (both (eq-eqb _ _ t.idents.0)
    (both (eq-eqb _ _ t.backs.0)
    (right-turn v k y s (record { idents = t.idents.1; forwards = t.forwards.1; backs = t.backs.1 }))))

-- what `holds` says
pub record Holds (v : View) (k n : ℕ) (s : List ℕ) : Type 0 where
  pub ident : v.ident k ≡ ident_of k
  pub turn : Turn v k k s
  pub count : n ≡ length s

pub holds-true : (v : View) (k n : ℕ) (s : List ℕ) → holds v k n s ≡ true → Holds v k n s
unfolding holds
holds-true v k n s e =
    let a = (and-eq-true_iff (eqb (v.ident k) (ident_of k)) (turn v k k s && eqb n (length s))).0 e in
    let b = (and-eq-true_iff (turn v k k s) (eqb n (length s))).0 a.1 in
    record { ident = eqb-true _ _ a.0; turn = turn-right v k k s b.0; count = eqb-true _ _ b.1 }

pub true-holds : (v : View) (k n : ℕ) (s : List ℕ) → Holds v k n s → holds v k n s ≡ true
unfolding holds
true-holds v k n s h = both (eq-eqb _ _ h.ident) (both (right-turn v k k s h.turn) (eq-eqb _ _ h.count))

-- the words agree with what s asks exactly if the view of them holds s
module _ (l : Layout) (w : List ℕ) (k : ℕ) (s : List ℕ) where
  abbrev Right : Write → Type 0
  Right p = get_or w p.at 0 ≡ p.value

  pub agrees-holds : Agrees w (asked l k s) → Holds (view_of l w) k (count_in l w k) s
  unfolding asked
  agrees-holds h =
      let o = append-all Right (others_asked l k s) (count_asked l k s) h in
      let a = append-all Right (idents_asked l k s) (forwards_asked l k s ++ backs_asked l k s) o.0 in
      let b = append-all Right (forwards_asked l k s) (backs_asked l k s) a.1 in
      let i = all_map Right (λ c. write (ident_at l c) (ident_of k)) (k ∷ s) a.0 in
      record {
        ident = i.0;
        turn =
            record {
              idents = i.1;
              forwards = all_map Right (λ (p : Step). write (forward_at l p.source) p.target) (steps k s k) b.0;
              backs = all_map Right (λ (p : Step). write (back_at l p.target) p.source) (steps k s k) b.1;
            };
        count = o.1.0;
      }

  pub holds-agrees : Holds (view_of l w) k (count_in l w k) s → Agrees w (asked l k s)
  unfolding asked
  holds-agrees h =
      all_append Right (others_asked l k s) (count_asked l k s)
      (all_append Right (idents_asked l k s) (forwards_asked l k s ++ backs_asked l k s)
      (map-all Right (λ c. write (ident_at l c) (ident_of k)) (k ∷ s) (h.ident, h.turn.idents))
      (all_append Right (forwards_asked l k s) (backs_asked l k s)
      (map-all Right (λ (p : Step). write (forward_at l p.source) p.target) (steps k s k) h.turn.forwards)
      (map-all Right (λ (p : Step). write (back_at l p.target) p.source) (steps k s k) h.turn.backs)))
      (h.count, tt)
