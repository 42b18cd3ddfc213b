-- Laws of the mends of all lists, and of the column after all of them are erased.
use Prim.Native.Nat.{ℕ, zero, suc, ◌+◌, ◌*◌, ◌-◌, ◌≤◌, ◌<◌}
use mathlib.Core.Path.{◌≡◌, refl, ap, ◌∙◌, sym}
use mathlib.Core.List.{List, [], ◌∷◌, ◌++◌, append-nil, append_assoc}
use mathlib.Core.Bool.{Bool, true, false, cond, ◌&&◌, and-eq-true_iff}
use native.Mathlib.Omega.{arith}
use native.Mathlib.Numerals.{add-one}
use lib.Dec.{eqb}
use lib.ListN.{length, get_or, set, length-set, length-append}
use lib.Seq.{get_or-set_same, get_or-set_other}
use borrow.Author.Count.{below_more}
use Rattle.std.specs.Prelude.{Ok, Err}
use Rattle.sequences.proofs.Members.{all_append}
use Rattle.stores.specs.Stores.{Write, write, Inside}
use Rattle.layout.specs.declared.Layout.{Layout}
use Rattle.layout.specs.declared.Refusal.{Refusal}
use Rattle.layout.specs.Words.{most_lists, InRange, count_at, size_of}
use Rattle.layout.proofs.Laws.{header-fits}
use Rattle.lists.specs.Decide.{View}
use Rattle.fitting.specs.declared.Chosen.{Chosen}
use Rattle.fitting.specs.declared.Faults.{Faults}
use Rattle.fitting.specs.declared.Faults.TheVariants as F
use Rattle.fitting.specs.Fitting.{fit_in, mend_of, count_mend, is_backward, carries, members_by, FaultFits}
use Rattle.fitting.proofs.Inside.{fit-fits}
use Rattle.mending.specs.declared.Mends.{Mends}
use Rattle.mending.specs.Mending.{refusal_in, walk_at, mends_in, total, Mended, MendsOf, erased, erased_from, writes_in}

-- a fault has one mend at most, and so has a count; each goes to a word of the store
mend-few : (l : Layout) (f : Faults) → length (mend_of l f) ≤ 1
mend-few l F.None = omega arith
mend-few l (F.One c f v) = omega arith
mend-few l F.Many = omega arith

mend-inside : (l : Layout) (f : Faults) → FaultFits l f → Inside (size_of l) (mend_of l f)
mend-inside l F.None h = tt
mend-inside l (F.One c f v) h = (h.1, tt)
mend-inside l F.Many h = tt

count-few : (l : Layout) (k n m : ℕ) → length (count_mend l k n m) ≤ 1
count-few l k n m = by (eqb n m)
  where
    by : (b : Bool) → length (cond b [] (write (count_at l k) m ∷ [])) ≤ 1
    by true = omega arith
    by false = omega arith

count-inside : (l : Layout) (k n m : ℕ) → k < l.lists → Inside (size_of l) (count_mend l k n m)
count-inside l k n m h = by (eqb n m)
  where
    by : (b : Bool) → Inside (size_of l) (cond b [] (write (count_at l k) m ∷ []))
    by true = tt
    by false = (omega (arith, header-fits l k h), tt)

module _ (l : Layout) (r : InRange l) (v : View) (count : ℕ → ℕ) where
  -- the mends are two of each list at most, and go to words of the store
  pub mends-few : (k n : ℕ) → length (mends_in l v count k n) ≤ 2 * n
  unfolding mends_in
  mends-few k zero = omega arith
  mends-few k (suc n) =
      let m = mend_of l (walk_at l v count k).faults in
      let c = count_mend l k (count k) (walk_at l v count k).members in
      omega (
        arith,
        length-append (m ++ c) (mends_in l v count (suc k) n),
        length-append m c,
        mend-few l (walk_at l v count k).faults,
        count-few l k (count k) (walk_at l v count k).members,
        mends-few (suc k) n,
      )

  pub mends-inside : (k n : ℕ) → k + n ≤ l.lists → Inside (size_of l) (mends_in l v count k n)
  unfolding mends_in
  mends-inside k zero h = tt
  mends-inside k (suc n) h =
      let m = mend_of l (walk_at l v count k).faults in
      let c = count_mend l k (count k) (walk_at l v count k).members in
      all_append _ (m ++ c) (mends_in l v count (suc k) n)
      (all_append _ m c (mend-inside l _ (fit-fits l r v k (count k) (omega arith))) (count-inside l k _ _ (omega arith)))
      (mends-inside (suc k) n (omega arith))

  -- where the search stands at list k: no list before it is refused, their members are counted, their mends are written and their directions
  -- are in back
  pub record Searched (m : ℕ) (a : Bool) (back : List Bool) (ps : List Write) (k : ℕ) : Type 0 where
    pub refusal : refusal_in l v count k (l.lists - k) ≡ refusal_in l v count 0 l.lists
    pub members : m ≡ total (λ j. (walk_at l v count j).members) k
    pub carried : a ≡ true → (j : ℕ) → j < k → carries v.ident (walk_at l v count j).faults ≡ true
    pub mends : ps ++ mends_in l v count k (l.lists - k) ≡ mends_in l v count 0 l.lists
    pub few : length ps ≤ 2 * k
    pub size : length back ≡ most_lists
    pub ways : (j : ℕ) → j < k → get_or back j false ≡ is_backward (fit_in l v j (count j))

  -- before list 0
  pub searched_none : (back : List Bool) → length back ≡ most_lists → Searched 0 true back [] 0
  unfolding total
  searched_none back e =
      let z : l.lists - 0 ≡ l.lists = omega arith in
      record {
        refusal = rw z;
        members = refl;
        carried = λ i j p. absurd (omega arith);
        mends = rw z;
        few = omega arith;
        size = e;
        ways = λ j p. absurd (omega arith);
      }

  module _ {members : ℕ} {carried : Bool} {back : List Bool} {writes : List Write} {k : ℕ} (s : Searched members carried back writes k) (h : k < l.lists) where
    here : l.lists - k ≡ suc (l.lists - (k + 1))
    here = omega arith

    -- a list more, of which a walk is chosen
    pub searched-more : {c : Chosen} {a : Bool} → fit_in l v k (count k) ≡ Ok c → a ≡ carries v.ident c.walk.faults
        → Searched (members + c.walk.members) (carried && a) (set back k c.backward)
        ((writes ++ mend_of l c.walk.faults) ++ count_mend l k (count k) c.walk.members) (k + 1)
    unfolding refusal_in mends_in total
    searched-more {c = c} {a = a} e ea =
        let m = mend_of l c.walk.faults in
        let n = count_mend l k (count k) c.walk.members in
        record {
          refusal = (rw (here, refusal_in, e, ← add-one k) at s.refusal);
          members = rw (add-one k, e) (ap (λ (i : ℕ). i + c.walk.members) s.members);
          carried =
              λ i.
              let o = (and-eq-true_iff carried a).0 i in
              below_more _ k (s.carried o.0) (rw e (sym ea ∙ o.1));
          mends = simp append_assoc (rw (here, mends_in, e, append_assoc, ← add-one k) at s.mends);
          few =
              omega (
                arith,
                s.few,
                length-append (writes ++ m) n,
                length-append writes m,
                mend-few l c.walk.faults,
                count-few l k (count k) c.walk.members,
              );
          size = length-set back k c.backward ∙ s.size;
          ways =
              below_more _ k (λ j p. get_or-set_other back k j c.backward false (λ i. omega arith) ∙ s.ways j p)
              (get_or-set_same back k c.backward false (omega (arith, s.size, r.lists)) ∙ rw e);
        }

    -- list k is refused
    pub searched-refused : {n : Refusal} → fit_in l v k (count k) ≡ Err n → MendsOf l v count (Err n)
    unfolding refusal_in
    searched-refused e = sym s.refusal ∙ rw (here, refusal_in, e)

  -- no list is left
  pub searched_all : (m : Mends) (k : ℕ) → Searched m.members m.carried m.back (writes_in m.writes) k → k ≡ l.lists → Mended l v count m
  unfolding refusal_in mends_in
  searched_all m k s e =
      let z : l.lists - k ≡ 0 = omega arith in
      record {
        accepted = sym s.refusal ∙ rw z;
        writes = sym (append-nil (writes_in m.writes)) ∙ (rw z at s.mends);
        back = λ j p. s.ways j (omega arith);
        members = s.members ∙ ap (total (λ j. (walk_at l v count j).members)) e;
        carried = λ c j p. s.carried c j (omega arith);
      }

module _ (l : Layout) (v : View) (back : ℕ → Bool) (k : ℕ) where
  -- a list more is erased
  pub erased-more : (xs : List ℕ) → k < l.lists
      → erased_from l v back k (l.lists - k) xs
      ≡ erased_from l v back (k + 1) (l.lists - (k + 1)) (erased (members_by l v (back k) k) xs)
  unfolding erased_from
  erased-more xs h =
      let s : l.lists - k ≡ suc (l.lists - (k + 1)) = omega arith in
      rw (s, erased_from, add-one k)

  -- no list is left
  pub erased-all : (xs : List ℕ) → l.lists ≤ k → erased_from l v back k (l.lists - k) xs ≡ xs
  unfolding erased_from
  erased-all xs h = let s : l.lists - k ≡ 0 = omega arith in rw s
