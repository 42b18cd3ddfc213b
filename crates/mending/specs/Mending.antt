-- Recovery as it is decided: the mends of all lists, and the clears and wipes of the nodes in none.
use Rattle.std.specs.Prelude.{ℕ, zero, suc, ◌+◌, ◌-◌, ◌<◌, ◌≡◌, List, [], ◌∷◌, ◌++◌, Bool, true, false, not, cond, ◌&&◌, eqb, length, get_or, set, take, Option, Some, None, Result, Ok, Err}
use Rattle.std.specs.Option.{option_or}
use Rattle.std.specs.Result.{result_err}
use Rattle.sequences.specs.Sequence.{trail}
use Rattle.stores.specs.declared.Outcome.{Outcome}
use Rattle.stores.specs.declared.Outcome.TheVariants.{Done, Stopped}
use Rattle.stores.specs.Stores.{Write, write, outcome_of}
use Rattle.stores.specs.Stores as S
use Rattle.layout.specs.declared.Layout.{Layout}
use Rattle.layout.specs.declared.Refusal.{Refusal}
use Rattle.layout.specs.Words.{first_node, is_node, ident_at, worn_ident, is_free, is_worn, in_use}
use Rattle.lists.specs.Lists.{blank_asked}
use Rattle.lists.specs.Decide.{View, view_of, count_in, cells_with, used, unwiped}
use Rattle.recovery.specs.Fits.{wrong}
use Rattle.recovery.specs.Plan.{blanks_asked}
use Rattle.fitting.specs.declared.Walk.{Walk}
use Rattle.fitting.specs.Fitting.{fit_in, mend_of, count_mend, walk_in, is_backward, carries, members_by}
use Rattle.mending.specs.declared.MendList.{MendList}
use Rattle.mending.specs.declared.Mends.{Mends}
use Rattle.mending.specs.declared.Found.{Found}

-- the sum of the first n
unfoldable pub total : (ℕ → ℕ) → ℕ → ℕ
total f zero = 0
total f (suc n) = total f n + f n

-- of the n lists from k on: the first refusal, if there is one, and, below, the mends in order
unfoldable pub refusal_in : Layout → View → (ℕ → ℕ) → ℕ → ℕ → Option Refusal
refusal_in l v count k zero = None
refusal_in l v count k (suc n) = option_or (result_err (fit_in l v k (count k))) (refusal_in l v count (suc k) n)

-- the walk that is chosen for list k, and the stores that mend it: "the other word .. before the count"
abbrev pub walk_at : Layout → View → (ℕ → ℕ) → ℕ → Walk
walk_at l v count k = walk_in (fit_in l v k (count k))

abbrev pub list_mends : Layout → View → (ℕ → ℕ) → ℕ → List Write
list_mends l v count k = mend_of l (walk_at l v count k).faults ++ count_mend l k (count k) (walk_at l v count k).members

unfoldable pub mends_in : Layout → View → (ℕ → ℕ) → ℕ → ℕ → List Write
mends_in l v count k zero = []
mends_in l v count k (suc n) = list_mends l v count k ++ mends_in l v count (suc k) n

-- a column of identifiers with these cells erased: entry 65,535, which says of a member what it says of a worn node, that it is neither to be
-- cleared nor wiped; 0 stays a free node in no list, and any other entry a node left over
unfoldable pub erased : List ℕ → List ℕ → List ℕ
erased [] xs = xs
erased (c ∷ cs) xs = erased cs (set xs c worn_ident)

-- the link of a cell that a walk follows
abbrev pub link_by : View → Bool → ℕ → ℕ
link_by v back c = cond back (v.back c) (v.forward c)

-- a column with the cells erased that the links lead through from y on, n at most
abbrev pub erased_along : Layout → View → Bool → ℕ → ℕ → List ℕ → List ℕ
erased_along l v back n y idents = erased (trail (link_by v back) (is_node l) n y) idents

-- the identifiers with every member of the n lists from k on erased
unfoldable pub erased_from : Layout → View → (ℕ → Bool) → ℕ → ℕ → List ℕ → List ℕ
erased_from l v back k zero xs = xs
erased_from l v back k (suc n) xs = erased_from l v back (suc k) n (erased (members_by l v (back k) k) xs)

-- the clears of the n cells from a on whose entry says in use: no member, not worn and not free
unfoldable pub clears_in : Layout → List ℕ → ℕ → ℕ → List Write
clears_in l idents a zero = []
clears_in l idents a (suc n) =
    cond (in_use (get_or idents a 0)) (write (ident_at l a) 0 ∷ clears_in l idents (suc a) n) (clears_in l idents (suc a) n)

-- the clears of all nodes whose entry says so
abbrev pub clears : Layout → List ℕ → List Write
clears l idents = clears_in l idents (first_node l) l.nodes

-- the wipes of a node, and of the n cells from a on: the record words other than 0 of those that are free in the words w
abbrev pub wipes_of : Layout → List ℕ → ℕ → List Write
wipes_of l w c = cond (is_free ((view_of l w).ident c)) (wrong w (blank_asked l c)) []

abbrev pub wipes_from : Layout → List ℕ → ℕ → ℕ → List Write
wipes_from l w a n = wrong w (blanks_asked l (cells_with is_free (view_of l w) a n))

-- the wipes of all nodes that are free
abbrev pub wipes : Layout → List ℕ → List Write
wipes l w = wipes_from l w (first_node l) l.nodes

-- "for a recovery, the number of stores it will make": of these, how many go to node c, by its entry e in the column. None, if that says member or
-- worn; else its clear, if the entry says in use, and its wipes.
abbrev pub outside_of : Layout → List ℕ → ℕ → ℕ → ℕ
outside_of l w e c = cond (is_worn e) 0 (cond (in_use e) 1 0 + length (wrong w (blank_asked l c)))

-- and how many to the n cells from a on
unfoldable pub outside_from : Layout → List ℕ → List ℕ → ℕ → ℕ → ℕ
outside_from l w idents a zero = 0
outside_from l w idents a (suc n) = outside_of l w (get_or idents a 0) a + outside_from l w idents (suc a) n

-- stores that follow on others, whose outcome under the allowance m is r: the outcome of all, and those that are made of the stores that follow
abbrev pub outcome_on : Outcome → List Write → ℕ → Outcome
outcome_on (Done n) qs m = S.onward n (outcome_of qs (m - n))
outcome_on (Stopped n) qs m = Stopped n

abbrev pub made_on : Outcome → List Write → ℕ → List Write
made_on (Done n) qs m = take (m - n) qs
made_on (Stopped n) qs m = []

-- the mends that are kept
abbrev pub writes_in : MendList → List Write
writes_in m = take m.len m.writes

-- what is found of all lists, where none is refused
pub record Mended (l : Layout) (v : View) (count : ℕ → ℕ) (m : Mends) : Type 0 where
  pub accepted : refusal_in l v count 0 l.lists ≡ None
  pub writes : writes_in m.writes ≡ mends_in l v count 0 l.lists
  pub back : (k : ℕ) → k < l.lists → get_or m.back k false ≡ is_backward (fit_in l v k (count k))
  pub members : m.members ≡ total (λ k. (walk_at l v count k).members) l.lists
  pub carried : m.carried ≡ true → (k : ℕ) → k < l.lists → carries v.ident (walk_at l v count k).faults ≡ true

-- this, or the first list that is refused
abbrev pub MendsOf : Layout → View → (ℕ → ℕ) → Result Mends Refusal → Type 0
MendsOf l v count (Ok m) = Mended l v count m
MendsOf l v count (Err n) = refusal_in l v count 0 l.lists ≡ Some n

-- what is found of the words before the first store, or the first list that is refused
pub record FoundIn (l : Layout) (w : List ℕ) (f : Found) : Type 0 where
  pub mends : Mended l (view_of l w) (count_in l w) f.mends
  pub left : f.left ≡ not (f.mends.carried && eqb f.mends.members (length (used (view_of l w) (first_node l) l.nodes)))
  pub unwiped : f.unwiped ≡ not (eqb (length (unwiped (view_of l w) (first_node l) l.nodes)) 0)

abbrev pub FoundOf : Layout → List ℕ → Result Found Refusal → Type 0
FoundOf l w (Ok f) = FoundIn l w f
FoundOf l w (Err n) = refusal_in l (view_of l w) (count_in l w) 0 l.lists ≡ Some n
