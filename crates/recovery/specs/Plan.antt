-- What recovery stores.
use Rattle.std.specs.Prelude.{ℕ, zero, suc, ◌+◌, ◌*◌, ◌<◌, ◌≤◌, ◌≡◌, Bool, false, not, ◌&&◌, ◌||◌, cond, eqb, get_or, Option, Some, None}
use mathlib.Core.List.{List, [], ◌∷◌, ◌++◌, map, Memᴰ}
use Rattle.sequences.specs.Sequence.{◌∈◌, range, filter}
use Rattle.stores.specs.Stores.{Write, write, Plan, refuse, stores}
use Rattle.layout.specs.declared.Layout.{Layout}
use Rattle.layout.specs.declared.Refusal.{Refusal}
use Rattle.layout.specs.declared.Refusal.TheVariants.{NoFit, TwoFit}
use Rattle.layout.specs.Words.{tail_words, first_node, Node, ident_at, record_at, worn_ident, Unlisted, is_worn, opened, after_open}
use Rattle.lists.specs.Lists.{asked, blank_asked}
use Rattle.lists.specs.Decide.{view_of}
use Rattle.recovery.specs.Fits.{wrong, Fit, none, only, several, fit_of, Fits, Chosen}

-- the sequences below n, one behind the other
unfoldable pub joined {ℓ} : {A : Type ℓ} → (ℕ → List A) → ℕ → List A
joined s zero = []
joined s (suc n) = joined s n ++ s n

unfoldable pub is_in : ℕ → List ℕ → Bool
is_in x [] = false
is_in x (y ∷ s) = eqb x y || is_in x s

-- of the n cells from a on, those that are no members and not worn: "Identifier 65,535 on a node in no list marks it worn", so a member
-- that carries it is a member
abbrev pub out_of : (ℕ → ℕ) → List ℕ → ℕ → ℕ → List ℕ
out_of ident members a n = filter (λ c. not (is_in c members) && not (is_worn (ident c))) (range a n)

-- the nodes in no sequence that are not worn, lowest cell first
abbrev pub nodes_out : Layout → List ℕ → (ℕ → List ℕ) → List ℕ
nodes_out l w s = out_of (view_of l w).ident (joined s l.lists) (first_node l) l.nodes

-- What recovery requires of the words w with these sequences, as the stores that would make it so: no word is required twice.
-- "recovery stores the differing words, list 0 first," of each list "the other word .. before the count",
abbrev pub lists_asked : Layout → (ℕ → List ℕ) → List Write
lists_asked l s = joined (λ k. asked l k (s k)) l.lists

-- then writes 0 to every nonzero identifier of a node in no fitting sequence, lowest cell first." A worn node is let be.
abbrev pub clears_asked : Layout → List ℕ → (ℕ → List ℕ) → List Write
clears_asked l w s = map (λ c. write (ident_at l c) 0) (nodes_out l w s)

-- "Recovery, after clearing identifiers, also writes 0 to the nonzero record words of every such node, lowest word first"
unfoldable pub blanks_asked : Layout → List ℕ → List Write
blanks_asked l [] = []
blanks_asked l (c ∷ cs) = blank_asked l c ++ blanks_asked l cs

abbrev pub wipes_asked : Layout → List ℕ → (ℕ → List ℕ) → List Write
wipes_asked l w s = blanks_asked l (nodes_out l w s)

abbrev pub required : Layout → List ℕ → (ℕ → List ℕ) → List Write
required l w s = lists_asked l s ++ (clears_asked l w s ++ wipes_asked l w s)

-- "Words already right aren't stored"
abbrev pub recover_stores : Layout → List ℕ → (ℕ → List ℕ) → List Write
recover_stores l w s = wrong w (required l w s)

-- "so recovery makes at most L + N stores", its "bound grows by P × N" for the wipes, and "by L" for the counts
abbrev pub most_stores : Layout → ℕ
most_stores l = 2 * l.lists + l.nodes + tail_words l * l.nodes

-- the sequence that is chosen for each list
abbrev pub only_of : Fit → List ℕ
only_of none = []
only_of (only s) = s
only_of several = []

abbrev pub fitting_of : Layout → List ℕ → ℕ → List ℕ
fitting_of l w k = only_of (fit_of l w k)

-- questions 11 and 12, list by list: the first no of the n lists from k on, if there is one
abbrev pub fit_refusal : Fit → Option Refusal → Option Refusal
fit_refusal none rest = Some NoFit
fit_refusal several rest = Some TwoFit
fit_refusal (only s) rest = rest

unfoldable pub refusal_from : Layout → List ℕ → ℕ → ℕ → Option Refusal
refusal_from l w k zero = None
refusal_from l w k (suc n) = fit_refusal (fit_of l w k) (refusal_from l w (suc k) n)

-- a refusal, if there is one, comes before what a call does
abbrev pub unless_refused : Option Refusal → Plan → Plan
unless_refused (Some n) rest = refuse n
unless_refused None rest = rest

-- recover: 1 to 4, then for each list 11 and 12
unfoldable pub recover_of : Layout → List ℕ → Plan
recover_of l w = unless_refused (refusal_from l w 0 l.lists) (stores (recover_stores l w (fitting_of l w)))

unfoldable pub recover_plan : List ℕ → Plan
recover_plan w = after_open (opened w) refuse (λ l. recover_of l w)

-- for every list one of the sequences that fit is chosen
pub record Accepted (l : Layout) (w : List ℕ) (s : ℕ → List ℕ) : Type 0 where
  pub fits : (k : ℕ) → k < l.lists → Fits l w k (s k)
  pub chosen : (k : ℕ) → k < l.lists → Chosen l w k (s k)

-- "the count of places where the found and the final store hold different words"
unfoldable pub differing : List ℕ → List ℕ → ℕ
differing [] x = 0
differing (a ∷ w) [] = 0
differing (a ∷ w) (b ∷ x) = cond (eqb a b) 0 1 + differing w x

-- where a store of the plan goes: to a wrong word of a list, to the identifier of a node in none that is neither 0 nor worn, or to a record
-- word other than 0 of a node in none that is not worn
pub data Kind (l : Layout) (w : List ℕ) (s : ℕ → List ℕ) (p : Write) : Type 0 where
  mend : (k : ℕ) → k < l.lists → Memᴰ p (wrong w (asked l k (s k))) → Kind l w s p
  clear : (c : ℕ) → first_node l ≤ c → (c ∈ joined s l.lists → ⊥) → (Unlisted (get_or w (ident_at l c) 0) → ⊥) → p ≡ write (ident_at l c) 0 → Kind l w s p
  wipe : (c : ℕ) → Node l c → (c ∈ joined s l.lists → ⊥) → (get_or w (ident_at l c) 0 ≡ worn_ident → ⊥)
      → (f : ℕ) → f < tail_words l → (get_or w (record_at l c + f) 0 ≡ 0 → ⊥) → p ≡ write (record_at l c + f) 0 → Kind l w s p
