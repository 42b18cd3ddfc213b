-- Soundness as it is decided: the forward links give the only sequence that can be a list's, a turn round it tests what is
-- asked, the nodes in use are as many as the lists' members, and the records of the free nodes are blank.
use Rattle.std.specs.Prelude.{ℕ, zero, suc, ◌<◌, ◌≡◌, List, [], ◌∷◌, ◌++◌, Bool, true, not, ◌&&◌, eqb, length, get_or}
use Rattle.sequences.specs.Sequence.{trail, range, filter}
use Rattle.layout.specs.declared.Layout.{Layout}
use Rattle.layout.specs.Words.{tail_words, first_node, is_node, ident_at, forward_at, back_at, count_at, record_at, ident_of, is_free, in_use}

-- identifier, forward and back of each cell, and whether its record is blank
pub record View : Type 0 where
  pub ident : ℕ → ℕ
  pub forward : ℕ → ℕ
  pub back : ℕ → ℕ
  pub blank : ℕ → Bool

-- the n words from a on are 0
unfoldable pub blank_from : List ℕ → ℕ → ℕ → Bool
blank_from w a zero = true
blank_from w a (suc n) = eqb (get_or w a 0) 0 && blank_from w (suc a) n

-- the view of the words of a store, and the count of each list
abbrev pub view_of : Layout → List ℕ → View
view_of l w =
    record {
      ident = λ c. get_or w (ident_at l c) 0;
      forward = λ c. get_or w (forward_at l c) 0;
      back = λ c. get_or w (back_at l c) 0;
      blank = λ c. blank_from w (record_at l c) (tail_words l);
    }

abbrev pub count_in : Layout → List ℕ → ℕ → ℕ
count_in l w k = get_or w (count_at l k) 0

-- the nodes that the forward links of list k lead through, at most N
abbrev pub sequence_in : Layout → View → ℕ → List ℕ
sequence_in l v k = trail v.forward (is_node l) l.nodes (v.forward k)

-- the rest of the turn round list k, from cell x through s: each forward link, identifier and back link is right
unfoldable pub turn : View → ℕ → ℕ → List ℕ → Bool
turn v k x [] = eqb (v.forward x) k && eqb (v.back k) x
turn v k x (y ∷ s) = eqb (v.forward x) y && (eqb (v.ident y) (ident_of k) && (eqb (v.back y) x && turn v k y s))

-- list k, whose count is n, has s for its sequence
unfoldable pub holds : View → ℕ → ℕ → List ℕ → Bool
holds v k n s = eqb (v.ident k) (ident_of k) && (turn v k k s && eqb n (length s))

-- list k of the layout holds, with n members
pub record HeldList (l : Layout) (v : View) (k n : ℕ) : Type 0 where
  pub list : k < l.lists
  pub held : holds v k n (sequence_in l v k) ≡ true

-- the lists below n all hold
unfoldable pub all_hold : Layout → View → (ℕ → ℕ) → ℕ → Bool
all_hold l v count zero = true
all_hold l v count (suc n) = all_hold l v count n && holds v n (count n) (sequence_in l v n)

-- the members of the lists below n
unfoldable pub members : Layout → View → ℕ → List ℕ
members l v zero = []
members l v (suc n) = members l v n ++ sequence_in l v n

-- of the n cells from a on, those whose identifier passes the test; and those in use
abbrev pub cells_with : (ℕ → Bool) → View → ℕ → ℕ → List ℕ
cells_with test v a n = filter (λ c. test (v.ident c)) (range a n)

abbrev pub used : View → ℕ → ℕ → List ℕ
used v a n = cells_with in_use v a n

-- of the n cells from a on, the free ones whose record is not blank
abbrev pub unwiped : View → ℕ → ℕ → List ℕ
unwiped v a n = filter (λ c. is_free (v.ident c) && not (v.blank c)) (range a n)

-- every list holds, and as many nodes are in use as the lists have members
unfoldable pub ordered_in : Layout → View → (ℕ → ℕ) → Bool
ordered_in l v count =
    all_hold l v count l.lists && eqb (length (members l v l.lists)) (length (used v (first_node l) l.nodes))

-- and no free node has a record: then the free nodes are those in no list that are not worn
unfoldable pub sound_in : Layout → View → (ℕ → ℕ) → Bool
sound_in l v count = ordered_in l v count && eqb (length (unwiped v (first_node l) l.nodes)) 0

-- the same of the words of a store
abbrev pub sequence_of : Layout → List ℕ → ℕ → List ℕ
sequence_of l w k = sequence_in l (view_of l w) k

abbrev pub ordered_of : Layout → List ℕ → Bool
ordered_of l w = ordered_in l (view_of l w) (count_in l w)

abbrev pub sound_of : Layout → List ℕ → Bool
sound_of l w = sound_in l (view_of l w) (count_in l w)
