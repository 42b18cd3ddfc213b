-- The wrong words of the two candidates, the count not among them, summed up as none, one or many, and which of the two is chosen for a list by
-- them and by the count.
use Rattle.std.specs.Prelude.{ℕ, ◌+◌, ◌-◌, ◌≤◌, ◌<◌, ◌≡◌, List, [], ◌∷◌, Bool, true, false, not, cond, ◌&&◌, eqb, length, Result, Ok, Err}
use Rattle.sequences.specs.Sequence.{trail}
use Rattle.stores.specs.Stores.{Write, write}
use Rattle.layout.specs.declared.Layout.{Layout}
use Rattle.layout.specs.declared.Refusal.{Refusal}
use Rattle.layout.specs.declared.Refusal.TheVariants.{NoFit, TwoFit}
use Rattle.layout.specs.Words.{ident_word, forward_word, back_word, is_node, cell_at, count_at, ident_of, in_use, cell_count, size_of}
use Rattle.lists.specs.Decide.{View}
use Rattle.layout.specs.declared.Cell.{Cell}
use Rattle.fitting.specs.declared.Faults.{Faults}
use Rattle.fitting.specs.declared.Faults.TheVariants as F
use Rattle.fitting.specs.declared.Chosen.{Chosen}
use Rattle.fitting.specs.declared.Trail.{Trail}
use Rattle.fitting.specs.declared.Walk.{Walk}

-- the faults of two parts
abbrev pub plus : Faults → Faults → Faults
plus F.None g = g
plus (F.One c f v) F.None = F.One c f v
plus (F.One c f v) (F.One d g u) = F.Many
plus (F.One c f v) F.Many = F.Many
plus F.Many g = F.Many

-- word f of cell c, which holds x, is to hold v
abbrev pub fault : ℕ → ℕ → ℕ → ℕ → Faults
fault x c f v = cond (eqb x v) F.None (F.One c f v)

-- more than one
abbrev pub are_many : Faults → Bool
are_many F.None = false
are_many (F.One c f v) = false
are_many F.Many = true

-- the rest of the turn round list k, from cell x through s; the link onward is word a of a cell, the link back word b
unfoldable pub turn_faults : View → ℕ → ℕ → ℕ → ℕ → List ℕ → Faults
turn_faults v a b k x [] = plus (fault (v.forward x) x a k) (fault (v.back k) k b x)
turn_faults v a b k x (y ∷ s) =
    plus (fault (v.forward x) x a y)
    (plus (fault (v.ident y) y ident_word (ident_of k))
    (plus (fault (v.back y) y b x)
    (turn_faults v a b k y s)))

-- all that s asks of list k but for the count
unfoldable pub others_faults : View → ℕ → ℕ → ℕ → List ℕ → Faults
others_faults v a b k s = plus (fault (v.ident k) k ident_word (ident_of k)) (turn_faults v a b k k s)

-- what the links onward lead through
abbrev pub walked : Layout → View → ℕ → List ℕ
walked l v k = trail v.forward (is_node l) l.nodes (v.forward k)

-- a walk with its faults and its length, which is not told where the faults are many
abbrev pub walk_with : Faults → ℕ → Walk
walk_with f n = record { faults = f; members = cond (are_many f) 0 n }

abbrev pub walk_of : Layout → View → ℕ → ℕ → ℕ → Walk
walk_of l v a b k = walk_with (others_faults v a b k (walked l v k)) (length (walked l v k))

-- the view the other way round
abbrev pub turned : View → View
turned v = record { ident = v.ident; forward = v.back; back = v.forward; blank = v.blank }

-- by the direction of a walk: the words of the links onward and back, a cell, the view, and what it finds
abbrev pub onward_word : Bool → ℕ
onward_word back = cond back back_word forward_word

abbrev pub backward_word : Bool → ℕ
backward_word back = cond back forward_word back_word

abbrev pub by_way : Bool → Cell → Cell
by_way false c = c
by_way true c = record { ident = c.ident; forward = c.back; back = c.forward }

abbrev pub view_by : Bool → View → View
view_by false v = v
view_by true v = turned v

abbrev pub way_of : Layout → View → Bool → ℕ → Walk
way_of l v back k = walk_of l (view_by back v) (onward_word back) (backward_word back) k

-- a walk: at the header h of list k; whether it goes on; behind the node c; and at its end
abbrev pub first_trail : Layout → Bool → ℕ → Cell → Trail
first_trail l back k h =
    record {
      back = back;
      faults = fault h.ident k ident_word (ident_of k);
      last = k;
      at = (by_way back h).forward;
      left = l.nodes;
    }

abbrev pub is_open : Layout → Trail → Bool
is_open l t = not (are_many t.faults) && (not (eqb t.left 0) && is_node l t.at)

abbrev pub next_trail : ℕ → Cell → Trail → Trail
next_trail k c t =
    record {
      back = t.back;
      faults =
          plus (plus t.faults (fault c.ident t.at ident_word (ident_of k)))
          (fault (by_way t.back c).back t.at (backward_word t.back) t.last);
      last = t.at;
      at = (by_way t.back c).forward;
      left = t.left - 1;
    }

abbrev pub end_faults : ℕ → Cell → Trail → Faults
end_faults k h t =
    plus (plus t.faults (fault t.at t.last (onward_word t.back) k))
    (fault (by_way t.back h).back k (backward_word t.back) t.last)

abbrev pub end_of : Layout → ℕ → Cell → Trail → Walk
end_of l k h t = walk_with (end_faults k h t) (l.nodes - t.left)

-- the cells that a walk has yet to meet when it comes to y with `left` steps left
abbrev pub rest : Layout → View → ℕ → ℕ → List ℕ
rest l v left y = trail v.forward (is_node l) left y

-- where a walk of list k stands: it has summed up f, x is the last cell that it met, and it comes to y
pub record Walking (l : Layout) (v : View) (a b k : ℕ) (f : Faults) (x y left : ℕ) : Type 0 where
  pub link : v.forward x ≡ y
  pub few : left ≤ l.nodes
  pub same : plus f (turn_faults v a b k x (rest l v left y)) ≡ others_faults v a b k (walked l v k)
  pub count : length (walked l v k) ≡ l.nodes - left + length (rest l v left y)

-- the same of a trail
abbrev pub Trailing : Layout → View → ℕ → Trail → Type 0
Trailing l v k t =
    Walking l (view_by t.back v) (onward_word t.back) (backward_word t.back) k t.faults t.last t.at t.left

-- the first candidate alone decides: no fault, or one that is no back link
abbrev pub decides : Faults → Bool
decides F.None = true
decides (F.One c f v) = not (eqb f back_word)
decides F.Many = false

-- the second candidate is another sequence than the first, which has a wrong back link: it has a wrong forward link
abbrev pub is_rival : Faults → Bool
is_rival F.None = false
is_rival (F.One c f v) = eqb f forward_word
is_rival F.Many = false

-- a walk by the forward links and one by the back links, chosen
abbrev pub ahead : Walk → Chosen
ahead x = record { walk = x; backward = false }

abbrev pub behind : Walk → Chosen
behind x = record { walk = x; backward = true }

-- of two that fit, the one whose length is the count
abbrev pub by_count : Bool → Bool → Walk → Walk → Result Chosen Refusal
by_count true true x y = Err TwoFit
by_count true false x y = Ok (ahead x)
by_count false true x y = Ok (behind y)
by_count false false x y = Err TwoFit

-- of the walks by the forward and by the back links, the one that is chosen where the count is n
abbrev pub choose : Walk → Walk → ℕ → Result Chosen Refusal
choose x y n =
    cond (decides x.faults) (Ok (ahead x))
    (cond (are_many x.faults) (cond (are_many y.faults) (Err NoFit) (Ok (behind y)))
    (cond (is_rival y.faults) (by_count (eqb n x.members) (eqb n y.members) x y) (Ok (ahead x))))

unfoldable pub fit_in : Layout → View → ℕ → ℕ → Result Chosen Refusal
fit_in l v k n = choose (way_of l v false k) (way_of l v true k) n

-- the store that mends a fault, and that of the count of list k, which is n and is to be m
abbrev pub mend_of : Layout → Faults → List Write
mend_of l F.None = []
mend_of l (F.One c f v) = write (cell_at l c + f) v ∷ []
mend_of l F.Many = []

abbrev pub count_mend : Layout → ℕ → ℕ → ℕ → List Write
count_mend l k n m = cond (eqb n m) [] (write (count_at l k) m ∷ [])

-- of a list: the walk that is chosen, and whether it is the back walk
abbrev pub walk_in : Result Chosen Refusal → Walk
walk_in (Ok c) = c.walk
walk_in (Err r) = record { faults = F.None; members = 0 }

abbrev pub is_backward : Result Chosen Refusal → Bool
is_backward (Ok c) = c.backward
is_backward (Err r) = false

-- whether every member carries an identifier that says in use: the wrong word is none that does not
abbrev pub carries : (ℕ → ℕ) → Faults → Bool
carries ident F.None = true
carries ident (F.One c f v) = cond (eqb f ident_word) (in_use (ident c)) true
carries ident F.Many = true

-- the members of a list, by the walk that was chosen
abbrev pub members_by : Layout → View → Bool → ℕ → List ℕ
members_by l v b k = cond b (walked l (turned v) k) (walked l v k)

-- a property of the cell and the word of a fault
abbrev pub Each : (ℕ → ℕ → Type 0) → Faults → Type 0
Each P F.None = Unit {0}
Each P (F.One c f v) = P c f
Each P F.Many = Unit {0}

-- a fault of a cell of the store
abbrev pub FaultFits : Layout → Faults → Type 0
FaultFits l = Each (λ c f. (c < cell_count l) × (cell_at l c + f < size_of l))
