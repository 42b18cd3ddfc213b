-- "Counts are rewritten most, and a wrong one uses up the list's one fault. A sequence now fits when at most one word other than the count differs.
-- If several fit, the one whose length equals the stored count is taken. Number 12 then means that several fit and the count is the length of none
-- or of more than one. The other word is stored before the count, and recovery's bound grows by L. After cuts the outcome is what it was, and a
-- list with its count and one identifier altered comes back whole."
--
-- `Fits`, `Chosen` and `Undecided` stand in recovery/specs/Fits.antt, over all sequences of different nodes. In demand 3 (courses/specs/Demand3.antt)
-- the count and one identifier may be altered in every list but the one named, beside a cut call.
use Rattle.std.specs.Prelude.{ℕ, ◌%◌, ◌<◌, ◌≤◌, ◌≡◌, List, [], ◌∷◌, ◌⊎◌, length, drop, set, Ok, Err}
use Rattle.sequences.specs.Sequence.{◌∈◌, All, Different}
use Rattle.calls.specs.Answers.{answer_of}
use Rattle.stores.specs.declared.Outcome.TheVariants.{Done}
use Rattle.stores.specs.Stores.{Write, refuse, stores, applied, words_after}
use Rattle.encoding.specs.Bytes.{words_in, bytes_after}
use Rattle.layout.specs.declared.Layout.{Layout}
use Rattle.layout.specs.declared.Refusal.{Refusal}
use Rattle.layout.specs.declared.Refusal.TheVariants.{NoFit, TwoFit}
use Rattle.layout.specs.Words.{Node, layout_of, opened}
use Rattle.lists.specs.Lists.{asked, Sound}
use Rattle.recovery.specs.Fits.{wrong, Fits, Chosen, Two, Undecided}
use Rattle.recovery.specs.Plan.{recover_stores, most_stores, recover_plan, Accepted, differing}
use Rattle.courses.specs.Course.{both, alter}
use Rattle.byte_calls.specs.Plans.{byte_recover}
use Rattle.byte_calls.specs.Interface.{code_of}

-- Why recovery refuses the words w of layout l with n: list k is the first for which no sequence is chosen. "does a sequence fit?" if
-- not, 11, which is NoFit; "several fit and the count is the length of none or of more than one": 12, TwoFit.
pub record Refused (l : Layout) (w : List ℕ) (n : Refusal) : Type 0 where
  pub list : ℕ
  pub below : list < l.lists
  pub before : (j : ℕ) → j < list → (s : List ℕ) × Fits l w j s × Chosen l w j s
  pub number : ((n ≡ NoFit) × ((s : List ℕ) → Fits l w list s → ⊥)) ⊎ ((n ≡ TwoFit) × Undecided l w list)

-- A sequence as it fitted until the count was judged apart: "at most one word differs from what the sequence asks of header k (four words) and of its
-- members".
pub record FitsBefore (l : Layout) (w : List ℕ) (k : ℕ) (s : List ℕ) : Type 0 where
  pub nodes : All (Node l) s
  pub different : Different s
  pub few : length (wrong w (asked l k s)) ≤ 1

-- The stores ps of recovery until then: "If for every list exactly one sequence fits, recovery stores the differing words ..".
pub record Before (w : List ℕ) (ps : List Write) : Type 0 where
  pub layout : Layout
  pub opens : opened w ≡ Ok layout
  pub sequence : ℕ → List ℕ
  pub fits : (k : ℕ) → k < layout.lists → FitsBefore layout w k (sequence k)
  pub only : (k : ℕ) → k < layout.lists → (r : List ℕ) → FitsBefore layout w k r → r ≡ sequence k
  pub stores : ps ≡ recover_stores layout w sequence

-- A store that it refused with 12 until then: of the first list for which not exactly one sequence fitted, several did.
pub record SeveralBefore (w : List ℕ) : Type 0 where
  pub layout : Layout
  pub opens : opened w ≡ Ok layout
  pub list : ℕ
  pub below : list < layout.lists
  pub earlier : (j : ℕ) → j < list → (s : List ℕ) × FitsBefore layout w j s × ((r : List ℕ) → FitsBefore layout w j r → r ≡ s)
  pub two : Two (FitsBefore layout w list)

-- A store of one list and one node, its member; and the same with the header's forward link and the count both 0.
abbrev pub single : List ℕ
single = 82 ∷ 66 ∷ 83 ∷ 1 ∷ 1 ∷ 1 ∷ 1 ∷ 0 ∷ 42400 ∷ 1 ∷ 1 ∷ 1 ∷ 42400 ∷ 0 ∷ 0 ∷ 7 ∷ []

abbrev pub unlinked : List ℕ
unlinked = set (set single 9 0) 11 0

abbrev pub emptied : List ℕ
emptied = 82 ∷ 66 ∷ 83 ∷ 1 ∷ 1 ∷ 1 ∷ 1 ∷ 0 ∷ 42400 ∷ 0 ∷ 0 ∷ 0 ∷ 0 ∷ 0 ∷ 0 ∷ 0 ∷ []

pub record Counting : Type 0 where
  -- Recovery is not refused exactly where a sequence is chosen for every list, and its stores are those that these sequences require: list by list
  -- the other word, then the count.
  pub chooses : (w : List ℕ) (l : Layout) → opened w ≡ Ok l → (s : ℕ → List ℕ) → Accepted l w s → recover_plan w ≡ stores (recover_stores l w s)
  pub chosen : (w : List ℕ) (ps : List Write) → recover_plan w ≡ stores ps
      → (l : Layout) × (opened w ≡ Ok l) × ((s : ℕ → List ℕ) × Accepted l w s × (ps ≡ recover_stores l w s))
  -- It is refused with 1 to 4 by its first questions, or with 11 or 12 for the first list that has no such sequence.
  pub refuses : (w : List ℕ) (n : Refusal) → recover_plan w ≡ refuse n → (opened w ≡ Err n) ⊎ ((l : Layout) × (opened w ≡ Ok l) × Refused l w n)
  -- "recovery's bound grows by L"
  pub bound : (w : List ℕ) (ps : List Write) → recover_plan w ≡ stores ps → length ps ≤ most_stores (layout_of w)
  -- "After cuts the outcome is what it was": every store that recovery accepted before has the same plan now, and what it refused with 12 it still
  -- does.
  pub before : (w : List ℕ) (ps : List Write) → Before w ps → recover_plan w ≡ stores ps
  pub several : (w : List ℕ) → SeveralBefore w → recover_plan w ≡ refuse TwoFit
  -- Wherever a run is cut, between the other word and the count too, a later one makes the rest of its stores.
  pub later : (w : List ℕ) (ps : List Write) → recover_plan w ≡ stores ps → (m : ℕ) → recover_plan (applied ps m w) ≡ stores (drop m ps)
  -- "a list with its count and one identifier altered comes back whole": list k, the header's identifier or a member's becomes v, the count n.
  pub whole : (w : List ℕ) (s : Sound w) (k c v n : ℕ) → k < (layout_of w).lists → c ∈ (k ∷ s.ordered.lists.sequence k)
      → let w' : List ℕ = alter (layout_of w) k (both c v n) w in
      (m : ℕ) → 2 ≤ m → (answer_of (recover_plan w') m ≡ Ok (Done (differing w' w))) × (words_after (recover_plan w') m w' ≡ w)
  -- The same from C: b has the bytes of a sound store, b' those with the altered words.
  pub whole_in_bytes : (b : List ℕ) (s : Sound (words_in b)) (b' : List ℕ) → length b' % 2 ≡ 0
      → let w : List ℕ = words_in b in
      (k c v n : ℕ) → k < (layout_of w).lists → c ∈ (k ∷ s.ordered.lists.sequence k) → words_in b' ≡ alter (layout_of w) k (both c v n) w
      → (m : ℕ) → 2 ≤ m
      → (code_of (answer_of (byte_recover b') m) ≡ code_of (Ok (Done (differing (words_in b') w)))) × (words_in (bytes_after (byte_recover b') m b') ≡ w)
  -- Of the count and a link altered together nothing is promised: this sound store comes back empty, done.
  pub link : Sound single × ((m : ℕ) → 3 ≤ m → (answer_of (recover_plan unlinked) m ≡ Ok (Done 3)) × (words_after (recover_plan unlinked) m unlinked ≡ emptied))
