-- "The fleet rule on vehicle data changed: a deleted record may not stay readable. Delete gains P further stores of 0 over the record words,
-- after the identifier, first word first. A sound store now has zero record words in every node that is in no list and isn't worn; older
-- stores get so by recovery. Recovery, after clearing identifiers, also writes 0 to the nonzero record words of every such node, lowest word
-- first, stores that demand 3 then allows too; recovery's bound grows by P × N."
--
-- `Sound` and `Ordered`, which is soundness without the zero records, stand in lists/specs/Lists.antt. Demand 3 starts from ordered stores
-- (courses/specs/Demand3.antt), and those that the delete of older versions left, cut anywhere, are recovered as well (`bare`,
-- courses/specs/Left.antt).
use Rattle.std.specs.Prelude.{ℕ, ◌+◌, ◌%◌, ◌<◌, ◌≤◌, ◌≡◌, List, [], ◌∷◌, ◌++◌, ◌↔◌, length, get_or, Ok, Err}
use Rattle.sequences.specs.Sequence.{◌∈◌, All}
use Rattle.calls.specs.Answers.{answer_of}
use Rattle.stores.specs.declared.Outcome.TheVariants.{Done}
use Rattle.stores.specs.Stores.{Write, write, stores, run, words_after}
use Rattle.encoding.specs.Bytes.{words_in, bytes_after}
use Rattle.layout.specs.declared.Layout.{Layout}
use Rattle.layout.specs.declared.Refusal.TheVariants.{Unsound}
use Rattle.layout.specs.Words.{tail_words, Node, ident_at, record_at, worn_ident, layout_of}
use Rattle.lists.specs.Lists.{Ordered, Sound, Blank, blank_asked, Wiped, SameCells, KeepsWorn}
use Rattle.recovery.specs.Plan.{joined, most_stores, recover_plan}
use Rattle.calls.specs.Calls.{check_answer, delete_plan}
use Rattle.demands.specs.Demand2.{FreeNode}
use Rattle.courses.specs.Course.{needed, edit_plan}
use Rattle.byte_calls.specs.Plans.{byte_delete, byte_recover}
use Rattle.worn.specs.Worn.{Call, edit, mark, recover, words_by}

-- a wipe, where the lists of the words w have the sequences s: "writes 0 to the nonzero record words of every such node"
pub record Wipe (l : Layout) (w : List ℕ) (s : ℕ → List ℕ) (p : Write) : Type 0 where
  pub cell : ℕ
  pub word : ℕ
  pub node : Node l cell
  pub outside : cell ∈ joined s l.lists → ⊥
  pub unworn : get_or w (ident_at l cell) 0 ≡ worn_ident → ⊥
  pub inside : word < tail_words l
  pub nonzero : get_or w (record_at l cell + word) 0 ≡ 0 → ⊥
  pub store : p ≡ write (record_at l cell + word) 0

-- "lowest word first"
abbrev pub Rising : List Write → Type 0
Rising [] = Unit {0}
Rising (p ∷ ps) = All (λ (q : Write). p.at < q.at) ps × Rising ps

-- "older stores get so by recovery": of an ordered store its plan is the wipes alone
pub record Older (w : List ℕ) (s : Ordered w) : Type 0 where
  pub wipes : List Write
  pub plan : recover_plan w ≡ stores wipes
  pub each : All (Wipe (layout_of w) w s.lists.sequence) wipes
  pub rising : Rising wipes
  -- done, it leaves a sound store with the same lists, word for word, and all worn nodes as they were
  pub sound : Sound (run wipes w)
  pub layout : layout_of (run wipes w) ≡ layout_of w
  pub sequences : sound.ordered.lists.sequence ≡ s.lists.sequence
  pub lists : (k : ℕ) → k < (layout_of w).lists → SameCells (layout_of w) w (run wipes w) (k ∷ s.lists.sequence k)
  pub worn : KeepsWorn (layout_of w) w (run wipes w)

-- nothing of a record is left in a free node
abbrev pub NoRemains : List ℕ → Type 0
NoRemains w = (i : ℕ) → FreeNode w i → Blank (layout_of w) w i

-- a call that is not cut: an insert or delete has the allowance that it needs, and so has recover
abbrev pub Whole : List ℕ → Call → Type 0
Whole w (edit e m) = needed (edit_plan w e) ≤ m
Whole w (mark c) = Unit {0}
Whole w (recover m) = needed (recover_plan w) ≤ m

pub record Wiping : Type 0 where
  -- Check tells ordered stores that are wiped from those that are not: these are answered 6.
  pub checks : (w : List ℕ) (s : Ordered w)
      → ((check_answer w ≡ Ok tt) ↔ Wiped (layout_of w) w s.lists.sequence)
      × ((Wiped (layout_of w) w s.lists.sequence → ⊥) → check_answer w ≡ Err Unsound)
  -- "Delete gains P further stores of 0 over the record words, after the identifier, first word first": behind four stores these
  pub deletes : (w : List ℕ) (s : Sound w) (k p : ℕ) → k < (layout_of w).lists → p < length (s.ordered.lists.sequence k)
      → (ps : List Write) × (length ps ≡ 4)
      × (delete_plan w k p ≡ stores (ps ++ blank_asked (layout_of w) (get_or (s.ordered.lists.sequence k) p 0)))
  -- "older stores get so by recovery"
  pub older : (w : List ℕ) (s : Ordered w) → Older w s
  -- Whatever store recovery accepts, it leaves no record in a node that is free then ..
  pub recovered : (w : List ℕ) (m n : ℕ) → answer_of (recover_plan w) m ≡ Ok (Done n)
      → Sound (words_after (recover_plan w) m w) × NoRemains (words_after (recover_plan w) m w)
  -- .. "recovery's bound grows by P × N"
  pub bound : (w : List ℕ) (ps : List Write) → recover_plan w ≡ stores ps
      → length ps ≤ most_stores (layout_of w)
  -- "a deleted record may not stay readable": no call that is not cut leaves a record in a free node of a sound store.
  pub kept : (w : List ℕ) → Sound w → (c : Call) → Whole w c
      → Sound (words_by c w) × NoRemains (words_by c w)
  -- The same from C: after a done delete of a sound store, and after a done recovery of any.
  pub deleted_bytes : (b : List ℕ) → Sound (words_in b) → length b % 2 ≡ 0 → (k p m n : ℕ) → answer_of (byte_delete b k p) m ≡ Ok (Done n)
      → (n ≡ 4 + tail_words (layout_of (words_in b)))
      × Sound (words_in (bytes_after (byte_delete b k p) m b)) × NoRemains (words_in (bytes_after (byte_delete b k p) m b))
  pub recovered_bytes : (b : List ℕ) (m n : ℕ) → answer_of (byte_recover b) m ≡ Ok (Done n)
      → Sound (words_in (bytes_after (byte_recover b) m b)) × NoRemains (words_in (bytes_after (byte_recover b) m b))
