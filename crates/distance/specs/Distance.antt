-- "A fleet workshop asks how far check can be trusted beside a welding set. Show that in a sound store one, two or three words changed to
-- other values, among the headers, all node identifiers and the members' links, always make check answer 6. One altered word of that kind
-- must be recovered to the same lists."
use Rattle.std.specs.Prelude.{ℕ, ◌+◌, ◌%◌, ◌<◌, ◌≤◌, ◌≡◌, List, [], ◌∷◌, ◌↔◌, length, get_or, set, Ok, Err}
use Rattle.sequences.specs.Sequence.{◌∈◌}
use Rattle.calls.specs.Answers.{answer_of}
use Rattle.stores.specs.declared.Outcome.TheVariants.{Done, Stopped}
use Rattle.stores.specs.Stores.{write, stores, words_after}
use Rattle.encoding.specs.Bytes.{words_in, bytes_after}
use Rattle.layout.specs.declared.Layout.{Layout}
use Rattle.layout.specs.declared.Refusal.TheVariants.{Unsound}
use Rattle.layout.specs.Words.{header_words, link_words, Node, cell_at, ident_at, worn_ident, Unlisted, layout_of}
use Rattle.lists.specs.Lists.{Sound, Blank}
use Rattle.recovery.specs.Plan.{joined, recover_plan, differing}
use Rattle.calls.specs.Calls.{check_answer}
use Rattle.byte_calls.specs.Plans.{byte_recover}
use Rattle.byte_calls.specs.Interface.{code_of, check_code}

-- Word a is one of these, in a store whose lists have the sequences s: "the headers",
pub data Place (l : Layout) (s : ℕ → List ℕ) (a : ℕ) : Type 0 where
  header : (k f : ℕ) → k < l.lists → f < header_words → a ≡ cell_at l k + f → Place l s a
  -- "all node identifiers", of nodes in a list and in none,
  identifier : (i : ℕ) → Node l i → a ≡ ident_at l i → Place l s a
  -- "and the members' links": behind the identifier, forward and back of a member of list k.
  link : (k c f : ℕ) → k < l.lists → c ∈ s k → f < link_words → a ≡ cell_at l c + f → Place l s a

-- w' has the words of the sound store w but for some of these, "changed to other values"; `differing` (recovery/specs/Plan.antt) counts them
pub record Changed (w : List ℕ) (s : Sound w) (w' : List ℕ) : Type 0 where
  pub size : length w' ≡ length w
  pub places : (a : ℕ) → (get_or w a 0 ≡ get_or w' a 0 → ⊥) → Place (layout_of w) s.ordered.lists.sequence a
  -- "excludes changes to or from 65,535 on a node in no list": no such node is worn in one of the two stores only
  pub worn : (i : ℕ) → Node (layout_of w) i → (i ∈ joined s.ordered.lists.sequence (layout_of w).lists → ⊥)
      → (get_or w (ident_at (layout_of w) i) 0 ≡ worn_ident) ↔ (get_or w' (ident_at (layout_of w) i) 0 ≡ worn_ident)

-- One such word of w is altered in w'.
pub record PutBack (w w' : List ℕ) : Type 0 where
  -- recovery makes one store, of the old value;
  pub at : ℕ
  pub plan : recover_plan w' ≡ stores (write at (get_or w at 0) ∷ [])
  -- done, it leaves the same words, and so "the same lists";
  pub done : (m : ℕ) → 1 ≤ m → (answer_of (recover_plan w') m ≡ Ok (Done 1)) × (words_after (recover_plan w') m w' ≡ w)
  -- cut before its store, it leaves what it found.
  pub cut : (answer_of (recover_plan w') 0 ≡ Ok (Stopped 0)) × (words_after (recover_plan w') 0 w' ≡ w')

-- The same of bytes, whose words are those of w but for one.
pub record BytesPutBack (w b : List ℕ) : Type 0 where
  pub done : (m : ℕ) → 1 ≤ m → (code_of (answer_of (byte_recover b) m) ≡ 65537) × (words_in (bytes_after (byte_recover b) m b) ≡ w)
  pub cut : (code_of (answer_of (byte_recover b) 0) ≡ 131072) × (bytes_after (byte_recover b) 0 b ≡ b)

pub record Distance : Type 0 where
  -- "one, two or three words .. always make check answer 6"
  pub noticed : (w : List ℕ) (s : Sound w) (w' : List ℕ) → Changed w s w' → 1 ≤ differing w w' → differing w w' ≤ 3 → check_answer w' ≡ Err Unsound
  -- "One altered word of that kind must be recovered to the same lists."
  pub put_back : (w : List ℕ) (s : Sound w) (w' : List ℕ) → Changed w s w' → differing w w' ≡ 1 → PutBack w w'
  -- More than three cannot be promised: of some sound store four are changed, and check answers sound again.
  pub four : (w : List ℕ) × (s : Sound w) × (w' : List ℕ) × Changed w s w' × (differing w w' ≡ 4) × (check_answer w' ≡ Ok tt)
  -- Nothing else is excluded: a member's identifier changed to 65,535 is noticed and put back.
  pub member_worn : (w : List ℕ) (s : Sound w) (k c : ℕ) → k < (layout_of w).lists → c ∈ s.ordered.lists.sequence k
      → let w' : List ℕ = set w (ident_at (layout_of w) c) worn_ident in (check_answer w' ≡ Err Unsound) × PutBack w w'
  -- And that must be excluded: a node in no list may be marked worn, and check answers sound. If its record is blank, as every free node's is,
  -- it may be freed too; any other identifier is noticed, and recovery frees the node. A worn node with a record is noticed if it gets any other
  -- identifier.
  pub outside : (w : List ℕ) (s : Sound w) (i : ℕ) → Node (layout_of w) i → (i ∈ joined s.ordered.lists.sequence (layout_of w).lists → ⊥) → (v : ℕ)
      → let w' : List ℕ = set w (ident_at (layout_of w) i) v in
      (v ≡ worn_ident → check_answer w' ≡ Ok tt)
      × (Blank (layout_of w) w i
      → (v ≡ 0 → check_answer w' ≡ Ok tt)
      × ((Unlisted v → ⊥) → (check_answer w' ≡ Err Unsound) × PutBack (set w (ident_at (layout_of w) i) 0) w'))
      × ((Blank (layout_of w) w i → ⊥) → (v ≡ worn_ident → ⊥) → check_answer w' ≡ Err Unsound)
  -- The same of the calls from C: b has the bytes of a sound store, b' those with changed words.
  pub noticed_in_bytes : (b : List ℕ) (s : Sound (words_in b)) (b' : List ℕ) → length b' % 2 ≡ 0 → Changed (words_in b) s (words_in b')
      → 1 ≤ differing (words_in b) (words_in b') → differing (words_in b) (words_in b') ≤ 3 → check_code b' ≡ 6
  pub put_back_in_bytes : (b : List ℕ) (s : Sound (words_in b)) (b' : List ℕ) → length b' % 2 ≡ 0 → Changed (words_in b) s (words_in b')
      → differing (words_in b) (words_in b') ≡ 1 → BytesPutBack (words_in b) b'
