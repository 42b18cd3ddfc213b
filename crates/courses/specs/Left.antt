-- Demand 3 without the calls: of stores that an insert or a delete may have left behind, whoever planned them, in older stores too.
use Rattle.std.specs.Prelude.{ℕ, ◌+◌, ◌*◌, ◌<◌, ◌≤◌, ◌≡◌, List, [], ◌∷◌, ◌++◌, length, get_or}
use Rattle.calls.specs.Answers.{answer_of}
use Rattle.stores.specs.Stores.{Write, applied}
use Rattle.layout.specs.Words.{tail_words, Node, ident_at, layout_of}
use Rattle.lists.specs.Lists.{Ordered}
use Rattle.requests.specs.declared.Site.{Site}
use Rattle.edits.specs.Edits.{insert_writes, chain_at, delete_links, delete_writes, insert_central, delete_central}
use Rattle.edits.specs.Edited.{FreeNodes}
use Rattle.recovery.specs.Plan.{recover_plan}
use Rattle.courses.specs.Course.{needed, due_of, due_of_several, Alteration, AllowedBut, altered_below, words_through}
use Rattle.courses.specs.Demand3.{Course}

-- position p of list k with the sequence s: the gap there, for cell i, and the member there
abbrev pub gap_of : ℕ → List ℕ → ℕ → ℕ → Site
gap_of k s p i = record { before = get_or (k ∷ s) p 0; cell = i; after = get_or (s ++ k ∷ []) p 0; count = length s }

abbrev pub member_of : ℕ → List ℕ → ℕ → Site
member_of k s p = record { before = get_or (k ∷ s) p 0; cell = get_or s p 0; after = get_or (s ++ k ∷ []) (p + 1) 0; count = length s }

-- the stores that a call which names list k has to make in the ordered store w; cut after m of them, `due m` are due
pub data Left (w : List ℕ) (s : Ordered w) (k : ℕ) : (ℕ → ℕ) → List Write → Type 0 where
  -- it was refused
  nothing : (due : ℕ → ℕ) → Left w s k due []
  -- an insert at any position of the list, of any record, in any node that is free
  inserts : k < (layout_of w).lists → (p : ℕ) → p ≤ length (s.lists.sequence k) → (i : ℕ) → Node (layout_of w) i
      → get_or w (ident_at (layout_of w) i) 0 ≡ 0 → (words : List ℕ) → length words ≡ tail_words (layout_of w)
      → Left w s k (due_of (insert_central (layout_of w)) (tail_words (layout_of w) + 6)) (insert_writes (layout_of w) k (gap_of k (s.lists.sequence k) p i) words)
  -- an insert of several records from any position of the list on, in any nodes that are free
  inserts_all : k < (layout_of w).lists → (p : ℕ) → p ≤ length (s.lists.sequence k) → (cells : List ℕ) → FreeNodes (layout_of w) w cells
      → (words : List ℕ) → length words ≡ length cells * (layout_of w).width
      → Left w s k (due_of_several (tail_words (layout_of w) + 6) (length cells)) (chain_at (layout_of w) k p (s.lists.sequence k) cells words)
  -- a delete at any position of the list
  deletes : k < (layout_of w).lists → (p : ℕ) → p < length (s.lists.sequence k)
      → Left w s k (due_of delete_central (4 + tail_words (layout_of w))) (delete_writes (layout_of w) k (member_of k (s.lists.sequence k) p))
  -- a delete as it was made until records were wiped: the four stores alone
  bare : k < (layout_of w).lists → (p : ℕ) → p < length (s.lists.sequence k)
      → Left w s k (due_of delete_central 4) (delete_links (layout_of w) k (member_of k (s.lists.sequence k) p))

-- cut after m stores, followed by alterations and recoveries as in demand 3
abbrev pub LeftDemand3 : Type 0
LeftDemand3 =
    (w : List ℕ) (s : Ordered w) (k : ℕ) (due : ℕ → ℕ) (ps : List Write) → Left w s k due ps
    → (m : ℕ) (alts : ℕ → Alteration) → AllowedBut k (layout_of w).lists s.lists.sequence alts
    → (y ms : List ℕ) (last : ℕ) → y ≡ altered_below (layout_of w) k alts (layout_of w).lists (applied ps m w)
    → needed (recover_plan (words_through ms y)) ≤ last
    → Course w s k (applied ps (due m) w) y ms last (words_through (ms ++ last ∷ []) y) (answer_of (recover_plan (words_through ms y)) last)
