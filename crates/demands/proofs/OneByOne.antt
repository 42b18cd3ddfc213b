-- An insert of several records makes the stores of single inserts, each started behind the cell that the one before it used.
use Prim.Native.Nat.{ℕ, ◌+◌, ◌*◌, ◌<◌, ◌≤◌}
use mathlib.Core.Path.{◌≡◌, sym, subst}
use mathlib.Core.List.{List, [], ◌∷◌, ◌++◌}
use lib.ListN.{length, take, drop}
use Rattle.std.specs.Prelude.{Ok}
use Rattle.layout.specs.declared.Layout.{Layout}
use Rattle.layout.specs.Words.{Node, size_of, layout_of, opened}
use Rattle.layout.proofs.Laws.{opened-open}
use Rattle.lists.specs.Lists.{SoundLists, Wiped}
use Rattle.lists.specs.Decide.{view_of}
use Rattle.requests.specs.Requests.{next_cell, around, free_cells, FirstFree}
use Rattle.requests.proofs.Turn.{free-first}
use Rattle.edits.specs.Edits.{chain, chain_at}
use Rattle.edits.specs.Edited.{FreeNodes, records_of}
use Rattle.requests.proofs.Search.{first-free}
use Rattle.edits.proofs.Several as S
use Rattle.edits.proofs.OneByOne as E
use Rattle.calls.proofs.Cases.{insert-at}
use Rattle.demands.specs.Demand2.{OneByOne, none, next}

pub one_by_one
    : (l : Layout) (w : List ℕ) → opened w ≡ Ok l → length w ≡ size_of l → (s : SoundLists l w) → Wiped l w s.sequence
    → (k : ℕ) → k < l.lists → (p : ℕ) → p ≤ length (s.sequence k) → (c : ℕ) → Node l c → (xs ys words : List ℕ)
    → free_cells (view_of l w).ident (around l c l.nodes) ≡ xs ++ ys → length xs * l.width ≤ length words
    → OneByOne k p c (records_of (length xs) l.width words) w (chain_at l k p (s.sequence k) xs words)
unfolding chain records_of
one_by_one l w o exact s wiped k hk p hp c hc [] ys words e enough = none p c w
one_by_one l w o exact s wiped k hk p hp c hc (x ∷ xs) ys words e enough =
    subst (OneByOne k p c (take l.width words ∷ records_of (length xs) l.width (drop l.width words)) w)
    (sym (S.chain-split l w exact s k hk p hp x xs free words enough))
    (next p c (take l.width words) (records_of (length xs) l.width (drop l.width words)) w
    (S.First l w exact s k hk p hp x xs free words enough)
    (insert-at w k p c (take l.width words) (E.first-look l w o exact s k hk p hp c hc x xs ys words e enough wiped)) x
    (subst (λ (m : Layout). FirstFree (view_of m w).ident (around m c m.nodes) x) its
    (first-free (view_of l w).ident (around l c l.nodes) x (free-first (view_of l w).ident (around l c l.nodes) x (xs ++ ys) e)))
    (chain_at l k (p + 1) (after.sequence k) xs (drop l.width words))
    (subst (λ (m : Layout). OneByOne k (p + 1) (next_cell m x) (records_of (length xs) l.width (drop l.width words)) After (chain_at l k (p + 1) (after.sequence k) xs (drop l.width words))) its
    (one_by_one l After (E.next-opened l w o exact s k hk p hp c hc x xs ys words e enough)
    (S.after-exact l w exact s k hk p hp x xs free words enough) after (S.after-wiped l w exact s k hk p hp x xs free words enough wiped) k hk (p + 1)
    (S.after-position l w exact s k hk p hp x xs free words enough) (next_cell l x) (E.next_start l w o exact s k hk p hp c hc x xs ys words e enough)
    xs ys (drop l.width words) (E.next-turn l w o exact s k hk p hp c hc x xs ys words e enough) (S.other-words l (length xs) words enough))))
  where
    free : FreeNodes l w (x ∷ xs)
    free = E.first-free-nodes l w o exact s k hk p hp c hc x xs ys words e enough

    its : l ≡ layout_of w
    its = (opened-open w l o).0

    After : List ℕ
    After = S.After l w exact s k hk p hp x xs free words enough

    after : SoundLists l After
    after = S.after-lists l w exact s k hk p hp x xs free words enough
