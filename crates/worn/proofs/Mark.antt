-- Marking a free node: one store, all lists as they were, and the node worn.
use Prim.Native.Nat.{ℕ, ◌<◌}
use mathlib.Core.Path.{◌≡◌, refl, ap, ◌∙◌, sym, subst}
use mathlib.Core.List.{List, ◌∷◌}
use mathlib.Core.Bool.{Bool, true, false}
use lib.ListN.{get_or, set}
use borrow.Author.Tests.{eq-eqb}
use Rattle.std.specs.Prelude.{Ok, Err}
use Rattle.sequences.specs.Sequence.{◌∈◌}
use Rattle.calls.specs.Answers.{answer_of}
use Rattle.stores.specs.declared.Outcome.TheVariants.{Done}
use Rattle.stores.specs.Stores.{run, Plan, refuse, stores, words_after}
use Rattle.layout.specs.declared.Layout.{Layout}
use Rattle.layout.specs.declared.Refusal.TheVariants.{NoNode, NotFree}
use Rattle.layout.specs.Words.{Node, is_node, ask, ident_at, worn_ident, worn, is_free, layout_of}
use Rattle.layout.proofs.Laws.{node-is}
use Rattle.lists.specs.Lists.{Wiped, Sound, SameCells}
use Rattle.lists.specs.Decide.{view_of}
use Rattle.lists.proofs.Unlisted.{given-ident, given-list, given-layout, given-ordered, given-wiped}
use Rattle.requests.specs.declared.Request.TheVariants.{Mark}
use Rattle.requests.specs.Requests.{mark_at, site_in, site_of}
use Rattle.requests.proofs.Laws.{look-refused, look_at}
use Rattle.edits.specs.Edits.{mark_writes, mark_stores}
use Rattle.edits.proofs.Insert.{free-out}
use Rattle.calls.specs.Calls.{mark_plan}
use Rattle.calls.proofs.Cases.{mark-refused, mark-at}
use Rattle.calls.proofs.Calls.{sound-opened, sound-decided}
use Rattle.demands.specs.Demand2.{FreeNode}
use Rattle.worn.specs.Worn.{WornNode, Marks}

module _ (w : List ℕ) (s : Sound w) (c : ℕ) where
  abbrev l : Layout
  l = layout_of w

  abbrev Marked : List ℕ
  Marked = set w (ident_at l c) worn_ident

  -- the plan: 8, 13, or the store
  site : site_of l w (Mark c) ≡ mark_at l (view_of l w).ident c
  unfolding site_in
  site = rw (sound-decided w s)

  planned : mark_plan w c ≡ ask (is_node l c) (refuse NoNode) (ask (is_free (get_or w (ident_at l c) 0)) (refuse NotFree) (stores (mark_writes l c)))
  planned = by (is_node l c) (is_free (get_or w (ident_at l c) 0)) site
    where
      by : (a b : Bool) → site_of l w (Mark c) ≡ ask a (Err NoNode) (ask b (Err NotFree) (Ok (record { before = 0; cell = c; after = 0; count = 0 })))
          → mark_plan w c ≡ ask a (refuse NoNode) (ask b (refuse NotFree) (stores (mark_writes l c)))
      by false b e = mark-refused w c (sym (look-refused w (Mark c) (sound-opened w s) e))
      by true false e = mark-refused w c (sym (look-refused w (Mark c) (sound-opened w s) e))
      by true true e = mark-at w c (sym (look_at w (Mark c) (sound-opened w s) e))

  mark-answer : answer_of (mark_plan w c) mark_stores ≡ ask (is_node l c) (Err NoNode) (ask (is_free (get_or w (ident_at l c) 0)) (Err NotFree) (Ok (Done 1)))
  mark-answer = ap (λ (p : Plan). answer_of p mark_stores) planned ∙ by (is_node l c) (is_free (get_or w (ident_at l c) 0))
    where
      by : (a b : Bool) → answer_of (ask a (refuse NoNode) (ask b (refuse NotFree) (stores (mark_writes l c)))) mark_stores ≡ ask a (Err NoNode) (ask b (Err NotFree) (Ok (Done 1)))
      by false b = refl
      by true false = refl
      by true true = refl

  -- of a free node
  module _ (f : FreeNode w c) where
    pub mark-plan : mark_plan w c ≡ stores (mark_writes l c)
    mark-plan = planned ∙ rw (node-is l c f.node, eq-eqb (get_or w (ident_at l c) 0) 0 f.free)

    mark-words : words_after (mark_plan w c) mark_stores w ≡ Marked
    unfolding run
    mark-words = ap (λ (p : Plan). words_after p mark_stores w) mark-plan

    out : (k : ℕ) → k < l.lists → c ∈ s.ordered.lists.sequence k → ⊥
    out = free-out l w s.ordered.lists c f.free

    mark-layout : layout_of Marked ≡ l
    mark-layout = given-layout w s.ordered c f.node out worn_ident

    mark-sound : (s' : Sound Marked) × (s'.ordered.lists.sequence ≡ s.ordered.lists.sequence)
    mark-sound =
        let x = given-ordered w s.ordered c f.node out worn_ident (worn refl) in (
          record {
            ordered = x.0;
            wiped =
                subst (λ (m : Layout). Wiped m Marked x.0.lists.sequence) (sym mark-layout)
                (subst (Wiped l Marked) (sym x.1) (given-wiped w s.ordered c f.node out worn_ident s.wiped (λ n. absurd (n refl))));
          },
          x.1,
        )

    mark-leaves : (v : List ℕ) → v ≡ Marked
        → (s' : Sound v) × (layout_of v ≡ l) × (s'.ordered.lists.sequence ≡ s.ordered.lists.sequence)
        × ((k : ℕ) → k < l.lists → SameCells l w v (k ∷ s.ordered.lists.sequence k)) × WornNode v c
    mark-leaves v e =
        subst
        (λ (v : List ℕ).
        (s' : Sound v) × (layout_of v ≡ l) × (s'.ordered.lists.sequence ≡ s.ordered.lists.sequence)
        × ((k : ℕ) → k < l.lists → SameCells l w v (k ∷ s.ordered.lists.sequence k)) × WornNode v c)
        (sym e) (
          mark-sound.0,
          mark-layout,
          mark-sound.1,
          given-list w s.ordered c f.node out worn_ident,
          record {
            node = subst (λ (m : Layout). Node m c) (sym mark-layout) f.node;
            worn = ap (λ (m : Layout). get_or Marked (ident_at m c) 0) mark-layout ∙ given-ident w s.ordered c f.node out worn_ident;
          },
        )

  pub marks : Marks w s c
  marks = record { answer = mark-answer; words = mark-words; leaves = λ f. mark-leaves f _ (mark-words f) }
