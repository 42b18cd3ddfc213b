-- Whatever an insert, of one record or of several, or a delete is asked of an ordered store, its stores are of those that a call may have left (`Left`).
use Prim.Native.Nat.{ℕ, ◌+◌, ◌/◌, ◌<◌, ◌≤◌}
use mathlib.Core.Path.{◌≡◌, refl, ap, ◌∙◌, sym, subst}
use mathlib.Core.List.Memᴰ
use mathlib.Core.List.{List}
use lib.ListN.{length}
use Rattle.std.specs.Prelude.{Result, Ok, Err}
use Rattle.sequences.specs.Sequence.{◌∈◌}
use Rattle.sequences.proofs.Members.{all_in}
use Rattle.stores.specs.Stores.{Plan}
use Rattle.layout.specs.declared.Layout.{Layout}
use Rattle.layout.specs.declared.Refusal.{Refusal}
use Rattle.layout.specs.Words.{tail_words, Node, layout_of}
use Rattle.lists.specs.Lists.{Ordered}
use Rattle.lists.specs.Decide.{view_of}
use Rattle.requests.specs.declared.Look.{Look}
use Rattle.requests.specs.declared.Site.{Site}
use Rattle.requests.specs.declared.Request.TheVariants.{Member, Gap, Gaps}
use Rattle.requests.specs.Requests.{around, look_of, FirstFree, at_site}
use Rattle.requests.proofs.Turn.{around-nodes}
use Rattle.edits.specs.Edits.{insert_writes, chain, delete_writes, free_from}
use Rattle.edits.proofs.Done.{gap-facts, member-facts, its-layout, its-site, its-sequence}
use Rattle.edits.proofs.Gaps.{gaps-looked, gaps-position, gaps-cells, gaps-number, gaps-words, gaps-chain}
use Rattle.calls.proofs.Cases.{insert-refused, insert-at, several-refused, several-at, delete-refused, delete-at}
use Rattle.courses.specs.Course.{Edit, insert, several, delete, named, edit_plan, due, due_of_several, all_stores}
use Rattle.courses.specs.Left.{gap_of, member_of, Left, nothing, inserts, inserts_all, deletes}

-- the first free cell met is a node
pub first-node : (l : Layout) (w : List ℕ) (c i : ℕ) → Node l c → FirstFree (view_of l w).ident (around l c l.nodes) i → Node l i
first-node l w c i h f =
    all_in (Node l) (around l c l.nodes) (around-nodes l c l.nodes h)
    (subst (λ (x : List ℕ). i ∈ x) (sym f.order) (Memᴰ.append_right f.passed (Memᴰ.head refl)))

module _ (w : List ℕ) (s : Ordered w) where
  abbrev l : Layout
  l = layout_of w

  abbrev LeftBy : Edit → Plan → Type 0
  LeftBy e p = Left w s (named e) (due l e) (all_stores p)

  insert-left : (k p c : ℕ) (words : List ℕ) (t : Site) → look_of w (Gap k p c (length words)) ≡ at_site l t
      → Left w s k (due l (insert k p c words)) (insert_writes l k t words)
  insert-left k p c words t e =
      let f = gap-facts l w k p c (length words) t (its-site w s k p l t (Gap k p c (length words)) e) in
      let q = its-sequence w s k p l t f.list in
      subst (λ (u : Site). Left w s k (due l (insert k p c words)) (insert_writes l k u words))
      (sym (f.site ∙ ap (λ (x : List ℕ). gap_of k x p t.cell) q))
      (inserts f.list p (subst (λ (x : List ℕ). p ≤ length x) q f.position) t.cell (first-node l w c t.cell f.start f.first)
      f.first.free words f.size)

  several-left : (k p c : ℕ) (words : List ℕ) (t : Site) → look_of w (Gaps k p c (length words)) ≡ at_site l t
      → Left w s k (due l (several k p c words))
      (chain l k t.before t.after t.count (free_from l w c (length words / l.width)) words)
  several-left k p c words t e =
      let m = length words in
      let a = its-site w s k p l t (Gaps k p c m) e in
      subst (λ (d : ℕ → ℕ). Left w s k d (chain l k t.before t.after t.count (free_from l w c (m / l.width)) words))
      (cc (gaps-number l w s.lists k p c m t a))
      (subst (Left w s k (due_of_several (tail_words l + 6) (length (free_from l w c (m / l.width))))) (sym (gaps-chain l w s.lists k p c m t a words))
      (inserts_all (gaps-looked l w k p c m t a).list p (gaps-position l w s.lists k p c m t a) (free_from l w c (m / l.width))
      (gaps-cells l w s.lists k p c m t a) words (gaps-words l w s.lists k p c m t a)))

  delete-left : (k p : ℕ) (t : Site) → look_of w (Member k p) ≡ at_site l t → Left w s k (due l (delete k p)) (delete_writes l k t)
  delete-left k p t e =
      let f = member-facts l w k p t (its-site w s k p l t (Member k p) e) in
      let q = its-sequence w s k p l t f.list in
      subst (λ (u : Site). Left w s k (due l (delete k p)) (delete_writes l k u)) (sym (f.site ∙ ap (λ (x : List ℕ). member_of k x p) q))
      (deletes f.list p (subst (λ (x : List ℕ). p < length x) q f.position))

  pub call-left : (e : Edit) → LeftBy e (edit_plan w e)
  call-left (insert k p c words) = by (look_of w (Gap k p c (length words))) refl
    where
      by : (x : Result Look Refusal) → look_of w (Gap k p c (length words)) ≡ x → LeftBy (insert k p c words) (edit_plan w (insert k p c words))
      by (Err n) q = subst (LeftBy (insert k p c words)) (sym (insert-refused w k p c words q)) (nothing (due l (insert k p c words)))
      by (Ok o) q =
          let a = o.layout in
          let t = o.site in
          let r : look_of w (Gap k p c (length words)) ≡ at_site l t =
          q ∙ ap (λ (b : Layout). at_site b t) (its-layout w s k p a t (Gap k p c (length words)) q) in
          subst (LeftBy (insert k p c words)) (sym (insert-at w k p c words r)) (insert-left k p c words t r)
  call-left (several k p c words) = by (look_of w (Gaps k p c (length words))) refl
    where
      by : (x : Result Look Refusal) → look_of w (Gaps k p c (length words)) ≡ x → LeftBy (several k p c words) (edit_plan w (several k p c words))
      by (Err n) q = subst (LeftBy (several k p c words)) (sym (several-refused w k p c words q)) (nothing (due l (several k p c words)))
      by (Ok o) q =
          let a = o.layout in
          let t = o.site in
          let r : look_of w (Gaps k p c (length words)) ≡ at_site l t =
          q ∙ ap (λ (b : Layout). at_site b t) (its-layout w s k p a t (Gaps k p c (length words)) q) in
          subst (LeftBy (several k p c words)) (sym (several-at w k p c words r)) (several-left k p c words t r)
  call-left (delete k p) = by (look_of w (Member k p)) refl
    where
      by : (x : Result Look Refusal) → look_of w (Member k p) ≡ x → LeftBy (delete k p) (edit_plan w (delete k p))
      by (Err n) q = subst (LeftBy (delete k p)) (sym (delete-refused w k p q)) (nothing (due l (delete k p)))
      by (Ok o) q =
          let a = o.layout in
          let t = o.site in
          let r : look_of w (Member k p) ≡ at_site l t = q ∙ ap (λ (b : Layout). at_site b t) (its-layout w s k p a t (Member k p) q) in
          subst (LeftBy (delete k p)) (sym (delete-at w k p r)) (delete-left k p t r)
