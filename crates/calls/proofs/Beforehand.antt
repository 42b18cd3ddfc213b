-- What is told of an insert of several records beforehand: by the look at the whole list and the ends of the cells.
use Prim.Native.Nat.{ℕ, ◌-◌, ◌*◌, ◌/◌, ◌≤◌}
use mathlib.Core.Path.{◌≡◌, ap, ◌∙◌, sym, subst}
use mathlib.Core.List.{List}
use native.Mathlib.Omega.{arith}
use lib.ListN.{length, get_or}
use lib.Seq.{length-take-le, get_or-take}
use Rattle.calls.specs.Answers.{needed_of, needed_stores, figures_of, foretold_number, foretold_stores, ForetoldUnworn}
use Rattle.stores.specs.Stores.{refuse, stores, plan_number}
use Rattle.std.specs.Prelude.{Result, Ok, Err}
use Rattle.layout.specs.declared.Refusal.{Refusal}
use Rattle.requests.specs.declared.Look.{Look}
use Rattle.requests.specs.declared.Ends.{Ends}
use Rattle.layout.specs.declared.Layout.{Layout}
use Rattle.layout.specs.Words.{Laid, layout_of}
use Rattle.layout.proofs.Laws.{opened-open}
use Rattle.lists.specs.Decide.{view_of, sequence_of}
use Rattle.requests.specs.declared.Site.{Site}
use Rattle.requests.specs.declared.Request.TheVariants.{Whole, Gaps}
use Rattle.requests.specs.Requests.{around, free_cells, ends_at, EndsUnworn, look_of, with_look, at_site}
use Rattle.requests.specs.Sites.{gap_site}
use Rattle.requests.proofs.Laws.{opened-laid}
use Rattle.requests.proofs.Search.{free-few}
use Rattle.requests.proofs.Sites.{some-whole, ends-facts, look-gaps}
use Rattle.calls.specs.declared.Figures.{Figures}
use Rattle.edits.specs.Edits.{insert_stores, chain, free_from}
use Rattle.edits.proofs.Done.{looked}
use Rattle.edits.proofs.Several.{Chain-length}
use Rattle.calls.specs.Calls.{several_plan, several_figures}

module _ (w : List ℕ) (k p c : ℕ) (words : List ℕ) where
  abbrev m : ℕ
  m = length words

  -- the number and the stores are those of the plan
  pub figures-number : {r : Result Figures Refusal} → r ≡ several_figures w k p c words
      → (foretold_number r ≡ plan_number (several_plan w k p c words)) × (foretold_stores r ≡ needed_stores (needed_of (several_plan w k p c words)))
  unfolding several_figures several_plan
  figures-number {r} e = by (look_of w (Gaps k p c m)) e
    where
      by : (x : Result Look Refusal)
          → r ≡ with_look x Err (λ l t. let cells = free_from l w c (m / l.width) in Ok (figures_of cells (length (chain l k t.before t.after t.count cells words))))
          → (let plan = with_look x refuse (λ l t. stores (chain l k t.before t.after t.count (free_from l w c (m / l.width)) words)) in
          (foretold_number r ≡ plan_number plan) × (foretold_stores r ≡ needed_stores (needed_of plan)))
      by (Err n) e = (ap foretold_number e, ap foretold_stores e)
      by (Ok o) e = (ap foretold_number e, ap foretold_stores e)

  -- what the call promises
  abbrev pub Promised : Result Figures Refusal → Type 0
  Promised r =
      (r ≡ several_figures w k p c words) × ((foretold_number r ≡ plan_number (several_plan w k p c words))
      × ((foretold_stores r ≡ needed_stores (needed_of (several_plan w k p c words))) × ForetoldUnworn (layout_of w) w r))

  promised : {r : Result Figures Refusal} → r ≡ several_figures w k p c words → ForetoldUnworn (layout_of w) w r → Promised r
  promised e u = let n = figures-number e in (e, (n.0, (n.1, u)))

  -- the list is refused
  pub figures-refused : {n : Refusal} → look_of w (Whole k) ≡ Err n → Promised (Err n)
  unfolding several_figures
  figures-refused e = promised (rw (look-gaps w k p c m, e)) tt

  module _ {l : Layout} {t : Site} (e : look_of w (Whole k) ≡ at_site l t) where
    abbrev ident : ℕ → ℕ
    ident = (view_of l w).ident

    abbrev met : List ℕ
    met = free_cells ident (around l c l.nodes)

    pub list-laid : Laid l w
    list-laid = opened-laid w l (looked w (Whole k) l t e).0

    -- the cells are
    pub figures-shut : {n : Refusal} → ends_at l ident t.count p c m ≡ Err n → Promised (Err n)
    unfolding several_figures
    figures-shut f = promised (rw (look-gaps w k p c m, e, f)) tt

    -- or they are told
    module _ {a b : ℕ} (f : ends_at l ident t.count p c m ≡ Ok (record { first = a; last = b })) where
      pub records-few : m / l.width ≤ l.nodes
      records-few = omega (arith, (ends-facts l ident t.count p c m f).4, free-few l ident c)

      abbrev cells : List ℕ
      cells = free_from l w c (m / l.width)

      number : length cells ≡ m / l.width
      number = length-take-le (m / l.width) met (ends-facts l ident t.count p c m f).4

      first : a ≡ get_or cells 0 0
      first =
          let g = ends-facts l ident t.count p c m f in
          ap (λ (x : Ends). x.first) (sym g.5) ∙ sym (get_or-take (m / l.width) met 0 0 (some-whole m l.width g.2 g.3))

      last : b ≡ get_or cells (length cells - 1) 0
      last =
          let g = ends-facts l ident t.count p c m f in
          let h = some-whole m l.width g.2 g.3 in
          ap (λ (x : Ends). x.last) (sym g.5)
          ∙ sym (get_or-take (m / l.width) met (m / l.width - 1) 0 (omega arith))
          ∙ ap (λ (n : ℕ). get_or cells (n - 1) 0) (sym number)

      stored : (u : Site) → m / l.width * insert_stores l ≡ length (chain l k u.before u.after u.count cells words)
      stored u =
          ap (λ (n : ℕ). n * insert_stores l) (sym number)
          ∙ sym (Chain-length l k u.before u.after u.count cells words (omega (arith, (ends-facts l ident t.count p c m f).3, ap (λ (n : ℕ). n * l.width) number)))

      abbrev told : Figures
      told = record { first = a; last = b; stores = m / l.width * insert_stores l }

      pub figures-told : EndsUnworn ident (Ok (record { first = a; last = b })) → Promised (Ok told)
      unfolding several_figures
      figures-told u =
          let q = (opened-open w l (looked w (Whole k) l t e).0).0 in
          promised
          (rw (look-gaps w k p c m, e, f)
          (λ i. Ok (record { first = first i; last = last i; stores = stored (gap_site k p a (sequence_of l w k)) i })))
          (subst (λ (x : Layout). ForetoldUnworn x w (Ok told)) q u)
