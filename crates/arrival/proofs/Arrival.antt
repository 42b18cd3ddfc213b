-- The walk of half the list's length, rounded up, arrives at the cell that each call works at.
use Prim.Native.Nat.{ℕ, ◌+◌, ◌/◌, ◌<◌, ◌≤◌}
use mathlib.Core.Path.{◌≡◌, refl, ap, ◌∙◌, sym, subst}
use mathlib.Core.List.{List, ◌∷◌}
use native.Mathlib.Omega.{arith}
use native.Mathlib.Numerals.{add-one}
use lib.ListN.{length, get_or}
use Rattle.std.specs.Prelude.{Result, Ok, Err}
use Rattle.stores.specs.Stores.{Write, stores}
use Rattle.layout.specs.declared.Layout.{Layout}
use Rattle.layout.specs.declared.Refusal.{Refusal}
use Rattle.layout.specs.Words.{layout_of}
use Rattle.lists.specs.Lists.{Sound}
use Rattle.lists.specs.Decide.{count_in, sequence_of, HeldList}
use Rattle.lists.proofs.Unique.{list-sequence}
use Rattle.lists.proofs.Ring.{held-count, sound-held}
use Rattle.seeks.proofs.Reached.{half-arrives, reached}
use Rattle.requests.specs.declared.Site.{Site}
use Rattle.requests.specs.declared.Request.TheVariants.{Member, Gap, Gaps}
use Rattle.requests.specs.Requests.{site_of}
use Rattle.requests.specs.Sites.{gap_site}
use Rattle.requests.proofs.Laws.{look-refused, look_at, site-member}
use Rattle.requests.proofs.Sites.{member-found, gap-found}
use Rattle.edits.specs.Edits.{insert_writes, chain, delete_writes, free_from}
use Rattle.edits.specs.Edited.{record_in}
use Rattle.edits.proofs.Done.{gap-facts}
use Rattle.edits.proofs.Gaps.{gaps-looked}
use Rattle.calls.specs.Calls.{read_words, insert_plan, several_plan, delete_plan}
use Rattle.calls.proofs.Cases.{insert-refused, insert-at, several-refused, several-at, delete-at}
use Rattle.calls.proofs.Calls.{sound-opened, sound-decided, sound-read}
use Rattle.arrival.specs.Arrival.{links_in, Walks, Arrival}

module _ (w : List ℕ) (s : Sound w) (k : ℕ) (hk : k < (layout_of w).lists) where
  abbrev its : Layout
  its = layout_of w

  abbrev members : List ℕ
  members = sequence_of its w k

  members-are : members ≡ s.ordered.lists.sequence k
  members-are = list-sequence its w k hk (s.ordered.lists.sequence k) (s.ordered.lists.lists k hk)

  held : HeldList its (links_in w) k (length members)
  held =
      let h = sound-held its (links_in w) (count_in its w) k hk (sound-decided w s) refl refl in
      subst (HeldList its (links_in w) k) (held-count h) h

  -- the cell at which the walk arrives
  abbrev cell : ℕ → ℕ
  cell q = get_or (k ∷ members) q 0

  reads : (p : ℕ) → p < length members → read_words w k p ≡ record_in its w (cell (p + 1))
  reads p g =
      sound-read w s k hk p (subst (λ (q : List ℕ). p < length q) members-are g)
      ∙ ap (λ (q : List ℕ). record_in its w (get_or q p 0)) (sym members-are)
      ∙ rw (add-one p)

  deletes : (p : ℕ) → p < length members
      → delete_plan w k p ≡ stores (delete_writes its k
      (record { before = (links_in w).back (cell (p + 1)); cell = cell (p + 1); after = (links_in w).forward (cell (p + 1)); count = length members }))
  deletes p g =
      let e = sym (member-found held p g refl ∙ site-member its (links_in w) (count_in its w) (Member k p) hk (sound-decided w s) refl) in
      delete-at w k p (sym (look_at w (Member k p) (sound-opened w s) e))

  -- the site of a gap is where the walk arrives
  gap-site : (p : ℕ) → p ≤ length members → {t : Site} → t ≡ gap_site k p t.cell members
      → t ≡ record { before = cell p; cell = t.cell; after = (links_in w).forward (cell p); count = length members }
  gap-site p g {t} e = e ∙ sym (gap-found held p g refl t.cell)

  inserts : (p start : ℕ) (words : List ℕ) (ps : List Write) → insert_plan w k p start words ≡ stores ps
      → (p ≤ length members) × (i : ℕ)
      × (ps ≡ insert_writes its k (record { before = cell p; cell = i; after = (links_in w).forward (cell p); count = length members }) words)
  inserts p start words ps z = by (site_of its w (Gap k p start (length words))) refl
    where
      by : (x : Result Site Refusal) → site_of its w (Gap k p start (length words)) ≡ x
          → (p ≤ length members) × (i : ℕ)
          × (ps ≡ insert_writes its k (record { before = cell p; cell = i; after = (links_in w).forward (cell p); count = length members }) words)
      by (Err n) e =
          let r = insert-refused w k p start words (sym (look-refused w (Gap k p start (length words)) (sound-opened w s) e)) in
          let y : ◌≡◌ {A = ℕ} 0 1 = cc in
          absurd (omega arith)
      by (Ok t) e =
          let r = insert-at w k p start words (sym (look_at w (Gap k p start (length words)) (sound-opened w s) e)) in
          let f = gap-facts its w k p start (length words) t e in
          let q : ps ≡ insert_writes its k t words = cc in
          (f.position, t.cell, q ∙ ap (λ (u : Site). insert_writes its k u words) (gap-site p f.position f.site))

  severals : (p start : ℕ) (words : List ℕ) (ps : List Write) → several_plan w k p start words ≡ stores ps
      → (p ≤ length members) × (cells : List ℕ) × (ps ≡ chain its k (cell p) ((links_in w).forward (cell p)) (length members) cells words)
  severals p start words ps z = by (site_of its w (Gaps k p start (length words))) refl
    where
      by : (x : Result Site Refusal) → site_of its w (Gaps k p start (length words)) ≡ x
          → (p ≤ length members) × (cells : List ℕ) × (ps ≡ chain its k (cell p) ((links_in w).forward (cell p)) (length members) cells words)
      by (Err n) e =
          let r = several-refused w k p start words (sym (look-refused w (Gaps k p start (length words)) (sound-opened w s) e)) in
          let y : ◌≡◌ {A = ℕ} 0 1 = cc in
          absurd (omega arith)
      by (Ok t) e =
          let r = several-at w k p start words (sym (look_at w (Gaps k p start (length words)) (sound-opened w s) e)) in
          let f = (gaps-looked its w k p start (length words) t e).facts in
          let cells = free_from its w start (length words / its.width) in
          let q : ps ≡ chain its k t.before t.after t.count cells words = cc in
          (f.position, cells, q ∙ ap (λ (u : Site). chain its k u.before u.after u.count cells words) (gap-site p f.position f.site))

  walks : Walks w k members
  walks =
      record {
        budgets = λ q g. reached held q g;
        reads = λ p g. (cell (p + 1), half-arrives held (p + 1) (omega arith) (omega arith), reads p g);
        deletes = λ p g. (cell (p + 1), half-arrives held (p + 1) (omega arith) (omega arith), deletes p g);
        inserts = λ p start words ps z. let r = inserts p start words ps z in (cell p, half-arrives held p r.0 (omega arith), r.1, r.2);
        severals = λ p start words ps z. let r = severals p start words ps z in (cell p, half-arrives held p r.0 (omega arith), r.1, r.2);
      }

pub arrival : Arrival
arrival w s k hk = subst (Walks w k) (members-are w s k hk) (walks w s k hk)
