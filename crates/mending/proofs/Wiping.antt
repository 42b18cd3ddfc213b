-- Wipes made node by node, and that those of the words with all mends and clears made are the last part of recovery's plan.
use Prim.Native.Nat.{ℕ, suc, ◌+◌, ◌-◌, ◌<◌, ◌≤◌}
use mathlib.Core.Path.{◌≡◌, refl, ap, ◌∙◌, sym, subst}
use mathlib.Core.List.Memᴰ
use mathlib.Core.List.{List, [], ◌∷◌, ◌++◌, append_assoc, Memᴰ}
use mathlib.Core.Bool.{Bool, true, false, not, cond}
use mathlib.Core.Logic.{inl, inr, ⊎_elim}
use native.Mathlib.Omega.{arith}
use lib.ListN.{length, get_or, set, replicate, take}
use borrow.Author.Tests.{eq-eqb, ne_eqb, eqb-true, eqb-false}
use Rattle.sequences.specs.Sequence.{◌∈◌, All, range, filter}
use Rattle.sequences.proofs.Members.{in_all, all_in, append-all, all_take}
use Rattle.sequences.proofs.Range.{range-between}
use Rattle.sequences.proofs.Filter.{filter-in, filter_same}
use Rattle.stores.specs.Stores.{Write, write, in_row, run, applied, Spares}
use Rattle.stores.proofs.Laws.{run_out, run-word}
use Rattle.layout.specs.declared.Layout.{Layout}
use Rattle.layout.specs.Words.{link_words, first_node, Node, size_of, cell_at, cell_words, ident_at, worn_ident, is_free, is_worn}
use Rattle.layout.proofs.Apart.{cells-apart, links-words, tail-word}
use Rattle.lists.specs.Lists.{Agrees, IsList, blank_asked}
use Rattle.lists.specs.Decide.{view_of, cells_with}
use Rattle.lists.proofs.Same.{ident-word}
use Rattle.lists.proofs.Blank.{blank-words, blank-agrees}
use Rattle.lists.proofs.Unique.{member-ident}
use Rattle.recovery.specs.Fits.{wrong}
use Rattle.recovery.specs.Plan.{joined, nodes_out, lists_asked, clears_asked, blanks_asked, wipes_asked, required, recover_stores, Accepted}
use Rattle.recovery.proofs.Required.{Right, Once, wrong-right, wrong-wrong, wrong-out, wrong-append, agrees-wrong, wrong-in, wrong-same, wrong-agreed, once-front, once-apart}
use Rattle.recovery.proofs.Joined.{joined-one, is-out, out-told}
use Rattle.recovery.proofs.Count.{row_in, in-blank, in-blanks, required-once, required-inside}
use Rattle.recovery.proofs.Suffix.{worn-kept}
use Rattle.recovery.proofs.Whole.{agrees-lists}
use Rattle.mending.specs.Mending.{wipes_of, wipes_from, wipes}

-- the wipes of one cell more, and of none
pub wipes-next : (l : Layout) (w : List ℕ) (a n : ℕ) → wipes_from l w a (suc n) ≡ wipes_of l w a ++ wipes_from l w (suc a) n
unfolding range filter blanks_asked
wipes-next l w a n = by (is_free ((view_of l w).ident a))
  where
    rest : List ℕ
    rest = cells_with is_free (view_of l w) (suc a) n

    by : (b : Bool) → wrong w (blanks_asked l (cond b (a ∷ rest) rest)) ≡ cond b (wrong w (blank_asked l a)) [] ++ wrong w (blanks_asked l rest)
    by true = wrong-append w (blank_asked l a) (blanks_asked l rest)
    by false = refl

pub wipes-none : (l : Layout) (w : List ℕ) (a : ℕ) → wipes_from l w a 0 ≡ []
unfolding range filter blanks_asked wrong
wipes-none l w a = refl

-- a node that is not free has none, nor one whose record is blank
pub wipes-skip : (l : Layout) (w : List ℕ) (c : ℕ) → is_free ((view_of l w).ident c) ≡ false → wipes_of l w c ≡ []
wipes-skip l w c e = ap (λ (b : Bool). cond b (wrong w (blank_asked l c)) []) e

pub wipes-free : (l : Layout) (w : List ℕ) (c : ℕ) → is_free ((view_of l w).ident c) ≡ true → wipes_of l w c ≡ wrong w (blank_asked l c)
wipes-free l w c e = ap (λ (b : Bool). cond b (wrong w (blank_asked l c)) []) e

pub wipes-blank : (l : Layout) (w : List ℕ) (c : ℕ) → (view_of l w).blank c ≡ true → wipes_of l w c ≡ []
wipes-blank l w c e = by (is_free ((view_of l w).ident c))
  where
    by : (b : Bool) → cond b (wrong w (blank_asked l c)) [] ≡ []
    by true = agrees-wrong w (blank_asked l c) (blank-agrees l w c (blank-words l w c e))
    by false = refl

-- the words from b on up to e that are not 0, one by one
abbrev pub row_left : List ℕ → ℕ → ℕ → List Write
row_left w b e = wrong w (in_row b (replicate (e - b) 0))

module _ (w : List ℕ) (b e : ℕ) (h : b < e) where
  row_first : row_left w b e ≡ wrong w (write b 0 ∷ in_row (b + 1) (replicate (e - (b + 1)) 0))
  unfolding in_row
  row_first = let n : e - b ≡ suc (e - (b + 1)) = omega arith in ap (λ (k : ℕ). wrong w (in_row b (replicate k 0))) n

  pub row_zero : get_or w b 0 ≡ 0 → row_left w b e ≡ row_left w (b + 1) e
  row_zero z = row_first ∙ wrong-right w (write b 0) (in_row (b + 1) (replicate (e - (b + 1)) 0)) z

  -- one that is not, whether it stays or is wiped
  pub row_other : (get_or w b 0 ≡ 0 → ⊥) → row_left w b e ≡ write b 0 ∷ row_left w (b + 1) e
  row_other n = row_first ∙ wrong-wrong w (write b 0) (in_row (b + 1) (replicate (e - (b + 1)) 0)) n

  pub row_one : (get_or w b 0 ≡ 0 → ⊥) → row_left w b e ≡ (write b 0 ∷ []) ++ row_left (set w b 0) (b + 1) e
  row_one n =
      row_other n
      ∙ ap (λ (ps : List Write). write b 0 ∷ ps)
      (sym
      (wrong-out w b 0 (in_row (b + 1) (replicate (e - (b + 1)) 0))
      (λ p m q. let r = row_in (b + 1) (e - (b + 1)) m in omega (arith, q, ap (λ (t : Write). t.at) r.2))))

pub row-none : (w : List ℕ) (b e : ℕ) → e ≤ b → row_left w b e ≡ []
unfolding in_row wrong
row-none w b e h = let n : e - b ≡ 0 = omega arith in ap (λ (k : ℕ). wrong w (in_row b (replicate k 0))) n

-- wipes of a node leave those of the cells behind it
module _ (l : Layout) (w : List ℕ) (c : ℕ) (low : first_node l ≤ c) (m : ℕ) where
  abbrev After : List ℕ
  After = applied (wipes_of l w c) m w

  spares : (d f : ℕ) → (d ≡ c → ⊥) → f < cell_words l d → Spares (cell_at l d + f) (wipes_of l w c)
  spares d f n h = by (is_free ((view_of l w).ident c))
    where
      by : (b : Bool) → Spares (cell_at l d + f) (cond b (wrong w (blank_asked l c)) [])
      by false = tt
      by true =
          in_all _ (wrong w (blank_asked l c))
          (λ p t e.
          let r = in-blank l c (wrong-in w (blank_asked l c) t).0 in
          let x = tail-word l c r.0 low r.1 in
          cells-apart l d c f (link_words + r.0) n h x.1 (e ∙ ap (λ (q : Write). q.at) r.2 ∙ x.0))

  word_kept : (d f : ℕ) → (d ≡ c → ⊥) → f < cell_words l d → get_or After (cell_at l d + f) 0 ≡ get_or w (cell_at l d + f) 0
  word_kept d f n h = run_out (take m (wipes_of l w c)) w (cell_at l d + f) (all_take _ (wipes_of l w c) m (spares d f n h))

  pub wipes-kept : (n : ℕ) → wipes_from l After (suc c) n ≡ wipes_from l w (suc c) n
  wipes-kept n =
      ap (λ (cs : List ℕ). wrong After (blanks_asked l cs)) cells
      ∙ wrong-same w After (blanks_asked l (cells_with is_free (view_of l w) (suc c) n))
      (λ p t.
      let r = in-blanks l (cells_with is_free (view_of l w) (suc c) n) t in
      let b = range-between (suc c) n r.0 (filter-in (λ d. is_free ((view_of l w).ident d)) (range (suc c) n) r.0 r.1).0 in
      let x = tail-word l r.0 r.2.0 (omega (arith, b.0)) r.2.1 in
      let at : p.at ≡ cell_at l r.0 + (link_words + r.2.0) = ap (λ (q : Write). q.at) r.2.2 ∙ x.0 in
      ap (λ (a : ℕ). get_or After a 0) at ∙ word_kept r.0 (link_words + r.2.0) (λ e. omega (arith, b.0, e)) x.1 ∙ ap (λ (a : ℕ). get_or w a 0) (sym at))
    where
      ident : (d : ℕ) → suc c ≤ d → (view_of l After).ident d ≡ (view_of l w).ident d
      ident d h =
          ap (λ (a : ℕ). get_or After a 0) (ident-word l d) ∙ word_kept d 0 (λ e. omega arith) (links-words l d 0 (omega arith)) ∙ ap (λ (a : ℕ). get_or w a 0) (sym (ident-word l d))

      cells : cells_with is_free (view_of l After) (suc c) n ≡ cells_with is_free (view_of l w) (suc c) n
      cells =
          filter_same (λ d. is_free ((view_of l w).ident d)) (λ d. is_free ((view_of l After).ident d)) (range (suc c) n)
          (in_all _ (range (suc c) n) (λ d t. ap is_free (ident d (range-between (suc c) n d t).0)))

-- The words y with all mends and clears made: the lists are sound there, so the free nodes are those in no list that are not worn; their
-- records are as in w.
module _ (l : Layout) (w : List ℕ) (s : ℕ → List ℕ) (exact : length w ≡ size_of l) (a : Accepted l w s) where
  abbrev Asked : List Write
  Asked = lists_asked l s ++ clears_asked l w s

  abbrev Made : List Write
  Made = wrong w (lists_asked l s) ++ wrong w (clears_asked l w s)

  abbrev y : List ℕ
  y = run Made w

  parted : required l w s ≡ Asked ++ wipes_asked l w s
  parted = sym (append_assoc (lists_asked l s) (clears_asked l w s) (wipes_asked l w s))

  all_once : Once (Asked ++ wipes_asked l w s)
  all_once = subst Once parted (required-once l w s a.fits)

  inside : All (λ (p : Write). p.at < length w) Asked
  inside =
      (append-all (λ (p : Write). p.at < length w) Asked (wipes_asked l w s)
      (subst (All (λ (p : Write). p.at < length w)) parted (required-inside l w s a.fits exact))).0

  made-wrong : Made ≡ wrong w Asked
  made-wrong = sym (wrong-append w (lists_asked l s) (clears_asked l w s))

  agreed : Agrees y Asked
  agreed = subst (λ (ps : List Write). Agrees (run ps w) Asked) (sym made-wrong) (wrong-agreed Asked (once-front Asked (wipes_asked l w s) all_once) w inside)

  pub plan-parted : recover_stores l w s ≡ Made ++ wrong w (wipes_asked l w s)
  plan-parted =
      ap (wrong w) parted ∙ wrong-append w Asked (wipes_asked l w s) ∙ ap (λ (ps : List Write). ps ++ wrong w (wipes_asked l w s)) (sym made-wrong)

  same-worn : (c : ℕ) → Node l c → (c ∈ joined s l.lists → ⊥) → is_worn (get_or y (ident_at l c) 0) ≡ is_worn (get_or w (ident_at l c) 0)
  same-worn =
      worn-kept l w s a y
      (λ b.
      ⊎_elim inl
      (λ r. inr (r.0, subst (Memᴰ r.0) (sym plan-parted) (Memᴰ.append_left (wrong w (wipes_asked l w s)) r.1), r.2, r.3))
      (run-word Made w b))

  free-out : cells_with is_free (view_of l y) (first_node l) l.nodes ≡ nodes_out l w s
  free-out =
      out-told (view_of l w).ident (joined s l.lists) (λ c. is_free ((view_of l y).ident c)) (first_node l) l.nodes
      (λ c p q m. member c m) (λ c p q o. outside c (record { low = p; high = q }) o (is_worn (get_or w (ident_at l c) 0)) refl)
    where
      parts : Agrees y (lists_asked l s) × Agrees y (clears_asked l w s)
      parts = append-all (Right y) (lists_asked l s) (clears_asked l w s) agreed

      member : (c : ℕ) → c ∈ joined s l.lists → is_free (get_or y (ident_at l c) 0) ≡ false
      member c m =
          let r = joined-one s l.lists c m in
          let x = agrees-lists l w y s a same-worn parts.0 parts.1 in
          let i = member-ident l y r.0 (s r.0) c (subst (λ (t : ℕ → List ℕ). IsList l y r.0 (t r.0)) x.1 (x.0.lists r.0 r.1)) r.2 in
          ne_eqb (get_or y (ident_at l c) 0) 0 (λ z. omega (arith, i, z))

      outside : (c : ℕ) → Node l c → (c ∈ joined s l.lists → ⊥) → (b : Bool) → is_worn (get_or w (ident_at l c) 0) ≡ b
          → is_free (get_or y (ident_at l c) 0) ≡ not b
      outside c n o true e =
          let z : get_or y (ident_at l c) 0 ≡ worn_ident = eqb-true _ worn_ident (same-worn c n o ∙ e) in
          ne_eqb (get_or y (ident_at l c) 0) 0 (λ q. omega (arith, z, q))
      outside c n o false e =
          eq-eqb (get_or y (ident_at l c) 0) 0
          (all_in (Right y) (clears_asked l w s) parts.1
          (Memᴰ.map (λ c. write (ident_at l c) 0)
          (is-out (view_of l w).ident (joined s l.lists) (first_node l) l.nodes c n.low n.high o (eqb-false _ worn_ident e))))

  pub wipes-told : wipes l y ≡ wrong w (wipes_asked l w s)
  wipes-told =
      ap (λ (cs : List ℕ). wrong y (blanks_asked l cs)) free-out
      ∙ wrong-same w y (wipes_asked l w s)
      (λ p m.
      run_out Made w p.at
      (in_all _ Made
      (λ q t e. once-apart Asked (wipes_asked l w s) all_once (wrong-in w Asked (subst (Memᴰ q) made-wrong t)).0 m (sym e))))

  -- so the plan is the mends, the clears, and the wipes of what they leave
  pub plan-told : recover_stores l w s ≡ Made ++ wipes l y
  plan-told = plan-parted ∙ ap (λ (ps : List Write). Made ++ ps) (sym wipes-told)
