-- What the words of the cells are after the stores of an insert or a delete, and which words stay.
use Prim.Native.Nat.{ℕ, ◌+◌, ◌-◌, ◌≤◌, ◌<◌, min}
use mathlib.Core.Path.{◌≡◌, ap, ◌∙◌, sym, subst}
use mathlib.Core.List.{List, [], ◌∷◌, ◌++◌, append_assoc}
use native.Mathlib.Omega.{arith}
use lib.ListN.{length, get_or, take, drop, replicate, length-take, length-drop, length-append, length-replicate, get_or-replicate}
use lib.Seq.{ext_get_or, get_or-take, get_or-drop, length-take-le}
use Rattle.sequences.proofs.Members.{all_append}
use Rattle.stores.specs.Stores.{Write, write, run, Spares, in_row}
use Rattle.stores.proofs.Laws.{run-append, length_run, run_out, run_in, row-spares, row_at, length-row}
use Rattle.layout.specs.declared.Layout.{Layout}
use Rattle.layout.specs.Words.{tail_words, cell_count, cell_at, cell_words, size_of, Node, ident_at, forward_at, back_at, count_at, record_at, ident_of}
use Rattle.layout.proofs.Laws.{cell-node, node-fits}
use Rattle.layout.proofs.Apart.{words-apart, words-header, words-node, links-words, word_fits}
use Rattle.lists.specs.Lists.{Blank, blank_asked}
use Rattle.lists.proofs.Same.{ident-word, count-word}
use Rattle.requests.specs.declared.Site.{Site}
use Rattle.edits.specs.Edits.{insert_links, insert_writes, delete_links, delete_writes}
use Rattle.edits.specs.Edited.{record_in}

-- a record's words as words of a cell
pub record-word : (l : Layout) (c j : ℕ) → Node l c → record_at l c + j ≡ cell_at l c + (3 + j)
record-word l c j n = omega (arith, cell-node l c n.low)

-- the record of a cell whose words stay
pub record_same
    : (l : Layout) (w w' : List ℕ) (c : ℕ) → Node l c → length w' ≡ length w
    → ((j : ℕ) → 3 + j < cell_words l c → get_or w' (cell_at l c + (3 + j)) 0 ≡ get_or w (cell_at l c + (3 + j)) 0)
    → record_in l w' c ≡ record_in l w c
record_same l w w' c n e h =
    ext_get_or 0 (record_in l w' c) (record_in l w c)
    (length-take l.width (drop (record_at l c) w')
    ∙ ap (λ (m : ℕ). min l.width m) (length-drop (record_at l c) w' ∙ ap (λ (m : ℕ). m - record_at l c) e ∙ sym (length-drop (record_at l c) w))
    ∙ sym (length-take l.width (drop (record_at l c) w)))
    at
  where
    word : (x : List ℕ) (j : ℕ) → j < l.width → get_or (record_in l x c) j 0 ≡ get_or x (cell_at l c + (3 + j)) 0
    word x j g =
        get_or-take l.width (drop (record_at l c) x) j 0 g
        ∙ get_or-drop (record_at l c) x j 0
        ∙ ap (λ (a : ℕ). get_or x a 0) (record-word l c j n)

    at : (j : ℕ) → j < length (record_in l w' c) → get_or (record_in l w' c) j 0 ≡ get_or (record_in l w c) j 0
    at j g =
        let b : j < l.width = omega (arith, length-take l.width (drop (record_at l c) w')) in
        word w' j b ∙ h j (omega (arith, words-node l c n.low)) ∙ sym (word w j b)

-- two cells of a list and a node that is neither
module _ (l : Layout) (w : List ℕ) (exact : length w ≡ size_of l) (k : ℕ) (t : Site) (hk : k < l.lists)
    (ha : t.before < cell_count l) (hb : t.after < cell_count l) (hc : Node l t.cell)
    (ca : t.cell ≡ t.before → ⊥) (cb : t.cell ≡ t.after → ⊥) where
  -- the cell is no header
  pub not-header : t.cell ≡ k → ⊥
  not-header e = omega (arith, hc.low)

  pub count-words : 3 < cell_words l k
  count-words = omega (arith, words-header l k hk)

  pub fits : (i f : ℕ) → i < cell_count l → f < cell_words l i → cell_at l i + f < length w
  fits i f h g = subst (λ (n : ℕ). cell_at l i + f < n) (sym exact) (word_fits l i f h g)

  -- word f of cell i is none of those that are written, seen from each store
  pub spare-link : (i f j g : ℕ) → f < cell_words l i → g < 3 → (i ≡ j → f ≡ g → ⊥) → cell_at l i + f ≡ cell_at l j + g → ⊥
  spare-link i f j g h b n = words-apart l i j f g n h (links-words l j g b)

  pub spare-ident : (i f j : ℕ) → f < cell_words l i → (i ≡ j → f ≡ 0 → ⊥) → cell_at l i + f ≡ ident_at l j → ⊥
  spare-ident i f j h n e = spare-link i f j 0 h (omega arith) n (e ∙ ident-word l j)

  pub spare-count : (i f : ℕ) → f < cell_words l i → (i ≡ k → f ≡ 3 → ⊥) → cell_at l i + f ≡ count_at l k → ⊥
  spare-count i f h n e = words-apart l i k f 3 n h count-words (e ∙ count-word l k hk)

  -- an insert
  module _ (words : List ℕ) (size : length words ≡ tail_words l) where
    pub insert-spares
        : (i f : ℕ) → f < cell_words l i → (i ≡ t.cell → ⊥) → (i ≡ k → f ≡ 3 → ⊥)
        → (i ≡ t.before → f ≡ 1 → ⊥) → (i ≡ t.after → f ≡ 2 → ⊥) → Spares (cell_at l i + f) (insert_writes l k t words)
    unfolding insert_writes insert_links
    insert-spares i f h nc nk na nb =
        all_append (λ (p : Write). cell_at l i + f ≡ p.at → ⊥) (in_row (record_at l t.cell) words) (insert_links l k t)
        (row-spares (cell_at l i + f) (record_at l t.cell) words
        (λ j g e. words-apart l i t.cell f (3 + j) (λ q _. nc q) h (omega (arith, words-node l t.cell hc.low))
        (e ∙ record-word l t.cell j hc))) (
          spare-link i f t.cell 1 h (omega arith) (λ q _. nc q),
          (
            spare-link i f t.cell 2 h (omega arith) (λ q _. nc q),
            (
              spare-ident i f t.cell h (λ q _. nc q),
              (
                spare-count i f h nk,
                (
                  spare-link i f t.before 1 h (omega arith) na,
                  (spare-link i f t.after 2 h (omega arith) nb, tt),
                ),
              ),
            ),
          ),
        )

    abbrev pub Row : List Write
    Row = in_row (record_at l t.cell) words

    abbrev Done : List ℕ
    Done = run (insert_writes l k t words) w

    pub insert-forward : get_or Done (forward_at l t.cell) 0 ≡ t.after
    unfolding insert_writes insert_links
    insert-forward =
        run_in Row (write (forward_at l t.cell) t.after) _ w (fits t.cell 1 hc.high (links-words l _ 1 (omega arith))) (
          spare-link t.cell 1 t.cell 2 (links-words l _ 1 (omega arith)) (omega arith) (λ _ e. omega arith),
          (
            spare-ident t.cell 1 t.cell (links-words l _ 1 (omega arith)) (λ _ e. omega arith),
            (
              spare-count t.cell 1 (links-words l _ 1 (omega arith)) (λ e _. not-header e),
              (
                spare-link t.cell 1 t.before 1 (links-words l _ 1 (omega arith)) (omega arith) (λ e _. ca e),
                (spare-link t.cell 1 t.after 2 (links-words l _ 1 (omega arith)) (omega arith) (λ e _. cb e), tt),
              ),
            ),
          ),
        )

    pub insert-back : get_or Done (back_at l t.cell) 0 ≡ t.before
    unfolding insert_writes insert_links
    insert-back =
        ap (λ (ps : List Write). get_or (run ps w) (back_at l t.cell) 0) (sym (append_assoc Row (write (forward_at l t.cell) t.after ∷ []) _))
        ∙ run_in (Row ++ write (forward_at l t.cell) t.after ∷ []) (write (back_at l t.cell) t.before) _ w
        (fits t.cell 2 hc.high (links-words l _ 2 (omega arith))) (
          spare-ident t.cell 2 t.cell (links-words l _ 2 (omega arith)) (λ _ e. omega arith),
          (
            spare-count t.cell 2 (links-words l _ 2 (omega arith)) (λ e _. not-header e),
            (
              spare-link t.cell 2 t.before 1 (links-words l _ 2 (omega arith)) (omega arith) (λ e _. ca e),
              (spare-link t.cell 2 t.after 2 (links-words l _ 2 (omega arith)) (omega arith) (λ e _. cb e), tt),
            ),
          ),
        )

    pub insert-ident : get_or Done (ident_at l t.cell) 0 ≡ ident_of k
    unfolding insert_writes insert_links
    insert-ident =
        ap (λ (ps : List Write). get_or (run ps w) (ident_at l t.cell) 0)
        (sym (append_assoc Row (write (forward_at l t.cell) t.after ∷ write (back_at l t.cell) t.before ∷ []) _))
        ∙ run_in (Row ++ write (forward_at l t.cell) t.after ∷ write (back_at l t.cell) t.before ∷ [])
        (write (ident_at l t.cell) (ident_of k)) _ w
        (subst (λ (a : ℕ). a < length w) (sym (ident-word l t.cell)) (fits t.cell 0 hc.high (links-words l _ 0 (omega arith)))) (
          (λ e. spare-count t.cell 0 (links-words l _ 0 (omega arith)) (λ q _. not-header q) (sym (ident-word l t.cell) ∙ e)),
          (
            (λ e. spare-link t.cell 0 t.before 1 (links-words l _ 0 (omega arith)) (omega arith) (λ q _. ca q) (sym (ident-word l t.cell) ∙ e)),
            ((λ e. spare-link t.cell 0 t.after 2 (links-words l _ 0 (omega arith)) (omega arith) (λ q _. cb q) (sym (ident-word l t.cell) ∙ e)), tt),
          ),
        )

    abbrev pub Cell-writes : List Write
    Cell-writes = write (forward_at l t.cell) t.after ∷ write (back_at l t.cell) t.before ∷ write (ident_at l t.cell) (ident_of k) ∷ []

    -- the stores in front of the central one
    abbrev pub First : List Write
    First = Row ++ (Cell-writes ++ write (count_at l k) (t.count + 1) ∷ [])

    pub first-central : insert_writes l k t words ≡ First ++ (write (forward_at l t.before) t.cell ∷ write (back_at l t.after) t.cell ∷ [])
    unfolding insert_writes insert_links
    first-central = sym (append_assoc Row (Cell-writes ++ write (count_at l k) (t.count + 1) ∷ []) _)

    pub first-length : length First ≡ tail_words l + 4
    first-length =
        omega (arith, length-append Row (Cell-writes ++ write (count_at l k) (t.count + 1) ∷ []), length-row (record_at l t.cell) words)

    -- they go to the new cell and the count
    pub first-spares : (i f : ℕ) → f < cell_words l i → (i ≡ t.cell → ⊥) → (i ≡ k → f ≡ 3 → ⊥) → Spares (cell_at l i + f) First
    first-spares i f h nc nk =
        all_append (λ (p : Write). cell_at l i + f ≡ p.at → ⊥) Row (Cell-writes ++ write (count_at l k) (t.count + 1) ∷ [])
        (row-spares (cell_at l i + f) (record_at l t.cell) words
        (λ j g e. words-apart l i t.cell f (3 + j) (λ q _. nc q) h (omega (arith, words-node l t.cell hc.low))
        (e ∙ record-word l t.cell j hc))) (
          spare-link i f t.cell 1 h (omega arith) (λ q _. nc q),
          (
            spare-link i f t.cell 2 h (omega arith) (λ q _. nc q),
            (
              spare-ident i f t.cell h (λ q _. nc q),
              (spare-count i f h nk, tt),
            ),
          ),
        )

    pub insert-count : get_or Done (count_at l k) 0 ≡ t.count + 1
    unfolding insert_writes insert_links
    insert-count =
        ap (λ (ps : List Write). get_or (run ps w) (count_at l k) 0) (sym (append_assoc Row Cell-writes _))
        ∙ run_in (Row ++ Cell-writes) (write (count_at l k) (t.count + 1)) _ w
        (subst (λ (a : ℕ). a < length w) (sym (count-word l k hk)) (fits k 3 (omega arith) count-words)) (
          (λ e. words-apart l k t.before 3 1 (λ _ q. omega arith) count-words (links-words l _ 1 (omega arith)) (sym (count-word l k hk) ∙ e)),
          ((λ e. words-apart l k t.after 3 2 (λ _ q. omega arith) count-words (links-words l _ 2 (omega arith)) (sym (count-word l k hk) ∙ e)), tt),
        )

    pub insert-before : get_or Done (forward_at l t.before) 0 ≡ t.cell
    unfolding insert_writes insert_links
    insert-before =
        ap (λ (ps : List Write). get_or (run ps w) (forward_at l t.before) 0)
        (sym (append_assoc Row (Cell-writes ++ write (count_at l k) (t.count + 1) ∷ []) _))
        ∙ run_in (Row ++ (Cell-writes ++ write (count_at l k) (t.count + 1) ∷ [])) (write (forward_at l t.before) t.cell) _ w
        (fits t.before 1 ha (links-words l _ 1 (omega arith)))
        (spare-link t.before 1 t.after 2 (links-words l _ 1 (omega arith)) (omega arith) (λ _ e. omega arith), tt)

    pub insert-after : get_or Done (back_at l t.after) 0 ≡ t.cell
    unfolding insert_writes insert_links
    insert-after =
        ap (λ (ps : List Write). get_or (run ps w) (back_at l t.after) 0)
        (sym (append_assoc Row (Cell-writes ++ write (count_at l k) (t.count + 1) ∷ write (forward_at l t.before) t.cell ∷ []) _))
        ∙ run_in (Row ++ (Cell-writes ++ write (count_at l k) (t.count + 1) ∷ write (forward_at l t.before) t.cell ∷ []))
        (write (back_at l t.after) t.cell) [] w
        (fits t.after 2 hb (links-words l _ 2 (omega arith))) tt

    -- the record is stored as given
    pub insert-record : record_in l Done t.cell ≡ take l.width words
    unfolding insert_writes insert_links
    insert-record =
        ext_get_or 0 (record_in l Done t.cell) (take l.width words)
        (length-take-le l.width (drop (record_at l t.cell) Done) room ∙ sym (length-take-le l.width words (omega arith))) at
      where
        whole : record_at l t.cell + tail_words l ≤ length w
        whole = omega (arith, node-fits l t.cell hc)

        room : l.width ≤ length (drop (record_at l t.cell) Done)
        room = omega (arith, whole, length-drop (record_at l t.cell) Done, length_run (insert_writes l k t words) w)

        at : (j : ℕ) → j < length (record_in l Done t.cell) → get_or (record_in l Done t.cell) j 0 ≡ get_or (take l.width words) j 0
        at j g =
            let b : j < l.width = omega (arith, length-take l.width (drop (record_at l t.cell) Done)) in
            let q : 3 + j < cell_words l t.cell = omega (arith, words-node l t.cell hc.low) in
            get_or-take l.width (drop (record_at l t.cell) Done) j 0 b
            ∙ get_or-drop (record_at l t.cell) Done j 0
            ∙ ap (λ (x : List ℕ). get_or x (record_at l t.cell + j) 0) (run-append Row (insert_links l k t) w)
            ∙ ap (λ (a : ℕ). get_or (run (insert_links l k t) (run Row w)) a 0) (record-word l t.cell j hc)
            ∙ run_out (insert_links l k t) (run Row w) (cell_at l t.cell + (3 + j)) (
              spare-link t.cell (3 + j) t.cell 1 q (omega arith) (λ _ e. omega arith),
              (
                spare-link t.cell (3 + j) t.cell 2 q (omega arith) (λ _ e. omega arith),
                (
                  spare-ident t.cell (3 + j) t.cell q (λ _ e. omega arith),
                  (
                    spare-count t.cell (3 + j) q (λ e _. not-header e),
                    (
                      spare-link t.cell (3 + j) t.before 1 q (omega arith) (λ e _. ca e),
                      (spare-link t.cell (3 + j) t.after 2 q (omega arith) (λ e _. cb e), tt),
                    ),
                  ),
                ),
              ),
            )
            ∙ ap (λ (a : ℕ). get_or (run Row w) a 0) (sym (record-word l t.cell j hc))
            ∙ row_at (record_at l t.cell) words w j (omega (arith, whole)) (omega arith)
            ∙ sym (get_or-take l.width words j 0 b)

  -- a delete; its last stores go to the record words of the cell
  pub blank-spares : (i f : ℕ) → f < cell_words l i → (i ≡ t.cell → 3 ≤ f → ⊥) → Spares (cell_at l i + f) (blank_asked l t.cell)
  blank-spares i f h nr =
      row-spares (cell_at l i + f) (record_at l t.cell) (replicate (tail_words l) 0)
      (λ j g e.
      words-apart l i t.cell f (3 + j) (λ q z. nr q (omega arith)) h
      (omega (arith, words-node l t.cell hc.low, length-replicate {A = ℕ} (tail_words l) 0)) (e ∙ record-word l t.cell j hc))

  pub delete-spares
      : (i f : ℕ) → f < cell_words l i → (i ≡ t.cell → f ≡ 0 → ⊥) → (i ≡ t.cell → 3 ≤ f → ⊥) → (i ≡ k → f ≡ 3 → ⊥)
      → (i ≡ t.before → f ≡ 1 → ⊥) → (i ≡ t.after → f ≡ 2 → ⊥) → Spares (cell_at l i + f) (delete_writes l k t)
  unfolding delete_writes delete_links
  delete-spares i f h nc nr nk na nb = (
    spare-link i f t.after 2 h (omega arith) nb,
    (
      spare-link i f t.before 1 h (omega arith) na,
      (
        spare-count i f h nk,
        (spare-ident i f t.cell h nc, blank-spares i f h nr),
      ),
    ),
  )

  abbrev Gone : List ℕ
  Gone = run (delete_writes l k t) w

  pub delete-after : get_or Gone (back_at l t.after) 0 ≡ t.before
  unfolding delete_writes delete_links
  delete-after =
      run_in [] (write (back_at l t.after) t.before) _ w (fits t.after 2 hb (links-words l _ 2 (omega arith))) (
        spare-link t.after 2 t.before 1 (links-words l _ 2 (omega arith)) (omega arith) (λ _ e. omega arith),
        (
          spare-count t.after 2 (links-words l _ 2 (omega arith)) (λ _ e. omega arith),
          (
            spare-ident t.after 2 t.cell (links-words l _ 2 (omega arith)) (λ _ e. omega arith),
            blank-spares t.after 2 (links-words l _ 2 (omega arith)) (λ _ e. omega arith),
          ),
        ),
      )

  pub delete-before : get_or Gone (forward_at l t.before) 0 ≡ t.after
  unfolding delete_writes delete_links
  delete-before =
      run_in (write (back_at l t.after) t.before ∷ []) (write (forward_at l t.before) t.after) _ w
      (fits t.before 1 ha (links-words l _ 1 (omega arith))) (
        spare-count t.before 1 (links-words l _ 1 (omega arith)) (λ _ e. omega arith),
        (
          spare-ident t.before 1 t.cell (links-words l _ 1 (omega arith)) (λ _ e. omega arith),
          blank-spares t.before 1 (links-words l _ 1 (omega arith)) (λ _ e. omega arith),
        ),
      )

  pub delete-count : get_or Gone (count_at l k) 0 ≡ t.count - 1
  unfolding delete_writes delete_links
  delete-count =
      run_in (write (back_at l t.after) t.before ∷ write (forward_at l t.before) t.after ∷ []) (write (count_at l k) (t.count - 1)) _ w
      (subst (λ (a : ℕ). a < length w) (sym (count-word l k hk)) (fits k 3 (omega arith) count-words)) (
        (λ e. spare-ident k 3 t.cell count-words (λ _ q. omega arith) (sym (count-word l k hk) ∙ e)),
        subst (λ (a : ℕ). Spares a (blank_asked l t.cell)) (sym (count-word l k hk)) (blank-spares k 3 count-words (λ q _. not-header (sym q))),
      )

  pub delete-ident : get_or Gone (ident_at l t.cell) 0 ≡ 0
  unfolding delete_writes delete_links
  delete-ident =
      run_in
      (write (back_at l t.after) t.before ∷ write (forward_at l t.before) t.after ∷ write (count_at l k) (t.count - 1) ∷ [])
      (write (ident_at l t.cell) 0) _ w
      (subst (λ (a : ℕ). a < length w) (sym (ident-word l t.cell)) (fits t.cell 0 hc.high (links-words l _ 0 (omega arith))))
      (subst (λ (a : ℕ). Spares a (blank_asked l t.cell)) (sym (ident-word l t.cell))
      (blank-spares t.cell 0 (links-words l _ 0 (omega arith)) (λ _ e. omega arith)))

  -- nothing is left of the record
  pub delete-record : Blank l Gone t.cell
  unfolding delete_writes
  delete-record f g =
      let n = length-replicate {A = ℕ} (tail_words l) 0 in
      ap (λ (x : List ℕ). get_or x (record_at l t.cell + f) 0) (run-append (delete_links l k t) (blank_asked l t.cell) w)
      ∙ row_at (record_at l t.cell) (replicate (tail_words l) 0) (run (delete_links l k t) w) f
      (omega (arith, n, node-fits l t.cell hc, length_run (delete_links l k t) w)) (omega (arith, n))
      ∙ get_or-replicate (tail_words l) f 0 0 g
