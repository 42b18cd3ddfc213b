-- The suffix law: after the first stores of its plan the same sequence is chosen for every list, so the plan is the rest.
use Prim.Native.Nat.{ℕ, zero, suc, ◌+◌, ◌<◌, ◌≤◌}
use mathlib.Core.Path.{◌≡◌, refl, ap, ◌∙◌, sym, subst}
use mathlib.Core.List.{List, [], ◌∷◌, ◌++◌, map, append_assoc, Memᴰ}
use mathlib.Core.Logic.{◌⊎◌, inl, inr, ⊎_elim}
use native.Mathlib.Omega.{arith}
use lib.ListN.{length, get_or, take, drop, take-append-drop}
use borrow.Author.Tests.{ne_eqb}
use Rattle.sequences.specs.Sequence.{◌∈◌, All}
use Rattle.sequences.proofs.Members.{all_in, in_all, one-image}
use Rattle.stores.specs.Stores.{Write, write, applied}
use Rattle.stores.proofs.Laws.{run-word}
use Rattle.layout.specs.declared.Layout.{Layout}
use Rattle.layout.specs.Words.{link_words, count_word, first_node, Node, size_of, cell_at, cell_words, ident_at, ident_of, worn_ident, worn, is_worn}
use Rattle.layout.proofs.Apart.{words-apart, links-words, words-header, tail-word}
use Rattle.lists.specs.Lists.{asked, others_asked, count_asked, Agrees}
use Rattle.lists.specs.Decide.{view_of, count_in}
use Rattle.lists.proofs.Same.{ident-word, count-word}
use Rattle.recovery.specs.Fits.{wrong, Fits, Counted}
use Rattle.recovery.specs.Plan.{joined, lists_asked, clears_asked, blanks_asked, wipes_asked, required, recover_stores, Accepted, Kind, mend, clear, wipe}
use Rattle.recovery.proofs.Candidates.{sequence-dec, wrong-others, right-idents, forward-candidate, back-candidate, candidates, rivals, chosen-beside, beside-chosen, fit-accepted}
use Rattle.recovery.proofs.Required.{Right, right?, wrong-append, agrees-wrong, wrong-in, in-wrong, wrong-same, wrong-fewer, wrong-rest, Once, once-apart}
use Rattle.recovery.proofs.Slots.{slot, slot-links, same-cell}
use Rattle.recovery.proofs.Joined.{one-joined, joined-split, ring_out, out-same}
use Rattle.recovery.proofs.Count.{plan-kinds, required-once, required-inside}

-- the cells have the same words, but for the nodes' records
abbrev pub SameLinks : Layout → List ℕ → List ℕ → List ℕ → Type 0
SameLinks l w x cells =
    (c f : ℕ) → c ∈ cells → f < cell_words l c → (first_node l ≤ c → f < link_words) → get_or x (cell_at l c + f) 0 ≡ get_or w (cell_at l c + f) 0

-- so are all cells of a sequence: it fits alike
module _ (l : Layout) (w x : List ℕ) (k : ℕ) (h : k < l.lists) (s : List ℕ) (c : SameLinks l w x (k ∷ s)) where
  others_same : wrong x (others_asked l k s) ≡ wrong w (others_asked l k s)
  unfolding asked
  others_same =
      wrong-same w x (others_asked l k s)
      (λ p m.
      let y = slot l k s h (mathlib.Core.List.Memᴰ.append_left (count_asked l k s) m) in
      ap (λ (a : ℕ). get_or x a 0) y.at ∙ c y.cell y.word y.within y.fits (slot-links h y) ∙ ap (λ (a : ℕ). get_or w a 0) (sym y.at))

  pub fits-same : Fits l w k s → Fits l x k s
  fits-same f = record { nodes = f.nodes; different = f.different; few = subst (λ (ps : List Write). length ps ≤ 1) (sym others_same) f.few }

  same-fits : Fits l x k s → Fits l w k s
  same-fits f = record { nodes = f.nodes; different = f.different; few = subst (λ (ps : List Write). length ps ≤ 1) others_same f.few }

  pub same_count : count_in l x k ≡ count_in l w k
  same_count =
      ap (λ (a : ℕ). get_or x a 0) (count-word l k h)
      ∙ c k count_word (mathlib.Core.List.Memᴰ.head refl) (omega (arith, words-header l k h)) (λ q. omega arith)
      ∙ ap (λ (a : ℕ). get_or w a 0) (sym (count-word l k h))

-- a sequence with nothing wrong but perhaps the count is the only one that fits
pub right_unique
    : (l : Layout) (x : List ℕ) (k : ℕ) → k < l.lists → (s : List ℕ) → Fits l x k s → wrong x (others_asked l k s) ≡ []
    → (r : List ℕ) → Fits l x k r → r ≡ s
right_unique l x k h s f e r g =
    let n : length (wrong x (others_asked l k s)) ≡ 0 = ap length e in
    ⊎_elim (λ d. sym d ∙ forward-candidate l x k h s f (omega (arith, wrong-others l x k s)))
    (λ d. sym d ∙ back-candidate l x k h s f (omega (arith, wrong-others l x k s))) (candidates l x k h r g)

-- of one wrong word at most
one_of : (ps : List Write) {p q : Write} → length ps ≤ 1 → Memᴰ p ps → Memᴰ q ps → p ≡ q
one_of [] h m n = absurd (elim m [ ])
one_of (r ∷ []) h m n = mathlib.Core.List.Memᴰ.eq_of_singleton m ∙ sym (mathlib.Core.List.Memᴰ.eq_of_singleton n)
one_of (r ∷ t ∷ ps) h m n = absurd (omega arith)

-- words x in which some of the plan's stores are made: each word is as before, or it was wrong and is right now
module _ (l : Layout) (w : List ℕ) (s : ℕ → List ℕ) (a : Accepted l w s) (x : List ℕ)
    (made : (b : ℕ) → (get_or x b 0 ≡ get_or w b 0) ⊎ ((p : Write) × Memᴰ p (recover_stores l w s) × (p.at ≡ b) × (get_or x b 0 ≡ p.value))) where
  -- what was right is right
  kept : (k : ℕ) → k < l.lists → (p : Write) → Memᴰ p (asked l k (s k)) → Right w p → Right x p
  kept k h p m e =
      ⊎_elim (λ q. q ∙ e)
      (λ q.
      q.3
      ∙ ap (λ (t : Write). t.value)
      (one-image (λ (t : Write). t.at) (required l w s) (required-once l w s a.fits) (wrong-in w (required l w s) q.1).0
      (mathlib.Core.List.Memᴰ.append_left (clears_asked l w s ++ wipes_asked l w s) (one-joined (λ j. asked l j (s j)) l.lists k p h m)) q.2))
      (made p.at)

  -- so every sequence fits
  still : (k : ℕ) → k < l.lists → Fits l x k (s k)
  unfolding asked
  still k h =
      record {
        nodes = (a.fits k h).nodes;
        different = (a.fits k h).different;
        few =
            omega (
              arith,
              (a.fits k h).few,
              wrong-fewer w x (others_asked l k (s k)) (λ p m. kept k h p (mathlib.Core.List.Memᴰ.append_left (count_asked l k (s k)) m)),
            );
      }

  -- the same nodes in no list are worn: no store goes to one that is, or writes what makes one so
  pub worn-kept : (c : ℕ) → Node l c → (c ∈ joined s l.lists → ⊥) → is_worn (get_or x (ident_at l c) 0) ≡ is_worn (get_or w (ident_at l c) 0)
  worn-kept c n o =
      ⊎_elim (λ e. ap is_worn e)
      (λ q. stored q.0 (all_in (Kind l w s) (recover_stores l w s) (plan-kinds l w s) q.1) q.2 q.3) (made (ident_at l c))
    where
      stored : (p : Write) → Kind l w s p → p.at ≡ ident_at l c → get_or x (ident_at l c) 0 ≡ p.value
          → is_worn (get_or x (ident_at l c) 0) ≡ is_worn (get_or w (ident_at l c) 0)
      stored p (mend k h t) e v =
          let y = slot l k (s k) h (wrong-in w (asked l k (s k)) t).0 in
          let here = same-cell l c y.cell 0 y.word (links-words l c 0 (omega arith)) y.fits (sym (ident-word l c) ∙ sym e ∙ y.at) in
          absurd (ring_out l s k c h n.low o (mathlib.Core.List.Memᴰ.cast here y.within))
      stored p (clear d low out nz z) e v =
          let there : ident_at l c ≡ ident_at l d = sym e ∙ ap (λ (t : Write). t.at) z in
          let now : get_or x (ident_at l c) 0 ≡ 0 = v ∙ ap (λ (t : Write). t.value) z in
          ne_eqb _ worn_ident (λ q. omega (arith, sym now ∙ q))
          ∙ sym (ne_eqb _ worn_ident (λ q. nz (worn (ap (λ (b : ℕ). get_or w b 0) (sym there) ∙ q))))
      stored p (wipe d nd out nw g hg nz z) e v =
          let y = tail-word l d g nd.low hg in
          absurd
          (words-apart l c d 0 (link_words + g) (λ _ q. omega arith) (links-words l c 0 (omega arith)) y.1
          (sym (ident-word l c) ∙ sym e ∙ ap (λ (t : Write). t.at) z ∙ y.0))

  -- so the same is required
  pub required-kept : required l x s ≡ required l w s
  required-kept =
      ap (λ (cs : List ℕ). lists_asked l s ++ (map (λ c. write (ident_at l c) 0) cs ++ blanks_asked l cs))
      (out-same (view_of l w).ident (view_of l x).ident (joined s l.lists) (first_node l) l.nodes
      (λ c p q o. worn-kept c (record { low = p; high = q }) o))

-- where the count of a list is stored only once its other words are right
module _ (l : Layout) (w : List ℕ) (s : ℕ → List ℕ) (a : Accepted l w s) (x : List ℕ)
    (made : (b : ℕ) → (get_or x b 0 ≡ get_or w b 0) ⊎ ((p : Write) × Memᴰ p (recover_stores l w s) × (p.at ≡ b) × (get_or x b 0 ≡ p.value)))
    (last : (k : ℕ) → k < l.lists → (p : Write) → Memᴰ p (wrong w (count_asked l k (s k))) → Right x p → Agrees x (others_asked l k (s k))) where
  -- a list one of whose words was stored has nothing wrong any more but perhaps the count
  mended : (k : ℕ) → k < l.lists → (p : Write) → Memᴰ p (wrong w (asked l k (s k))) → Right x p → wrong x (others_asked l k (s k)) ≡ []
  unfolding asked
  mended k h p m e =
      ⊎_elim (λ o. agrees-wrong x Others (in_all (Right x) Others (other o))) (λ c. agrees-wrong x Others (last k h p c e))
      (mathlib.Core.List.Memᴰ.append_cases (wrong w Others) (subst (Memᴰ p) (wrong-append w Others (count_asked l k (s k))) m))
    where
      Others : List Write
      Others = others_asked l k (s k)

      other : Memᴰ p (wrong w Others) → (q : Write) → Memᴰ q Others → Right x q
      other o q t =
          elim (right? w q) [
            | yes r ↦ kept l w s a x made k h q (mathlib.Core.List.Memᴰ.append_left (count_asked l k (s k)) t) r
            | no n ↦ subst (Right x) (one_of (wrong w Others) (a.fits k h).few o (in-wrong w Others t n)) e
          ]

  -- Another sequence that fits list j has all identifiers right. So no store went to one of its cells, but perhaps to a record: the cells of a
  -- list that was stored to carry that list's identifier, a cleared node carries none.
  module _ (j : ℕ) (h : j < l.lists) (r : List ℕ) (g : Fits l x j r) (n : r ≡ s j → ⊥) where
    idents : All (λ c. get_or x (ident_at l c) 0 ≡ ident_of j) (j ∷ r)
    idents =
        ⊎_elim (λ v. (v.first.header, v.first.idents)) (λ v. (v.second.header, v.second.idents)) (rivals l x j h r (s j) g (still l w s a x made j h) n)

    untouched : (c f : ℕ) → c ∈ (j ∷ r) → f < cell_words l c → (first_node l ≤ c → f < link_words) → (p : Write) → Kind l w s p → p.at ≡ cell_at l c + f → Right x p → ⊥
    untouched c f m hf hl p (mend k hk t) e q =
        let y = slot l k (s k) hk (wrong-in w (asked l k (s k)) t).0 in
        let right = mended k hk p t q in
        let own : (get_or x (ident_at l k) 0 ≡ ident_of k) × All (λ c. get_or x (ident_at l c) 0 ≡ ident_of k) (s k) =
        right-idents l x k (s k) (omega (arith, wrong-others l x k (s k), ap length right)) in
        let same : 42400 + k ≡ 42400 + j =
        sym (all_in (λ c. get_or x (ident_at l c) 0 ≡ ident_of k) (k ∷ s k) own
        (mathlib.Core.List.Memᴰ.cast (same-cell l c y.cell f y.word hf y.fits (sym e ∙ y.at)) y.within))
        ∙ all_in (λ c. get_or x (ident_at l c) 0 ≡ ident_of j) (j ∷ r) idents m in
        let i : k ≡ j = omega arith in
        n (subst (λ (i : ℕ). (t : List ℕ) → Fits l x i t → t ≡ s i) i (right_unique l x k hk (s k) (still l w s a x made k hk) right) r g)
    untouched c f m hf hl p (clear d low out nz z) e q =
        let there : p.at ≡ ident_at l d = ap (λ (t : Write). t.at) z in
        let i : c ≡ d = same-cell l c d f 0 hf (links-words l d 0 (omega arith)) (sym e ∙ there ∙ ident-word l d) in
        let free : get_or x (ident_at l d) 0 ≡ 0 = ap (λ (b : ℕ). get_or x b 0) (sym there) ∙ q ∙ ap (λ (t : Write). t.value) z in
        omega (arith, free, ap (λ (b : ℕ). get_or x (ident_at l b) 0) i, all_in (λ c. get_or x (ident_at l c) 0 ≡ ident_of j) (j ∷ r) idents m)
    untouched c f m hf hl p (wipe d nd out nw g hg nz z) e q =
        let y = tail-word l d g nd.low hg in
        words-apart l c d f (link_words + g) (λ i a. omega (arith, hl (subst (λ (b : ℕ). first_node l ≤ b) (sym i) nd.low))) hf y.1
        (sym e ∙ ap (λ (t : Write). t.at) z ∙ y.0)

    same-cells : SameLinks l w x (j ∷ r)
    same-cells c f m hf hl =
        ⊎_elim (λ e. e)
        (λ q.
        absurd (untouched c f m hf hl q.0 (all_in (Kind l w s) (recover_stores l w s) (plan-kinds l w s) q.1) q.2
        (ap (λ (b : ℕ). get_or x b 0) q.2 ∙ q.3)))
        (made (cell_at l c + f))

  -- and the same one is chosen: beside another that fits now, which fitted before, the count is as before
  pub still-accepted : Accepted l x s
  still-accepted = fit-accepted l x s (λ j h. beside-chosen l x j h (s j) (still l w s a x made j h) (beside j h))
    where
      beside : (j : ℕ) (h : j < l.lists) (r : List ℕ) → Fits l x j r → (r ≡ s j) ⊎ (Counted l x j (s j) × (Counted l x j r → ⊥))
      beside j h r g = elim (sequence-dec r (s j)) [ yes e ↦ inl e | no n ↦ other n ]
        where
          other : (r ≡ s j → ⊥) → (r ≡ s j) ⊎ (Counted l x j (s j) × (Counted l x j r → ⊥))
          other n =
              let c = same-cells j h r g n in
              let e = same_count l w x j h r c in
              ⊎_elim inl (λ q. inr (e ∙ q.0, λ d. q.1 (sym e ∙ d)))
              (chosen-beside l w j h (s j) (a.chosen j h) r (same-fits l w x j h r c g))

-- as the words are after the first t stores
pub first_made : (ps : List Write) (t : ℕ) (w : List ℕ) (b : ℕ)
    → (get_or (applied ps t w) b 0 ≡ get_or w b 0) ⊎ ((p : Write) × Memᴰ p ps × (p.at ≡ b) × (get_or (applied ps t w) b 0 ≡ p.value))
first_made ps t w b =
    ⊎_elim inl (λ r. inr (r.0, subst (Memᴰ r.0) (take-append-drop t ps) (mathlib.Core.List.Memᴰ.append_left (drop t ps) r.1), r.2, r.3)) (run-word (take t ps) w b)

-- of two parts of a plan the second is begun once the first is made: while a store q of the first is left, so are all of the second
later-part : (ps qs : List Write) (t : ℕ) {p q : Write} → (Memᴰ q qs → ⊥) → Memᴰ p qs → Memᴰ q (drop t (ps ++ qs)) → Memᴰ p (drop t (ps ++ qs))
later-part [] qs t n m d = absurd (n (subst (Memᴰ _) (take-append-drop t qs) (mathlib.Core.List.Memᴰ.append_right (take t qs) d)))
later-part (r ∷ ps) qs zero n m d = mathlib.Core.List.Memᴰ.append_right (r ∷ ps) m
later-part (r ∷ ps) qs (suc t) n m d = later-part ps qs t n m d

-- the plan in two parts: up to the other words of list k, and from its count on
module _ (l : Layout) (s : ℕ → List ℕ) (w : List ℕ) (k : ℕ) (h : k < l.lists) where
  abbrev Before : List Write
  Before = joined (λ j. asked l j (s j)) k ++ others_asked l k (s k)

  split : (rest : List Write) × (required l w s ≡ Before ++ (count_asked l k (s k) ++ rest))
  unfolding asked
  split =
      let r = joined-split (λ j. asked l j (s j)) l.lists k h in
      let below = joined (λ j. asked l j (s j)) k in
      let others = others_asked l k (s k) in
      let count = count_asked l k (s k) in
      let outs = clears_asked l w s ++ wipes_asked l w s in (
        r.0 ++ outs,
        ap (λ (ps : List Write). ps ++ outs) r.1
            ∙ append_assoc below ((others ++ count) ++ r.0) outs
            ∙ ap (λ (ps : List Write). below ++ ps) (append_assoc (others ++ count) r.0 outs ∙ append_assoc others count (r.0 ++ outs))
            ∙ sym (append_assoc below others (count ++ (r.0 ++ outs))),
      )

-- so the count of a list is stored only once its other words are right
count-last
    : (l : Layout) (s : ℕ → List ℕ) (t : ℕ) (w : List ℕ) → length w ≡ size_of l → (a : Accepted l w s) (k : ℕ) → k < l.lists → (p : Write)
    → let y = applied (recover_stores l w s) t w in Memᴰ p (wrong w (count_asked l k (s k))) → Right y p → Agrees y (others_asked l k (s k))
unfolding asked
count-last l s t w e a k h p m now =
    in_all (Right y) (others_asked l k (s k))
    (λ q i. elim (right? y q) [ yes r ↦ r | no n ↦ absurd ((wrong-in y (required l w s) (left q i n)).1 now) ])
  where
    y : List ℕ
    y = applied (recover_stores l w s) t w

    two : (rest : List Write) × (required l w s ≡ Before l s w k h ++ (count_asked l k (s k) ++ rest))
    two = split l s w k h

    Behind : List Write
    Behind = count_asked l k (s k) ++ two.0

    parts : recover_stores l w s ≡ wrong w (Before l s w k h) ++ wrong w Behind
    parts = ap (wrong w) two.1 ∙ wrong-append w (Before l s w k h) Behind

    rest : wrong y (required l w s) ≡ drop t (wrong w (Before l s w k h) ++ wrong w Behind)
    rest =
        wrong-rest (required l w s) (required-once l w s a.fits) w t (required-inside l w s a.fits e) ∙ ap (drop t) parts

    left : (q : Write) → Memᴰ q (others_asked l k (s k)) → (Right y q → ⊥) → Memᴰ p (wrong y (required l w s))
    left q i n =
        let there : Memᴰ q (Before l s w k h) = mathlib.Core.List.Memᴰ.append_right (joined (λ j. asked l j (s j)) k) i in
        let asks : Memᴰ q (required l w s) = subst (Memᴰ q) (sym two.1) (mathlib.Core.List.Memᴰ.append_left Behind there) in
        subst (Memᴰ p) (sym rest)
        (later-part (wrong w (Before l s w k h)) (wrong w Behind) t
        (λ d. once-apart (Before l s w k h) Behind (subst Once two.1 (required-once l w s a.fits)) there (wrong-in w Behind d).0 refl)
        (in-wrong w Behind (mathlib.Core.List.Memᴰ.append_left two.0 (wrong-in w (count_asked l k (s k)) m).0) (wrong-in w (count_asked l k (s k)) m).1)
        (subst (Memᴰ q) rest (in-wrong y (required l w s) asks n)))

-- after them the plan is the rest of it, and for every list the same sequence is chosen
pub suffix
    : (l : Layout) (s : ℕ → List ℕ) (t : ℕ) (w : List ℕ) → length w ≡ size_of l → Accepted l w s
    → Accepted l (applied (recover_stores l w s) t w) s
    × (recover_stores l (applied (recover_stores l w s) t w) s ≡ drop t (recover_stores l w s))
suffix l s t w e a =
    let y = applied (recover_stores l w s) t w in
    let made = first_made (recover_stores l w s) t w in (
      still-accepted l w s a y made (count-last l s t w e a),
      ap (wrong y) (required-kept l w s a y made)
          ∙ wrong-rest (required l w s) (required-once l w s a.fits) w t (required-inside l w s a.fits e),
    )
