-- Requirements that ask no word twice: after the first stores of what is wrong of them the rest is wrong, after all nothing; as many
-- words differ then as stores were made; and one word altered is one store.
use Prim.Native.Nat.{ℕ, zero, suc, ◌+◌, ◌<◌, ◌≤◌}
use mathlib.Core.Path.{◌≡◌, refl, ap, ◌∙◌, sym, subst}
use mathlib.Core.List.Memᴰ
use mathlib.Core.List.{List, [], ◌∷◌, ◌++◌, map, map-append, Memᴰ, nil≢cons, head-eq_of_cons-eq, tail-eq_of_cons-eq}
use mathlib.Core.Logic.{⊎_elim}
use native.Mathlib.Decide.{ℕ_discrete}
use native.Mathlib.Omega.{arith}
use lib.ListN.{length, get_or, set, drop, length-set, length-append}
use lib.Seq.{drop-length, get_or-set_same, get_or-set_other}
use borrow.Author.Tests.{eq-eqb, ne_eqb}
use Rattle.sequences.specs.Sequence.{All, Different}
use Rattle.sequences.proofs.Members.{all_in, in_all, one-image, different-append}
use Rattle.stores.specs.Stores.{Write, write, store, run, applied, Spares}
use Rattle.stores.proofs.Laws.{run_out, length_run, applied-all}
use Rattle.lists.specs.Lists.{Agrees}
use Rattle.recovery.specs.Fits.{wrong}
use Rattle.recovery.specs.Plan.{differing}
use Rattle.recovery.proofs.Differing.{differing-self, differing-step}

-- the words hold what a requirement asks
abbrev pub Right : List ℕ → Write → Type 0
Right w p = get_or w p.at 0 ≡ p.value

pub right? : (w : List ℕ) (p : Write) → Dec (Right w p)
right? w p = ℕ_discrete (get_or w p.at 0) p.value

-- a word that is right, or wrong
pub wrong-right : (w : List ℕ) (p : Write) (ps : List Write) → Right w p → wrong w (p ∷ ps) ≡ wrong w ps
unfolding wrong
wrong-right w p ps e = rw (wrong, eq-eqb _ _ e)

pub wrong-wrong : (w : List ℕ) (p : Write) (ps : List Write) → (Right w p → ⊥) → wrong w (p ∷ ps) ≡ p ∷ wrong w ps
unfolding wrong
wrong-wrong w p ps n = rw (wrong, ne_eqb _ _ n)

pub wrong-append : (w : List ℕ) (ps qs : List Write) → wrong w (ps ++ qs) ≡ wrong w ps ++ wrong w qs
unfolding wrong
wrong-append w [] qs = refl
wrong-append w (p ∷ ps) qs =
    elim (right? w p) [
      | yes e ↦ wrong-right w p (ps ++ qs) e ∙ wrong-append w ps qs ∙ ap (λ (t : List Write). t ++ wrong w qs) (sym (wrong-right w p ps e))
      | no n ↦
          wrong-wrong w p (ps ++ qs) n ∙ ap (λ (t : List Write). p ∷ t) (wrong-append w ps qs)
          ∙ ap (λ (t : List Write). t ++ wrong w qs) (sym (wrong-wrong w p ps n))
    ]

pub wrong-length : (w : List ℕ) (ps qs : List Write) → length (wrong w (ps ++ qs)) ≡ length (wrong w ps) + length (wrong w qs)
wrong-length w ps qs = ap length (wrong-append w ps qs) ∙ length-append (wrong w ps) (wrong w qs)

-- no word is wrong exactly if the words agree
pub agrees-wrong : (w : List ℕ) (ps : List Write) → Agrees w ps → wrong w ps ≡ []
unfolding wrong
agrees-wrong w [] h = refl
agrees-wrong w (p ∷ ps) h = wrong-right w p ps h.0 ∙ agrees-wrong w ps h.1

pub wrong-agrees : (w : List ℕ) (ps : List Write) → length (wrong w ps) ≡ 0 → Agrees w ps
wrong-agrees w [] e = tt
wrong-agrees w (p ∷ ps) e =
    elim (right? w p) [
      | yes q ↦ (q, wrong-agrees w ps (ap length (sym (wrong-right w p ps q)) ∙ e))
      | no n ↦ absurd (omega (arith, ap length (wrong-wrong w p ps n)))
    ]

-- the wrong words, one by one
pub wrong-in : (w : List ℕ) (ps : List Write) {p : Write} → Memᴰ p (wrong w ps) → Memᴰ p ps × (Right w p → ⊥)
unfolding wrong
wrong-in w [] m = absurd (elim m [ ])
wrong-in w (q ∷ ps) {p} m =
    elim (right? w q) [
      | yes e ↦ let r = wrong-in w ps (subst (Memᴰ p) (wrong-right w q ps e) m) in (Memᴰ.tail r.0, r.1)
      | no n ↦
          ⊎_elim (λ d. (Memᴰ.head d, λ e. n (subst (Right w) d e)))
          (λ t. let r = wrong-in w ps t in (Memᴰ.tail r.0, r.1))
          (Memᴰ.cases_cons (subst (Memᴰ p) (wrong-wrong w q ps n) m))
    ]

pub in-wrong : (w : List ℕ) (ps : List Write) {p : Write} → Memᴰ p ps → (Right w p → ⊥) → Memᴰ p (wrong w ps)
in-wrong w (q ∷ ps) {p} (Memᴰ.head d) n =
    subst (Memᴰ p) (sym (wrong-wrong w q ps (λ e. n (subst (Right w) (sym d) e)))) (Memᴰ.head d)
in-wrong w (q ∷ ps) {p} (Memᴰ.tail m) n =
    elim (right? w q) [
      | yes e ↦ subst (Memᴰ p) (sym (wrong-right w q ps e)) (in-wrong w ps m n)
      | no e ↦ subst (Memᴰ p) (sym (wrong-wrong w q ps e)) (Memᴰ.tail (in-wrong w ps m n))
    ]
in-wrong w [] {p = p} x'' n = elim x'' [ ]

-- words that are the same are wrong alike
pub wrong-same : (w x : List ℕ) (ps : List Write) → ((p : Write) → Memᴰ p ps → get_or x p.at 0 ≡ get_or w p.at 0) → wrong x ps ≡ wrong w ps
unfolding wrong
wrong-same w x [] h = refl
wrong-same w x (q ∷ ps) h =
    let same = h q (Memᴰ.head refl) in
    let r = wrong-same w x ps (λ p m. h p (Memᴰ.tail m)) in
    elim (right? w q) [
      | yes e ↦ wrong-right x q ps (same ∙ e) ∙ r ∙ sym (wrong-right w q ps e)
      | no n ↦ wrong-wrong x q ps (λ d. n (sym same ∙ d)) ∙ ap (λ (t : List Write). q ∷ t) r ∙ sym (wrong-wrong w q ps n)
    ]

-- where all stay right that were, no more are wrong
pub wrong-fewer : (w x : List ℕ) (ps : List Write) → ((p : Write) → Memᴰ p ps → Right w p → Right x p) → length (wrong x ps) ≤ length (wrong w ps)
unfolding wrong
wrong-fewer w x [] h = omega arith
wrong-fewer w x (q ∷ ps) h =
    let r = wrong-fewer w x ps (λ p m. h p (Memᴰ.tail m)) in
    elim (right? w q) [
      | yes e ↦ omega (arith, r, ap length (wrong-right w q ps e), ap length (wrong-right x q ps (h q (Memᴰ.head refl) e)))
      | no n ↦
          elim (right? x q) [
            | yes e ↦ omega (arith, r, ap length (wrong-wrong w q ps n), ap length (wrong-right x q ps e))
            | no d ↦ omega (arith, r, ap length (wrong-wrong w q ps n), ap length (wrong-wrong x q ps d))
          ]
    ]

-- no more are wrong than are asked
pub wrong-most : (w : List ℕ) (ps : List Write) → length (wrong w ps) ≤ length ps
unfolding wrong
wrong-most w [] = omega arith
wrong-most w (p ∷ ps) =
    elim (right? w p) [
      | yes e ↦ omega (arith, wrong-most w ps, ap length (wrong-right w p ps e))
      | no n ↦ omega (arith, wrong-most w ps, ap length (wrong-wrong w p ps n))
    ]

-- no word is asked for twice
abbrev pub Once : List Write → Type 0
Once rs = Different (map (λ (p : Write). p.at) rs)

pub once-append : (ps qs : List Write) → Once ps → Once qs → ((p q : Write) → Memᴰ p ps → Memᴰ q qs → p.at ≡ q.at → ⊥) → Once (ps ++ qs)
once-append ps qs a b h =
    subst Different (sym (map-append (λ (p : Write). p.at) ps qs))
    (different-append (map (λ (p : Write). p.at) ps) (map (λ (p : Write). p.at) qs) a b
    (λ x m n.
    let p = Memᴰ.of_map (λ (p : Write). p.at) ps m in
    let q = Memᴰ.of_map (λ (p : Write). p.at) qs n in
    h p.0 q.0 p.1 q.1 (p.2 ∙ sym q.2)))

-- of two parts: each is so, and they share no word
pub once-front : (ps qs : List Write) → Once (ps ++ qs) → Once ps
once-front [] qs o = tt
once-front (p ∷ ps) qs o = (
  (λ m. o.0 (subst (Memᴰ p.at) (sym (map-append (λ (t : Write). t.at) ps qs)) (Memᴰ.append_left (map (λ (t : Write). t.at) qs) m))),
  once-front ps qs o.1,
)

pub once-apart : (ps qs : List Write) → Once (ps ++ qs) → {p q : Write} → Memᴰ p ps → Memᴰ q qs → p.at ≡ q.at → ⊥
once-apart (r ∷ ps) qs o {p} {q} (Memᴰ.head d) n e =
    o.0 (Memᴰ.cast (ap (λ (t : Write). t.at) (sym d) ∙ e) (Memᴰ.map (λ (t : Write). t.at) (Memᴰ.append_right ps n)))
once-apart (r ∷ ps) qs o (Memᴰ.tail m) n e = once-apart ps qs o.1 m n e
once-apart [] qs o {p = p} {q = q} x4 n e = elim x4 [ ]

-- the first word is asked for by no other requirement
once-first : (p : Write) (rs : List Write) → Once (p ∷ rs) → (q : Write) → Memᴰ q rs → p.at ≡ q.at → ⊥
once-first p rs o q m e = o.0 (Memᴰ.cast e (Memᴰ.map (λ (t : Write). t.at) m))

-- a store elsewhere
pub wrong-out : (w : List ℕ) (a v : ℕ) (rs : List Write) → ((p : Write) → Memᴰ p rs → a ≡ p.at → ⊥) → wrong (set w a v) rs ≡ wrong w rs
wrong-out w a v rs h = wrong-same w (set w a v) rs (λ p m. get_or-set_other w a p.at v 0 (λ e. h p m (sym e)))

-- what is right is not stored
right-spares : (w : List ℕ) (rs : List Write) → Once rs → {p : Write} → Memᴰ p rs → Right w p → Spares p.at (wrong w rs)
right-spares w rs o {p} m e =
    in_all (λ (q : Write). p.at ≡ q.at → ⊥) (wrong w rs)
    (λ q n d. let r = wrong-in w rs n in r.1 (subst (Right w) (one-image (λ (t : Write). t.at) rs o m r.0 d) e))

-- the first wrong word: it is asked for, and once it is stored the others are wrong
first-in : (w : List ℕ) (rs : List Write) (p : Write) (ps : List Write) → wrong w rs ≡ p ∷ ps → Memᴰ p rs × (Right w p → ⊥)
first-in w rs p ps e = wrong-in w rs (subst (Memᴰ p) (sym e) (Memᴰ.head refl))

first-stored : (w : List ℕ) (rs : List Write) (p : Write) (ps : List Write) → Once rs → p.at < length w → wrong w rs ≡ p ∷ ps
    → wrong (store w p) rs ≡ ps
unfolding wrong
first-stored w [] p ps o h e = absurd (nil≢cons e)
first-stored w (q ∷ rs) p ps o h e =
    elim (right? w q) [
      | yes d ↦
          let r : wrong w rs ≡ p ∷ ps = sym (wrong-right w q rs d) ∙ e in
          wrong-right (store w p) q rs (get_or-set_other w p.at q.at p.value 0 (once-first q rs o p (first-in w rs p ps r).0) ∙ d) ∙ first-stored w rs p ps o.1 h r
      | no n ↦
          let r : (q ∷ wrong w rs) ≡ p ∷ ps = sym (wrong-wrong w q rs n) ∙ e in
          let here : p ≡ q = sym (head-eq_of_cons-eq r) in
          wrong-right (store w p) q rs (subst (Right (store w p)) here (get_or-set_same w p.at p.value 0 h))
          ∙ wrong-out w p.at p.value rs (λ t m z. once-first q rs o t m (ap (λ (u : Write). u.at) (sym here) ∙ z))
          ∙ tail-eq_of_cons-eq r
    ]

-- the stores of what is wrong, made one after the other
module _ (rs : List Write) (once : Once rs) where
  -- the requirements go to words of the store
  abbrev pub Inside : List ℕ → Type 0
  Inside w = All (λ (p : Write). p.at < length w) rs

  stored : (w : List ℕ) (p : Write) → Inside w → Inside (store w p)
  stored w p = subst (λ (n : ℕ). All (λ (q : Write). q.at < n) rs) (sym (length-set w p.at p.value))

  first-inside : (w : List ℕ) (p : Write) (ps : List Write) → Inside w → wrong w rs ≡ p ∷ ps → p.at < length w
  first-inside w p ps i e = all_in (λ (q : Write). q.at < length w) rs i (first-in w rs p ps e).0

  rest : (ps : List Write) (t : ℕ) (w : List ℕ) → Inside w → wrong w rs ≡ ps → wrong (applied ps t w) rs ≡ drop t ps
  unfolding run
  rest ps zero w i e = e
  rest [] (suc t) w i e = e
  rest (p ∷ ps) (suc t) w i e =
      rest ps t (store w p) (stored w p i) (first-stored w rs p ps once (first-inside w p ps i e) e)

  -- after the first t of them the rest is wrong
  pub wrong-rest : (w : List ℕ) (t : ℕ) → Inside w → wrong (applied (wrong w rs) t w) rs ≡ drop t (wrong w rs)
  wrong-rest w t i = rest (wrong w rs) t w i refl

  -- after all of them nothing is
  pub wrong-agreed : (w : List ℕ) → Inside w → Agrees (run (wrong w rs) w) rs
  wrong-agreed w i =
      let n = length (wrong w rs) in
      wrong-agrees (run (wrong w rs) w) rs
      (ap (λ (x : List ℕ). length (wrong x rs)) (sym (applied-all (wrong w rs) n w (omega arith)))
      ∙ ap length (wrong-rest w n i ∙ drop-length (wrong w rs)))

  -- and each has changed a word
  pub wrong-differs : (ps : List Write) (w : List ℕ) → Inside w → wrong w rs ≡ ps → differing w (run ps w) ≡ length ps
  unfolding run
  wrong-differs [] w i e = differing-self w
  wrong-differs (p ∷ ps) w i e =
      let x = store w p in
      let f = first-in w rs p ps e in
      let h = first-inside w p ps i e in
      let later = first-stored w rs p ps once h e in
      let now : get_or x p.at 0 ≡ p.value = get_or-set_same w p.at p.value 0 h in
      differing-step w (run ps x) p.at p.value h (length_run ps x ∙ length-set w p.at p.value) f.1
      (run_out ps x p.at (subst (Spares p.at) later (right-spares x rs once f.0 now)) ∙ now)
      ∙ ap suc (wrong-differs ps x (stored w p i) later)

-- where all requirements are met and one word is altered, what is wrong is that word, and its old value is required
pub wrong-one : (rs : List Write) (w : List ℕ) (a u v : ℕ) → Once rs → Agrees w rs → a < length w → Memᴰ (write a u) rs → (v ≡ u → ⊥)
    → wrong (set w a v) rs ≡ write a u ∷ []
wrong-one (p ∷ rs) w a u v o g i (Memᴰ.head e) n =
    let at : a ≡ p.at = ap (λ (q : Write). q.at) e in
    let value : u ≡ p.value = ap (λ (q : Write). q.value) e in
    wrong-wrong (set w a v) p rs (λ d. n (sym (get_or-set_same w a v 0 i) ∙ ap (λ (b : ℕ). get_or (set w a v) b 0) at ∙ d ∙ sym value))
    ∙ ap (λ (t : List Write). p ∷ t) (wrong-out w a v rs (λ q m z. once-first p rs o q m (sym at ∙ z)) ∙ agrees-wrong w rs g.1)
    ∙ ap (λ (q : Write). q ∷ []) (sym e)
wrong-one (p ∷ rs) w a u v o g i (Memᴰ.tail m) n =
    wrong-right (set w a v) p rs (get_or-set_other w a p.at v 0 (once-first p rs o (write a u) m) ∙ g.0)
    ∙ wrong-one rs w a u v o.1 g.1 i m n
wrong-one [] w a u v o g i x5 n = elim x5 [ ]
