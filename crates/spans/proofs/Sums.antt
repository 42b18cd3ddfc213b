-- Words that are all 0: told by their sum, or four at a time.
use Prim.Native.Nat.{ℕ, zero, suc, ◌+◌, ◌*◌, ◌-◌, ◌≤◌, ◌<◌}
use mathlib.Core.Path.{◌≡◌, refl, ap, ◌∙◌, sym}
use mathlib.Core.List.{List}
use mathlib.Core.Bool.{Bool, true, false, ◌&&◌, and-true, and_assoc, true≢false}
use native.Mathlib.Omega.{arith}
use native.Mathlib.Decide.{dec_lt}
use lib.Dec.{eqb}
use lib.ListN.{get_or}
use borrow.Author.Tests.{eq-eqb, ne_eqb, eqb-true, eqb-false}
use Rattle.lists.specs.Decide.{blank_from}
use Rattle.lists.proofs.Blank.{from-words, words-from}

-- a sum is 0 exactly if both its parts are
sum-zero : (s x : ℕ) → eqb (s + x) 0 ≡ (eqb s 0 && eqb x 0)
sum-zero s x = by (eqb s 0) refl
  where
    by : (b : Bool) → eqb s 0 ≡ b → eqb (s + x) 0 ≡ (b && eqb x 0)
    by true e = let q : s + x ≡ x = omega (arith, eqb-true s 0 e) in ap (λ (n : ℕ). eqb n 0) q
    by false e = ne_eqb (s + x) 0 (λ z. eqb-false s 0 e (omega (arith, z)))

-- the first i of the n words from a on are added up to s
pub record Adding (w : List ℕ) (a n i s : ℕ) : Type 0 where
  pub few : i ≤ n
  pub small : s ≤ 65535 * i
  pub blank : (eqb s 0 && blank_from w (a + i) (n - i)) ≡ blank_from w a n

module _ (w : List ℕ) (a n : ℕ) where
  pub adding-first : Adding w a n 0 0
  adding-first =
      let e : a + 0 ≡ a = omega arith in
      let d : n - 0 ≡ n = omega arith in
      record { few = omega arith; small = omega arith; blank = rw (e, d) }

  pub adding-next : (i s x : ℕ) → Adding w a n i s → i < n → x ≡ get_or w (a + i) 0 → x ≤ 65535 → Adding w a n (i + 1) (s + x)
  unfolding blank_from
  adding-next i s x c h e q =
      let m = n - (i + 1) in
      let b = a + (i + 1) in
      let d : n - i ≡ suc m = omega arith in
      let r : suc (a + i) ≡ b = omega arith in
      record {
        few = omega arith;
        small = omega (arith, c.small);
        blank =
            ap (λ (y : Bool). y && blank_from w b m) (sum-zero s x)
            ∙ and_assoc (eqb s 0) (eqb x 0) (blank_from w b m)
            ∙ ap (λ (y : ℕ). eqb s 0 && (eqb y 0 && blank_from w b m)) e
            ∙ ap (λ (y : ℕ). eqb s 0 && (eqb (get_or w (a + i) 0) 0 && blank_from w y m)) (sym r)
            ∙ ap (λ (y : ℕ). eqb s 0 && blank_from w (a + i) y) (sym d)
            ∙ c.blank;
      }

  pub adding-done : (i s : ℕ) → Adding w a n i s → n ≤ i → eqb s 0 ≡ blank_from w a n
  unfolding blank_from
  adding-done i s c h =
      let z : n - i ≡ 0 = omega arith in
      sym (and-true (eqb s 0)) ∙ ap (λ (y : ℕ). eqb s 0 && blank_from w (a + i) y) (sym z) ∙ c.blank

-- two answers are the same if one is yes where the other is
same_answer : (b d : Bool) → (b ≡ true → d ≡ true) → (d ≡ true → b ≡ true) → b ≡ d
same_answer true d f g = sym (f refl)
same_answer false true f g = g refl
same_answer false false f g = refl

module _ (w : List ℕ) (a : ℕ) where
  abbrev at : ℕ → ℕ
  at f = get_or w (a + f) 0

  -- four words, as two numbers of two words each
  pub four-blank : (x y : ℕ) → x ≡ at 0 + 65536 * at 1 → y ≡ at 2 + 65536 * at 3 → eqb (x + y) 0 ≡ blank_from w a 4
  four-blank x y e d =
      same_answer (eqb (x + y) 0) (blank_from w a 4)
      (λ z. let q = eqb-true (x + y) 0 z in words-from w a 4 (by q))
      (λ z.
      let h = from-words w a 4 z in
      eq-eqb (x + y) 0 (omega (arith, e, d, h 0 (omega arith), h 1 (omega arith), h 2 (omega arith), h 3 (omega arith))))
    where
      by : x + y ≡ 0 → (f : ℕ) → f < 4 → at f ≡ 0
      by q zero h = omega (arith, e, d, q)
      by q (suc zero) h = omega (arith, e, d, q)
      by q (suc (suc zero)) h = omega (arith, e, d, q)
      by q (suc (suc (suc zero))) h = omega (arith, e, d, q)
      by q (suc (suc (suc (suc f)))) h = absurd (omega arith)

  -- no word
  pub blank_none : blank_from w a 0 ≡ true
  unfolding blank_from
  blank_none = refl

  -- the first i words are 0, and the four from m on
  both : (i m : ℕ) → blank_from w a i ≡ true → blank_from w (a + m) 4 ≡ true → m ≤ i → (f : ℕ) → f < m + 4 → at f ≡ 0
  both i m e d q f h = by (dec_lt f i)
    where
      by : Dec (f < i) → at f ≡ 0
      by (yes r) = from-words w a i e f r
      by (no r) =
          let s : a + f ≡ a + m + (f - m) = omega arith in
          ap (λ (b : ℕ). get_or w b 0) s ∙ from-words w (a + m) 4 d (f - m) (omega arith)

  pub four-more : (i : ℕ) → blank_from w a i ≡ true → blank_from w (a + i) 4 ≡ true → blank_from w a (i + 4) ≡ true
  four-more i e d = words-from w a (i + 4) (both i i e d (omega arith))

  -- n words are 0: so are the four from m on
  four-of : (n m : ℕ) → m + 4 ≤ n → blank_from w a n ≡ true → blank_from w (a + m) 4 ≡ true
  four-of n m h e =
      words-from w (a + m) 4
      (λ f g. let s : a + m + f ≡ a + (m + f) = omega arith in ap (λ (b : ℕ). get_or w b 0) s ∙ from-words w a n e (m + f) (omega arith))

  -- four of n words are not all 0
  pub four-not : (n m : ℕ) → m + 4 ≤ n → blank_from w (a + m) 4 ≡ false → false ≡ blank_from w a n
  four-not n m h e =
      same_answer false (blank_from w a n) (λ z. absurd (true≢false (sym z))) (λ z. sym e ∙ four-of n m h z)

  -- the first i of n words are 0: the last four tell, if they are all the others
  pub four-last : (n i m : ℕ) → m + 4 ≡ n → m ≤ i → blank_from w a i ≡ true → blank_from w (a + m) 4 ≡ blank_from w a n
  four-last n i m s h e =
      same_answer (blank_from w (a + m) 4) (blank_from w a n)
      (λ d. words-from w a n (λ f g. both i m e d h f (omega arith)))
      (four-of n m (omega arith))
