-- Laws of decimal numbers, and of texts that are written one behind the other.
use Prim.Native.Nat.{ℕ, zero, suc, ◌+◌, ◌*◌, ◌-◌, ◌/◌, ◌%◌, ◌≤◌, ◌<◌}
use mathlib.Core.Path.{◌≡◌, refl, sym, ap, ◌∙◌, subst}
use mathlib.Core.List.{List, [], ◌∷◌, ◌++◌, append_assoc, append-nil}
use native.Mathlib.Omega.{arith}
use native.Mathlib.Nat.{add-zero}
use native.Mathlib.Numerals.{add-one}
use native.Mathlib.Decide.{dec_lt}
use lib.ListN.{length, get_or, set, drop, length-append, drop_of_length-le, get_or-append}
use lib.Seq.{sets, length-sets, set_out, set-append_seam, take-nil, drop-cons}
use borrow.Author.Tests.{lt-ltb, le-ltb}
use Rattle.sequences.specs.Sequence.{All}
use Rattle.writing.specs.Text.{codes, digit, digits, decimal, number_from, spaced, overwritten, Wrote, Writes, Room}
use Rattle.writing.specs.declared.Cursor.{Cursor}

-- one digit, or more
digits-one : (k n : ℕ) → n < 10 → digits (suc k) n ≡ digit n ∷ []
unfolding digits
digits-one k n h = rw (digits, lt-ltb n 10 h)

digits_more : (k n : ℕ) → 10 ≤ n → digits (suc k) n ≡ digits k (n / 10) ++ (digit (n % 10) ∷ [])
unfolding digits
digits_more k n h = rw (digits, le-ltb n 10 h)

-- more rounds than are needed change nothing
digits-enough : (j k n : ℕ) → n < j → n < k → digits j n ≡ digits k n
digits-enough zero k n h g = absurd (omega arith)
digits-enough (suc j) zero n h g = absurd (omega arith)
digits-enough (suc j) (suc k) n h g = by (dec_lt n 10) (λ p q. digits-enough j k (n / 10) p q)
  where
    by : Dec (n < 10) → (n / 10 < j → n / 10 < k → digits j (n / 10) ≡ digits k (n / 10)) → digits (suc j) n ≡ digits (suc k) n
    by (yes q) same = digits-one j n q ∙ sym (digits-one k n q)
    by (no q) same =
        let t : 10 ≤ n = omega arith in
        digits_more j n t ∙ ap (λ (s : List ℕ). s ++ (digit (n % 10) ∷ [])) (same (omega arith) (omega arith)) ∙ sym (digits_more k n t)

pub decimal-one : (n : ℕ) → n < 10 → decimal n ≡ digit n ∷ []
unfolding decimal
decimal-one n h = digits-one n n h

pub decimal-more : (n : ℕ) → 10 ≤ n → decimal n ≡ decimal (n / 10) ++ (digit (n % 10) ∷ [])
unfolding decimal
decimal-more n h =
    digits_more n n h
    ∙ ap (λ (s : List ℕ). s ++ (digit (n % 10) ∷ [])) (digits-enough n (suc (n / 10)) (n / 10) (omega arith) (omega arith))

-- what holds of one digit, and of n if it holds of n / 10, holds of every decimal number
module _ (P : ℕ → List ℕ → Type 0)
    (one : (n : ℕ) → n < 10 → P n (digit n ∷ []))
    (more : (n : ℕ) (s : List ℕ) → 10 ≤ n → P (n / 10) s → P n (s ++ (digit (n % 10) ∷ []))) where
  below : (k n : ℕ) → n < k → P n (decimal n)
  below zero n h = absurd (omega arith)
  below (suc k) n h = by (dec_lt n 10) (λ g. below k (n / 10) g)
    where
      by : Dec (n < 10) → (n / 10 < k → P (n / 10) (decimal (n / 10))) → P n (decimal n)
      by (yes q) less = rw (decimal-one n q) (one n q)
      by (no q) less =
          let t : 10 ≤ n = omega arith in
          rw (decimal-more n t) (more n (decimal (n / 10)) t (less (omega arith)))

  each : (n : ℕ) → P n (decimal n)
  each n = below (suc n) n (omega arith)

-- a digit read behind others
number_more : (v : ℕ) (s : List ℕ) (d : ℕ) → number_from v (s ++ (d ∷ [])) ≡ 10 * number_from v s + (d - digit 0)
unfolding number_from
number_more v [] d = refl
number_more v (x ∷ s) d = number_more (10 * v + (x - digit 0)) s d

-- a decimal number says its number
pub decimal-value : (n : ℕ) → number_from 0 (decimal n) ≡ n
unfolding number_from
decimal-value = each (λ n s. number_from 0 s ≡ n) one (λ n s h e. omega (arith, number_more 0 s (digit (n % 10))))
  where
    one : (n : ℕ) → n < 10 → number_from 0 (digit n ∷ []) ≡ n
    one n h = omega arith

-- its characters are the digits 0 to 9
abbrev pub Digits : List ℕ → Type 0
Digits = All (λ (d : ℕ). (48 ≤ d) × (d ≤ 57))

digits-snoc : (s : List ℕ) (d : ℕ) → Digits s → (48 ≤ d) × (d ≤ 57) → Digits (s ++ (d ∷ []))
digits-snoc [] d h g = (g, tt)
digits-snoc (x ∷ s) d h g = (h.0, digits-snoc s d h.1 g)

pub decimal-digits : (n : ℕ) → Digits (decimal n)
decimal-digits =
    each (λ n s. Digits s) (λ n h. ((omega arith, omega arith), tt))
    (λ n s h e. digits-snoc s (digit (n % 10)) e (omega arith, omega arith))

-- the first is no 0, unless the number is 0
pub decimal-first : (n : ℕ) → 1 ≤ n → 48 < get_or (decimal n) 0 0
decimal-first n = (each (λ n s. (1 ≤ length s) × (1 ≤ n → 48 < get_or s 0 0)) (λ n h. (omega arith, λ g. omega arith)) more n).1
  where
    more : (n : ℕ) (s : List ℕ) → 10 ≤ n → (1 ≤ length s) × (1 ≤ n / 10 → 48 < get_or s 0 0)
        → (1 ≤ length (s ++ (digit (n % 10) ∷ []))) × (1 ≤ n → 48 < get_or (s ++ (digit (n % 10) ∷ [])) 0 0)
    more n s h e = (
      omega (arith, e.0, length-append s (digit (n % 10) ∷ [])),
      λ g. omega (arith, e.0, e.1 (omega arith), get_or-append s (digit (n % 10) ∷ []) 0 0 e.0),
    )

-- a number of 16 bits has at most 5
few : (k p n : ℕ) → n < 10 * p → ((m : ℕ) → m < p → length (decimal m) ≤ k) → 1 ≤ k → length (decimal n) ≤ suc k
few k p n h below g = by (dec_lt n 10)
  where
    by : Dec (n < 10) → length (decimal n) ≤ suc k
    by (yes q) = rw (decimal-one n q) (omega arith)
    by (no q) =
        let t : 10 ≤ n = omega arith in
        rw (decimal-more n t) (omega (arith, length-append (decimal (n / 10)) (digit (n % 10) ∷ []), below (n / 10) (omega arith)))

pub decimal-short : (n : ℕ) → n < 65536 → length (decimal n) ≤ 5
decimal-short n h =
    few 4 10000 n (omega arith)
    (λ a ha. few 3 1000 a ha
    (λ b hb. few 2 100 b hb
    (λ c hc. few 1 10 c hc (λ d hd. rw (decimal-one d hd) (omega arith)) (omega arith)) (omega arith)) (omega arith)) (omega arith)

-- two texts, one behind the other
sets-append : (o : List ℕ) (n : ℕ) (s t : List ℕ) → sets (sets o n s) (n + length s) t ≡ sets o n (s ++ t)
sets-append o n [] t = ap (λ (m : ℕ). sets o m t) (add-zero n)
sets-append o n (a ∷ s) t =
    let e : n + suc (length s) ≡ suc n + length s = omega arith in
    ap (λ (m : ℕ). sets (sets (set o n a) (suc n) s) m t) e ∙ sets-append (set o n a) (suc n) s t

pub wrote_none : (o : List ℕ) (n : ℕ) → Wrote o n [] o n
wrote_none o n = record { bytes = refl; next = sym (add-zero n) }

joined : {o o' o'' : List ℕ} {n m r : ℕ} {s t : List ℕ} → Wrote o n s o' m → Wrote o' m t o'' r → Wrote o n (s ++ t) o'' r
joined {o} {o'} {o''} {n} {m} {r} {s} {t} a b =
    record {
      bytes =
          b.bytes ∙ ap (λ (x : List ℕ). sets x m t) a.bytes ∙ ap (λ (x : ℕ). sets (sets o n s) x t) a.next
          ∙ sets-append o n s t;
      next = omega (arith, a.next, b.next, length-append s t);
    }

pub wrote-append : {c c' c'' : Cursor} {s t : List ℕ} → Writes c s c' → Writes c' t c'' → Writes c (s ++ t) c''
wrote-append a b = record { wrote = joined a.wrote b.wrote; same_buffer = b.same_buffer ∙ a.same_buffer }

-- one character, in the buffer or behind it
pub wrote_one : (o : List ℕ) (n b : ℕ) → Wrote o n (b ∷ []) (set o n b) (n + 1)
wrote_one o n b = record { bytes = refl; next = refl }

pub wrote-behind : (o : List ℕ) (n b : ℕ) → length o ≤ n → Wrote o n (b ∷ []) o (n + 1)
wrote-behind o n b h = record { bytes = sym (set_out o n b h); next = refl }

-- the buffer keeps its length
pub wrote-length : {o o' : List ℕ} {n m : ℕ} {t : List ℕ} → Wrote o n t o' m → length o' ≡ length o
wrote-length {o} {o'} {n} {m} {t} h = ap length h.bytes ∙ length-sets o n t

-- room for two texts is room for the first, and then for the second
pub room-first : {n : ℕ} (s t : List ℕ) → Room n (s ++ t) → Room n s
room-first s t h = record { ends = omega (arith, h.ends, length-append s t) }

pub room-rest : {c c' : Cursor} {s : List ℕ} (t : List ℕ) → Room c.at (s ++ t) → Writes c s c' → Room c'.at t
room-rest {s = s} t h a = record { ends = omega (arith, h.ends, length-append s t, a.wrote.next) }

-- from the front of the buffer on
sets-out : (o : List ℕ) (n : ℕ) (t : List ℕ) → length o ≤ n → sets o n t ≡ o
sets-out o n [] h = refl
sets-out o n (a ∷ t) h =
    ap (λ (x : List ℕ). sets x (suc n) t) (set_out o n a h) ∙ sets-out o (suc n) t (omega arith)

sets_over : (p o t : List ℕ) → sets (p ++ o) (length p) t ≡ p ++ overwritten t o
unfolding overwritten
sets_over p o [] = ap (λ (x : List ℕ). p ++ (x ++ o)) (sym (take-nil (length o)))
sets_over p [] (a ∷ t) = sets-out (p ++ []) (length p) (a ∷ t) (omega (arith, length-append p []))
sets_over p (b ∷ o) (a ∷ t) =
    ap (λ (x : List ℕ). sets x (suc (length p)) t) (set-append_seam p b o a ∙ sym (append_assoc p (a ∷ []) o))
    ∙ ap (λ (m : ℕ). sets ((p ++ (a ∷ [])) ++ o) m t) m
    ∙ sets_over (p ++ (a ∷ [])) o t
    ∙ append_assoc p (a ∷ []) (overwritten t o)
  where
    m : suc (length p) ≡ length (p ++ (a ∷ []))
    m = omega (arith, length-append p (a ∷ []))

pub wrote-over : {o o' : List ℕ} {m : ℕ} {t : List ℕ} → Wrote o 0 t o' m → (m ≡ length t) × (o' ≡ overwritten t o)
wrote-over {o} {o'} {m} {t} h = (omega (arith, h.next), h.bytes ∙ sets_over [] o t)

-- a text on its way: of the whole, to be written from the cursor c on, the rest is still to be written, from c' on
pub record Writing (c : Cursor) (whole : List ℕ) (c' : Cursor) (rest : List ℕ) : Type 0 where
  pub front : List ℕ
  pub wrote : Writes c front c'
  pub parts : front ++ rest ≡ whole
  pub room : Room c.at whole

pub writing_start : (c : Cursor) (t : List ℕ) → Room c.at t → Writing c t c t
writing_start c t h =
    record { front = []; wrote = record { wrote = wrote_none c.out.now c.at; same_buffer = refl }; parts = refl; room = h }

module _ {c : Cursor} {whole : List ℕ} {c' : Cursor} where
  pub writing-room : (s t : List ℕ) → Writing c whole c' (s ++ t) → Room c'.at s
  writing-room s t h =
      room-first s t (room-rest (s ++ t) (subst (λ (x : List ℕ). Room c.at x) (sym h.parts) h.room) h.wrote)

  pub writing_step : {c'' : Cursor} {s : List ℕ} (t : List ℕ) → Writing c whole c' (s ++ t) → Writes c' s c'' → Writing c whole c'' t
  writing_step {c''} {s} t h w =
      record { front = h.front ++ s; wrote = wrote-append h.wrote w; parts = append_assoc h.front s t ∙ h.parts; room = h.room }

  pub writing-done : Writing c whole c' [] → Writes c whole c'
  writing-done h = subst (λ (t : List ℕ). Writes c t c') (sym (append-nil h.front) ∙ h.parts) h.wrote

  pub writing-length : {t : List ℕ} → Writing c whole c' t → length c'.out.now ≡ length c.out.now
  writing-length h = wrote-length h.wrote.wrote

-- what is left of a list: one more member and the rest, or nothing
pub drop-next : (t : List ℕ) (i : ℕ) → i < length t → drop i t ≡ get_or t i 0 ∷ drop (i + 1) t
drop-next t i h = rw add-one (drop-cons t i 0 h)

pub drop-end : (t : List ℕ) (i : ℕ) → length t ≤ i → drop i t ≡ []
drop-end t i h = drop_of_length-le t h

-- the numbers of a row from i on
module _ (row : List ℕ) (i : ℕ) where
  pub spaced-next : i < length row → spaced (drop i row) ≡ (codes " " ++ decimal (get_or row i 0)) ++ spaced (drop (i + 1) row)
  unfolding spaced
  spaced-next h = rw (drop-next row i h)

  pub spaced-end : length row ≤ i → spaced (drop i row) ≡ []
  unfolding spaced
  spaced-end h = rw (drop-end row i h)
