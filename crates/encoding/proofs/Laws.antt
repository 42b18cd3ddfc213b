-- Words and their bytes: where a word stands, and that byte stores are word stores.
use Prim.Native.Nat.{ℕ, suc, zero, ◌+◌, ◌*◌, ◌/◌, ◌%◌, ◌≤◌, ◌<◌}
use mathlib.Core.Path.{◌≡◌, refl, ap, ap₂, ◌∙◌, sym}
use mathlib.Core.List.{List, [], ◌∷◌, ◌++◌}
use native.Mathlib.Omega.{arith}
use native.Mathlib.Nat.{div-add-mod'}
use native.Mathlib.Numerals.{add-one}
use lib.ListN.{length, get_or, set, take, drop, replicate, take-append-drop}
use lib.Seq.{take-suc, take_all, take-take, drop-nil}
use Rattle.stores.specs.declared.Write.{Write}
use Rattle.stores.specs.Stores.{write, run, Plan, refuse, stores, words_after, made_by}
use Rattle.stores.proofs.Laws.{run-append, length_run}
use Rattle.encoding.specs.Form.{FormLaws}
use Rattle.encoding.specs.Words as W
use Rattle.encoding.specs.Bytes as B
use Rattle.encoding.specs.Bytes.{word_size, words_in, byte_writes, applied_bytes, bytes_after}

-- where word i stands
pub word-inside : (b : List ℕ) (i : ℕ) → i < length (words_in b) → 2 * i + 1 < length b
unfolding words_in
word-inside [] i h = absurd (omega arith)
word-inside (x ∷ []) i h = absurd (omega arith)
word-inside (x ∷ y ∷ b) zero h = omega arith
word-inside (x ∷ y ∷ b) (suc i) h = omega (arith, word-inside b i (omega arith))

pub word_at : (b : List ℕ) (i : ℕ) → i < length (words_in b) → get_or b (2 * i) 0 + 256 * get_or b (2 * i + 1) 0 ≡ get_or (words_in b) i 0
unfolding words_in
word_at [] i h = absurd (omega arith)
word_at (x ∷ []) i h = absurd (omega arith)
word_at (x ∷ y ∷ b) zero h = refl
word_at (x ∷ y ∷ b) (suc i) h =
    let e : 2 * suc i ≡ suc (suc (2 * i)) = omega arith in
    let f : 2 * suc i + 1 ≡ suc (suc (2 * i + 1)) = omega arith in
    ap₂ (λ (m n : ℕ). get_or (x ∷ y ∷ b) m 0 + 256 * get_or (x ∷ y ∷ b) n 0) e f ∙ word_at b i (omega arith)

-- as many words as the bytes have pairs
pub length-words : (b : List ℕ) → length (words_in b) ≡ length b / word_size
unfolding words_in
length-words [] = refl
length-words (x ∷ []) = refl
length-words (x ∷ y ∷ b) = omega (arith, length-words b)

pub same-words : (b c : List ℕ) → length b ≡ length c → length (words_in b) ≡ length (words_in c)
same-words b c e = length-words b ∙ ap (λ (n : ℕ). n / 2) e ∙ sym (length-words c)

-- the two bytes of a word stored; beyond the last word nothing is
pub words-put : (b : List ℕ) (a low high : ℕ) → words_in (set (set b (2 * a) low) (2 * a + 1) high) ≡ set (words_in b) a (low + 256 * high)
unfolding words_in
words-put [] a low high = refl
words-put (x ∷ []) zero low high = refl
words-put (x ∷ []) (suc a) low high =
    let m : 2 * suc a ≡ suc (suc (2 * a)) = omega arith in
    let n : 2 * suc a + 1 ≡ suc (suc (2 * a + 1)) = omega arith in
    ap₂ (λ (i j : ℕ). words_in (set (set (x ∷ []) i low) j high)) m n
words-put (x ∷ y ∷ b) zero low high = refl
words-put (x ∷ y ∷ b) (suc a) low high =
    let m : 2 * suc a ≡ suc (suc (2 * a)) = omega arith in
    let n : 2 * suc a + 1 ≡ suc (suc (2 * a + 1)) = omega arith in
    ap₂ (λ (i j : ℕ). words_in (set (set (x ∷ y ∷ b) i low) j high)) m n
    ∙ ap (λ (w : List ℕ). (x + 256 * y) ∷ w) (words-put b a low high)

-- a word store made as two byte stores is the word store
pub words-run : (ps : List Write) (b : List ℕ) → words_in (run (byte_writes ps) b) ≡ run ps (words_in b)
unfolding run byte_writes
words-run [] b = refl
words-run (p ∷ ps) b =
    let v : p.value % 256 + 256 * (p.value / 256) ≡ p.value = omega (arith, div-add-mod' p.value 256) in
    let c = set b (2 * p.at) (p.value % 256) in
    words-run ps (set c (2 * p.at + 1) (p.value / 256))
    ∙ ap (λ (w : List ℕ). run ps w)
    (words-put b p.at (p.value % 256) (p.value / 256) ∙ ap (λ (x : ℕ). set (words_in b) p.at x) v)

-- what a call leaves in the bytes is, read as words, what the call on words leaves
pub words-after : (p : Plan) (m : ℕ) (b : List ℕ) → words_in (bytes_after p m b) ≡ words_after p m (words_in b)
words-after (refuse n) m b = refl
words-after (stores ps) m b = words-run (take m ps) b

pub length-after : (p : Plan) (m : ℕ) (b : List ℕ) → length (bytes_after p m b) ≡ length b
length-after (refuse n) m b = refl
length-after (stores ps) m b = length_run (byte_writes (take m ps)) b

-- runs of byte stores, one after the other
pub byte-append : (ps qs : List Write) → byte_writes (ps ++ qs) ≡ byte_writes ps ++ byte_writes qs
unfolding byte_writes
byte-append [] qs = refl
byte-append (p ∷ ps) qs =
    ap (λ (t : List Write). write (2 * p.at) (p.value % 256) ∷ write (2 * p.at + 1) (p.value / 256) ∷ t) (byte-append ps qs)

pub bytes-nil : (b : List ℕ) → run (byte_writes []) b ≡ b
unfolding run byte_writes
bytes-nil b = refl

pub bytes-none : (ps : List Write) (b : List ℕ) → applied_bytes ps 0 b ≡ b
unfolding run byte_writes
bytes-none [] b = refl
bytes-none (p ∷ ps) b = refl

pub bytes-more : (ps : List Write) (i : ℕ) (b : List ℕ) → i < length ps
    → applied_bytes ps (i + 1) b ≡ run (byte_writes (get_or ps i (write 0 0) ∷ [])) (applied_bytes ps i b)
bytes-more ps i b h =
    ap (λ (n : ℕ). applied_bytes ps n b) (add-one i)
    ∙ ap (λ (qs : List Write). run (byte_writes qs) b) (take-suc ps i (write 0 0) h)
    ∙ ap (λ (qs : List Write). run qs b) (byte-append (take i ps) (get_or ps i (write 0 0) ∷ []))
    ∙ run-append (byte_writes (take i ps)) (byte_writes (get_or ps i (write 0 0) ∷ [])) b

pub bytes-all : (ps : List Write) (m : ℕ) (b : List ℕ) → length ps ≤ m → applied_bytes ps m b ≡ run (byte_writes ps) b
bytes-all ps m b h = ap (λ (qs : List Write). run (byte_writes qs) b) (take_all m ps h)

-- the bytes that a call leaves are those after the stores that it made
pub bytes-made : (p : Plan) (m : ℕ) (b : List ℕ) → bytes_after p m b ≡ run (byte_writes (made_by p m)) b
unfolding run byte_writes
bytes-made (refuse n) m b = refl
bytes-made (stores ps) m b = refl

-- a longer run passes through the bytes that every smaller allowance leaves
pub bytes-through : (p : Plan) (m n : ℕ) (b : List ℕ) → m ≤ n → bytes_after p n b ≡ run (byte_writes (drop m (made_by p n))) (bytes_after p m b)
unfolding run byte_writes
bytes-through (refuse k) m n b h = sym (ap (λ (qs : List Write). run (byte_writes qs) b) (drop-nil m))
bytes-through (stores ps) m n b h =
    ap (λ (qs : List Write). run (byte_writes qs) b) (sym (take-append-drop m (take n ps)))
    ∙ ap (λ (qs : List Write). run qs b) (byte-append (take m (take n ps)) (drop m (take n ps)))
    ∙ run-append (byte_writes (take m (take n ps))) (byte_writes (drop m (take n ps))) b
    ∙ ap (λ (qs : List Write). run (byte_writes (drop m (take n ps))) (run (byte_writes qs) b)) (take-take m n ps h)

-- the words of a part of the bytes
pub words_take : (n : ℕ) (b : List ℕ) → words_in (take (word_size * n) b) ≡ take n (words_in b)
unfolding words_in
words_take zero b = refl
words_take (suc n) [] = let e : 2 * suc n ≡ suc (suc (2 * n)) = omega arith in ap (λ (m : ℕ). words_in (take m [])) e
words_take (suc n) (x ∷ []) = let e : 2 * suc n ≡ suc (suc (2 * n)) = omega arith in ap (λ (m : ℕ). words_in (take m (x ∷ []))) e
words_take (suc n) (x ∷ y ∷ b) =
    let e : 2 * suc n ≡ suc (suc (2 * n)) = omega arith in
    ap (λ (m : ℕ). words_in (take m (x ∷ y ∷ b))) e ∙ ap (λ (t : List ℕ). (x + 256 * y) ∷ t) (words_take n b)

pub words-drop : (n : ℕ) (b : List ℕ) → words_in (drop (word_size * n) b) ≡ drop n (words_in b)
unfolding words_in
words-drop zero b = refl
words-drop (suc n) [] = let e : 2 * suc n ≡ suc (suc (2 * n)) = omega arith in ap (λ (m : ℕ). words_in (drop m [])) e
words-drop (suc n) (x ∷ []) = let e : 2 * suc n ≡ suc (suc (2 * n)) = omega arith in ap (λ (m : ℕ). words_in (drop m (x ∷ []))) e
words-drop (suc n) (x ∷ y ∷ b) =
    let e : 2 * suc n ≡ suc (suc (2 * n)) = omega arith in
    ap (λ (m : ℕ). words_in (drop m (x ∷ y ∷ b))) e ∙ words-drop n b

-- the words of zero bytes are zeros
pub words-zeros : (n : ℕ) → words_in (replicate (word_size * n) 0) ≡ replicate n 0
unfolding words_in
words-zeros zero = refl
words-zeros (suc n) =
    let e : 2 * suc n ≡ suc (suc (2 * n)) = omega arith in
    ap (λ (m : ℕ). words_in (replicate m 0)) e ∙ ap (λ (t : List ℕ). 0 ∷ t) (words-zeros n)

-- what each form must prove of itself
pub byte_laws : FormLaws B.words_in B.after
unfolding run byte_writes
byte_laws = record {
  short = λ b. omega (arith, length-words b);
  none = λ b. refl;
  append = λ ps qs b. ap (λ (t : List Write). run t b) (byte-append ps qs) ∙ run-append (byte_writes ps) (byte_writes qs) b;
  words = words-run;
}

pub word_laws : FormLaws W.words_in W.after
unfolding run
word_laws = record { short = λ b. omega arith; none = λ b. refl; append = run-append; words = λ ps b. refl }
