-- A list walked from both ends: it holds exactly if the cells of its count lie between its header and its header, and so many
-- cells lie between two cells exactly if one lies at either end and the rest between these.
use Prim.Native.Nat.{ℕ, ◌+◌, ◌-◌, ◌<◌}
use mathlib.Core.Path.{◌≡◌, refl, ap, ◌∙◌, sym, subst}
use mathlib.Core.List.{List, [], ◌∷◌, ◌++◌}
use mathlib.Core.Bool.{true}
use native.Mathlib.Omega.{arith}
use lib.ListN.{length, length-append}
use Rattle.sequences.specs.Sequence.{All, Step, steps, Forward, Backward}
use Rattle.sequences.proofs.Members.{all_in, in_all, all_append, append-all}
use Rattle.sequences.proofs.Trail.{leads-trail, leads-different, trail-inside}
use Rattle.layout.specs.declared.Layout.{Layout}
use Rattle.layout.specs.Words.{is_node, ident_of}
use Rattle.lists.specs.Decide.{View, sequence_in}
use Rattle.lists.proofs.Agree.{holds-true, true-holds}
use Rattle.lists.proofs.Unique.{header-out, nodes-few, all-nodes}
use Rattle.layout.specs.declared.Cell.{Cell}
use Rattle.spans.specs.declared.Span.{Span}
use Rattle.std.specs.Prelude.{Option, Some, None}
use Rattle.spans.specs.Spans.{Held, cell_in, whole_span, Narrowed, Closed, Single, Carries, Between, Spanned, Led, Outer, inner_in, Rounded}

-- the steps through one cell more at the end
steps-last : (x : ℕ) (s : List ℕ) (y z : ℕ) → steps x (s ++ y ∷ []) z ≡ steps x s y ++ record { source = y; target = z } ∷ []
unfolding steps
steps-last x [] y z = refl
steps-last x (c ∷ s) y z = ap (λ (t : List Step). record { source = x; target = c } ∷ t) (steps-last c s y z)

-- a sequence that is not empty has a last member
last_of : (s : List ℕ) (n : ℕ) → n + 1 ≡ length s → (t : List ℕ) × (y : ℕ) × (n ≡ length t) × (s ≡ t ++ y ∷ [])
last_of [] n e = absurd (omega arith)
last_of (x ∷ []) n e = ([], x, omega arith, refl)
last_of (x ∷ (y ∷ s)) n e =
    let r = last_of (y ∷ s) (length s) (omega arith) in
    (x ∷ r.0, r.1, omega (arith, r.2), ap (λ (t : List ℕ). x ∷ t) r.3)

module _ {l : Layout} {v : View} {k : ℕ} where
  -- no cell lies between
  none_between : {n x z : ℕ} → n ≡ 0 → v.forward x ≡ z → v.back z ≡ x → Between l v k n x z
  unfolding steps
  none_between e f b = record { cells = []; count = e; carry = tt; forwards = (f, tt); backs = (b, tt) }

  between_none : {n x z : ℕ} → n ≡ 0 → Between l v k n x z → (v.forward x ≡ z) × (v.back z ≡ x)
  unfolding steps
  between_none {n} {x} {z} e h = by h.cells h.count h.forwards h.backs
    where
      by : (c : List ℕ) → n ≡ length c → Forward v.forward x c z → Backward v.back x c z → (v.forward x ≡ z) × (v.back z ≡ x)
      by [] q f b = (f.0, b.0)
      by (y ∷ c) q f b = absurd (omega arith)

  -- one cell in front, y, and the rest
  first-between : {n m x y z : ℕ} → n ≡ m + 1 → v.forward x ≡ y → Carries l v k y → v.back y ≡ x → Between l v k m y z → Between l v k n x z
  unfolding steps
  first-between {n} {m} {x} {y} e f i b h =
      record {
        cells = y ∷ h.cells;
        count = omega (arith, h.count);
        carry = (i, h.carry);
        forwards = (f, h.forwards);
        backs = (b, h.backs);
      }

  between_first : {n m x y z : ℕ} → n ≡ m + 1 → v.forward x ≡ y → Between l v k n x z → Carries l v k y × (v.back y ≡ x) × Between l v k m y z
  unfolding steps
  between_first {n} {m} {x} {y} {z} e f h = by h.cells h.count h.carry h.forwards h.backs
    where
      by : (c : List ℕ) → n ≡ length c → All (Carries l v k) c → Forward v.forward x c z → Backward v.back x c z
          → Carries l v k y × (v.back y ≡ x) × Between l v k m y z
      by [] q i g b = absurd (omega arith)
      by (c ∷ t) q i g b =
          subst (λ (a : ℕ). Carries l v k a × (v.back a ≡ x) × Between l v k m a z) (sym g.0 ∙ f)
          (i.0, b.0, record { cells = t; count = omega arith; carry = i.1; forwards = g.1; backs = b.1 })

  -- one cell at the end, w, and the rest
  last-between : {n m x w z : ℕ} → n ≡ m + 1 → v.back z ≡ w → Carries l v k w → v.forward w ≡ z → Between l v k m x w → Between l v k n x z
  last-between {n} {m} {x} {w} {z} e b i f h =
      let c = h.cells in
      record {
        cells = c ++ w ∷ [];
        count = omega (arith, h.count, length-append c (w ∷ []));
        carry = all_append (Carries l v k) c (w ∷ []) h.carry (i, tt);
        forwards = rw steps-last (all_append (λ (p : Step). v.forward p.source ≡ p.target) (steps x c w) _ h.forwards (f, tt));
        backs = rw steps-last (all_append (λ (p : Step). v.back p.target ≡ p.source) (steps x c w) _ h.backs (b, tt));
      }

  between-last : {n m x w z : ℕ} → n ≡ m + 1 → v.back z ≡ w → Between l v k n x z → Carries l v k w × (v.forward w ≡ z) × Between l v k m x w
  between-last {n} {m} {x} {w} {z} e b h =
      let r = last_of h.cells m (omega (arith, h.count)) in
      let c = r.0 in
      let y = r.1 in
      let i = append-all (Carries l v k) c (y ∷ []) (rw r.3 at h.carry) in
      let f = append-all (λ (p : Step). v.forward p.source ≡ p.target) (steps x c y) _ (rw (r.3, steps-last) at h.forwards) in
      let g = append-all (λ (p : Step). v.back p.target ≡ p.source) (steps x c y) _ (rw (r.3, steps-last) at h.backs) in
      subst (λ (a : ℕ). Carries l v k a × (v.forward a ≡ z) × Between l v k m x a) (sym g.1.0 ∙ b)
      (i.1.0, f.1.0, record { cells = c; count = r.2; carry = i.0; forwards = f.0; backs = g.0 })

-- what lies in a span, by the number of its cells
module _ {l : Layout} {v : View} {k : ℕ} {s : Span} (h : Led v s) where
  pub closed-spanned : s.count ≡ 0 → Closed s → Spanned l v k s
  closed-spanned e c = none_between e (h.first ∙ c.0) (h.last ∙ c.1)

  pub spanned-closed : s.count ≡ 0 → Spanned l v k s → Closed s
  spanned-closed e b = let r = between_none e b in (sym h.first ∙ r.0, sym h.last ∙ r.1)

  pub single-spanned : s.count ≡ 1 → is_node l s.first ≡ true → Single s k (cell_in v s.first) → Spanned l v k s
  single-spanned e i c =
      first-between {m = 0} e h.first (record { node = i; ident = c.1 }) c.2
      (none_between refl c.3 (h.last ∙ sym c.0))

  pub spanned-single : s.count ≡ 1 → Spanned l v k s → (is_node l s.first ≡ true) × Single s k (cell_in v s.first)
  spanned-single e b =
      let r = between_first {m = 0} e h.first b in
      let t = between_none refl r.2 in
      (r.0.node, (sym t.1 ∙ h.last, r.0.ident, r.1, t.0))

  -- a round
  pub round-in : 1 < s.count → Spanned l v k s → Outer l v k s × Spanned l v k (inner_in v s)
  round-in q b =
      let r = between_first {m = s.count - 1} (omega arith) h.first b in
      let t = between-last {m = s.count - 2} (omega arith) h.last r.2 in (
        record {
          first = r.0.node;
          last = t.0.node;
          right = record { first = r.0.ident; back = r.1; last = t.0.ident; forward = t.1 };
        },
        t.2,
      )

  pub round-out : 1 < s.count → Outer l v k s → Spanned l v k (inner_in v s) → Spanned l v k s
  round-out q o b =
      first-between {m = s.count - 1} (omega arith) h.first (record { node = o.first; ident = o.right.first }) o.right.back
      (last-between {m = s.count - 2} (omega arith) h.last (record { node = o.last; ident = o.right.last }) o.right.forward b)

-- what a round says of two cells it says of the view in which they are the first and the last
pub narrowed-rounded : (l : Layout) (v : View) (k : ℕ) (s : Span) {c d : Cell} (r : Option Span) → is_node l s.first ≡ true → is_node l s.last ≡ true
    → c ≡ cell_in v s.first → d ≡ cell_in v s.last → Narrowed s k c d r → Rounded l v k s r
narrowed-rounded l v k s {c} {d} r i j p q n =
    by r (subst (λ (x : Cell). Narrowed s k (cell_in v s.first) x r) q (subst (λ (x : Cell). Narrowed s k x d r) p n))
  where
    by : (r : Option Span) → Narrowed s k (cell_in v s.first) (cell_in v s.last) r → Rounded l v k s r
    by (Some t) m = (record { first = i; last = j; right = m.0 }, m.1)
    by None m = λ o. m o.right

-- a round leaves two cells less
pub rounded-count : {l : Layout} {v : View} {k : ℕ} {s t : Span} → Rounded l v k s (Some t) → t.count ≡ s.count - 2
rounded-count r = ap (λ (t : Span). t.count) r.1

-- t is what rounds have left of s: it is spanned exactly if s is
pub record Reduced (l : Layout) (v : View) (k : ℕ) (s t : Span) : Type 0 where
  pub led : Led v t
  pub inward : Spanned l v k s → Spanned l v k t
  pub outward : Spanned l v k t → Spanned l v k s

pub reduced-first : (l : Layout) (v : View) (k : ℕ) (s : Span) → Led v s → Reduced l v k s s
reduced-first l v k s h = record { led = h; inward = λ b. b; outward = λ b. b }

module _ {l : Layout} {v : View} {k : ℕ} {s t : Span} (h : Reduced l v k s t) (q : 1 < t.count) where
  -- a round finds something wrong: s is not spanned
  pub reduced-broken : Rounded l v k t None → Spanned l v k s → ⊥
  reduced-broken n b = n (round-in h.led q (h.inward b)).0

  -- or goes on
  pub reduced-next : {u : Span} → Rounded l v k t (Some u) → Reduced l v k s u
  reduced-next r =
      subst (Reduced l v k s) (sym r.1) (record {
        led = record { first = refl; last = refl };
        inward = λ b. (round-in h.led q (h.inward b)).1;
        outward = λ b. h.outward (round-out h.led q r.0 b);
      })

-- list k holds exactly if its header has its identifier and the cells of its count lie between header and header
module _ (l : Layout) (v : View) (count : ℕ → ℕ) (k : ℕ) (h : k < l.lists) where
  held-between : Held l v count k → (v.ident k ≡ ident_of k) × Between l v k (count k) k k
  held-between e =
      let s = sequence_in l v k in
      let r = holds-true v k (count k) s e in
      let n = trail-inside v.forward (is_node l) l.nodes (v.forward k) in (
        r.ident,
        record {
          cells = s;
          count = r.count;
          carry =
              in_all (Carries l v k) s
              (λ c m.
              record {
                node = all_in (λ c. is_node l c ≡ true) s n m;
                ident = all_in (λ c. v.ident c ≡ ident_of k) s r.turn.idents m;
              });
          forwards = r.turn.forwards;
          backs = r.turn.backs;
        },
      )

  between-held : v.ident k ≡ ident_of k → Between l v k (count k) k k → Held l v count k
  between-held i b =
      let s = b.cells in
      let n = in_all (λ c. is_node l c ≡ true) s (λ c m. (all_in (Carries l v k) s b.carry m).node) in
      let d = leads-different v.forward (is_node l) k s k n (header-out l k h) b.forwards in
      let e : sequence_in l v k ≡ s =
      leads-trail v.forward (is_node l) l.nodes k s k n (header-out l k h) b.forwards (nodes-few l s (all-nodes l s n) d) in
      rw e
      (true-holds v k (count k) s (record {
        ident = i;
        turn =
            record {
              idents = in_all (λ c. v.ident c ≡ ident_of k) s (λ c m. (all_in (Carries l v k) s b.carry m).ident);
              forwards = b.forwards;
              backs = b.backs;
            };
        count = b.count;
      }))

  -- so of its whole span t
  pub held-ident : Held l v count k → v.ident k ≡ ident_of k
  held-ident e = (held-between e).0

  module _ {t : Span} (q : t ≡ whole_span k (count k) (cell_in v k)) where
    pub whole-led : Led v t
    whole-led = subst (Led v) (sym q) (record { first = refl; last = refl })

    pub whole-held : v.ident k ≡ ident_of k → Spanned l v k t → Held l v count k
    whole-held i b = between-held i (subst (Spanned l v k) q b)

    pub held_whole : Held l v count k → Spanned l v k t
    held_whole e = subst (Spanned l v k) (sym q) (held-between e).1
