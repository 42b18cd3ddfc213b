-- A loop over several records: the stores made, and those of the records left, from the site reached on, are the plan.
use Prim.Native.Nat.{ℕ, zero, suc, ◌+◌, ◌*◌, ◌/◌, ◌-◌, ◌<◌, ◌≤◌}
use mathlib.Core.Path.{◌≡◌, refl, ap, ◌∙◌, sym, subst}
use mathlib.Core.List.{List, [], ◌++◌, append_assoc}
use native.Mathlib.Omega.{arith}
use native.Mathlib.Nat.{suc-mul, zero-mul}
use lib.ListN.{length, take, drop, length-append, length-drop}
use Rattle.stores.specs.Stores.{Write, run}
use Rattle.layout.specs.declared.Layout.{Layout}
use Rattle.layout.specs.Words.{tail_words}
use Rattle.lists.specs.Decide.{view_of}
use Rattle.requests.specs.declared.Site.{Site}
use Rattle.requests.specs.Sites.{next_site}
use Rattle.edits.specs.Edits.{insert_writes, chain_from, Room}
use Rattle.edits.proofs.Several.{first-words}
use Rattle.edits.proofs.Room.{room-parted, room-last, room-more, room_next}

-- of the plan ps: the stores made, the words now, and the site and the words ws of the records left
pub record Underway (l : Layout) (k : ℕ) (ps made : List Write) (w : List ℕ) (t : Site) (ws : List ℕ) : Type 0 where
  pub r : ℕ
  pub room : Room l w k t (suc r)
  pub whole : length ws ≡ suc r * l.width
  pub parts : ps ≡ made ++ chain_from l w k t (suc r) ws

-- none made yet
pub underway-start
    : (l : Layout) (k : ℕ) (w : List ℕ) (t : Site) (ws : List ℕ) → Room l w k t (length ws / l.width) → 0 < length ws
    → length ws ≡ length ws / l.width * l.width → Underway l k (chain_from l w k t (length ws / l.width) ws) [] w t ws
underway-start l k w t ws h some whole = by (length ws / l.width) h whole
  where
    by : (r : ℕ) → Room l w k t r → length ws ≡ r * l.width → Underway l k (chain_from l w k t r ws) [] w t ws
    by zero h whole = absurd (omega (arith, zero-mul l.width))
    by (suc r) h whole = record { r = r; room = h; whole = whole; parts = refl }

module _ {l : Layout} {k : ℕ} {ps made : List Write} {w : List ℕ} {t : Site} {ws : List ℕ} (u : Underway l k ps made w t ws) where
  -- the stores of the next record
  abbrev First : List Write
  First = insert_writes l k t (take l.width ws)

  pub underway-fits : l.width ≤ length ws
  underway-fits = omega (arith, u.whole, suc-mul u.r l.width)

  pub underway-words : length (take l.width ws) ≡ tail_words l
  underway-words = first-words l u.r ws (omega (arith, u.whole))

  pub underway-parts : (qs : List Write) × (ps ≡ made ++ (First ++ qs))
  underway-parts =
      (_, u.parts ∙ ap (λ (qs : List Write). made ++ qs) (room-parted l w k t u.r u.room (take l.width ws) underway-words ws refl))

  -- after it none is left
  pub underway-last : length ws ≡ l.width → ps ≡ made ++ First
  underway-last z =
      u.parts
      ∙ ap (λ (qs : List Write). made ++ qs)
      (room-last l w k t u.r u.room (take l.width ws) underway-words ws refl (none u.r (sym u.whole ∙ z)))
    where
      none : (r : ℕ) → suc r * l.width ≡ l.width → r ≡ 0
      none zero e = refl
      none (suc r) e =
          absurd (omega (arith, u.room.placed.in_range.some_width, suc-mul (suc r) l.width, suc-mul r l.width))

  -- or some are: in the words w' that it leaves, from the next site on
  pub underway-next
      : (length ws ≡ l.width → ⊥) → {w' : List ℕ} → w' ≡ run First w → {t' : Site} → t' ≡ next_site l (view_of l w').ident t
      → {ws' : List ℕ} → ws' ≡ drop l.width ws → Underway l k ps (made ++ First) w' t' ws'
  underway-next z {w'} a {t'} b {ws'} e =
      subst (Underway l k ps (made ++ First) w' t') (sym e)
      (subst (λ (y : Site). Underway l k ps (made ++ First) w' y (drop l.width ws)) (sym b)
      (subst (λ (v : List ℕ). Underway l k ps (made ++ First) v (next_site l (view_of l v).ident t) (drop l.width ws)) (sym a)
      (by u.r u.room u.whole u.parts)))
    where
      by : (r : ℕ) → Room l w k t (suc r) → length ws ≡ suc r * l.width → ps ≡ made ++ chain_from l w k t (suc r) ws
          → Underway l k ps (made ++ First) (run First w) (next_site l (view_of l (run First w)).ident t) (drop l.width ws)
      by zero room whole parts = absurd (z (omega (arith, suc-mul 0 l.width, zero-mul l.width)))
      by (suc r) room whole parts =
          let some : 0 < suc r = omega arith in
          let q = chain_from l (run First w) k (next_site l (view_of l (run First w)).ident t) (suc r) (drop l.width ws) in
          record {
            r = r;
            room = room_next l w k t (suc r) room (take l.width ws) underway-words some;
            whole = omega (arith, suc-mul (suc r) l.width, length-drop l.width ws);
            parts =
                parts
                ∙ ap (λ (qs : List Write). made ++ qs) (room-more l w k t (suc r) room (take l.width ws) underway-words some ws refl)
                ∙ sym (append_assoc made First q);
          }

  -- with allowance m, of which n is used: the next record's stores are not all made, or they are, and it is the last
  module _ (m : ℕ) {n : ℕ} (c : n ≡ length made) (h : n ≤ m) where
    pub underway-short : m - n < length First → m < length ps
    underway-short g =
        let qs = underway-parts.0 in
        omega (arith, g, c, ap length underway-parts.1, length-append made (First ++ qs), length-append First qs)

    pub underway-whole : length First ≤ m - n → length ws ≡ l.width → (n + length First ≡ length ps) × (length ps ≤ m)
    underway-whole g z =
        let e : n + length First ≡ length ps = omega (arith, c, ap length (underway-last z), length-append made First) in
        (e, omega (arith, g, e))
