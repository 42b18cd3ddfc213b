-- Sequences of cells, and links that lead through them.
use Rattle.std.specs.Prelude.{ℕ, zero, suc, ◌≡◌, Bool, true, false, cond}
use mathlib.Core.List.{List, [], ◌∷◌, Memᴰ}

-- x is a member of s
abbrev pub ◌∈◌ : ℕ → List ℕ → Type 0
x ∈ s = Memᴰ x s

infix 20 ◌∈◌
-- every member has the property
abbrev pub All {ℓ} : {A : Type ℓ} → (A → Type 0) → List A → Type 0
All P [] = Unit {0}
All P (x ∷ s) = P x × All P s

-- no member occurs twice
abbrev pub Different : List ℕ → Type 0
Different [] = Unit {0}
Different (x ∷ s) = (x ∈ s → ⊥) × Different s

-- one step of a path
pub record Step : Type 0 where
  pub source : ℕ
  pub target : ℕ

-- the steps from x through s to z
unfoldable pub steps : ℕ → List ℕ → ℕ → List Step
steps x [] z = record { source = x; target = z } ∷ []
steps x (y ∷ s) z = record { source = x; target = y } ∷ steps y s z

-- forward links lead from x through s to z
abbrev pub Forward : (ℕ → ℕ) → ℕ → List ℕ → ℕ → Type 0
Forward f x s z = All (λ (p : Step). f p.source ≡ p.target) (steps x s z)

-- back links lead the other way round
abbrev pub Backward : (ℕ → ℕ) → ℕ → List ℕ → ℕ → Type 0
Backward g x s z = All (λ (p : Step). g p.target ≡ p.source) (steps x s z)

-- the cells that are met from c on, each the link of the one before: as long as they are inside, and at most n
unfoldable pub trail : (ℕ → ℕ) → (ℕ → Bool) → ℕ → ℕ → List ℕ
trail link inside zero c = []
trail link inside (suc n) c = elim (inside c) [ true ↦ c ∷ trail link inside n (link c) | false ↦ [] ]

-- the cell that n links lead to from c
unfoldable pub follow : (ℕ → ℕ) → ℕ → ℕ → ℕ
follow link zero c = c
follow link (suc n) c = follow link n (link c)

-- the n numbers from a on
unfoldable pub range : ℕ → ℕ → List ℕ
range a zero = []
range a (suc n) = a ∷ range (suc a) n

-- the members that pass the test, in order
unfoldable pub filter : (ℕ → Bool) → List ℕ → List ℕ
filter test [] = []
filter test (x ∷ s) = cond (test x) (x ∷ filter test s) (filter test s)

-- the cell in front of what follows x and s, and the first cell of s and z
abbrev pub last_of : ℕ → List ℕ → ℕ
last_of x [] = x
last_of x (y ∷ s) = last_of y s

abbrev pub first_of : List ℕ → ℕ → ℕ
first_of [] z = z
first_of (y ∷ s) z = y
