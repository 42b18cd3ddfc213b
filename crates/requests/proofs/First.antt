-- A question e that is put before all others, answered Size: what a refusal and what a yes tell of it, and of the rest.
use Prim.Native.Nat.{ℕ}
use mathlib.Core.Path.{◌≡◌, refl, ap}
use mathlib.Core.Bool.{Bool, true, false}
use native.Mathlib.Omega.{arith}
use Rattle.std.specs.Prelude.{Result, Ok, Err}
use Rattle.layout.specs.declared.Refusal.{Refusal}
use Rattle.layout.specs.declared.Refusal.TheVariants.{Size}
use Rattle.requests.specs.declared.Look.{Look}
use Rattle.layout.specs.declared.Layout.{Layout}
use Rattle.layout.specs.Words.{ask, after_open}
use Rattle.requests.specs.declared.Site.{Site}
use Rattle.requests.specs.Requests.{with_look, at_site}

pub asked-no : {A : Type 0} (e : Bool) (x y : A) → e ≡ false → ask e x y ≡ x
asked-no e x y h = rw h

pub asked-yes : {A : Type 0} (e : Bool) (x y : A) → e ≡ true → ask e x y ≡ y
asked-yes e x y h = rw h

-- a refusal of the whole is that of the rest, or Size
pub first-shut
    : {A : Type 0} (refusal : Refusal → A) (e : Bool) {x : Result Layout Refusal} {y : A} {n : Refusal} → ((m : Refusal) → x ≡ Err m → y ≡ refusal m)
    → ask e (Err Size) x ≡ Err n → ask e (refusal Size) y ≡ refusal n
first-shut refusal true f h = f _ h
first-shut refusal false f h = ap (λ (o : Result Layout Refusal). refusal (after_open o (λ n. n) (λ l. Size))) h

pub first-refused
    : {A : Type 0} (refusal : Refusal → A) (e : Bool) {x : Result Look Refusal} {y : A} {n : Refusal} → ((m : Refusal) → x ≡ Err m → y ≡ refusal m)
    → ask e (Err Size) x ≡ Err n → ask e (refusal Size) y ≡ refusal n
first-refused refusal true f h = f _ h
first-refused refusal false f h = ap (λ (o : Result Look Refusal). refusal (with_look o (λ n. n) (λ l t. Size))) h

-- who goes on has answered it
pub first-open : (e : Bool) {x : Result Layout Refusal} {l : Layout} → ask e (Err Size) x ≡ Ok l → (e ≡ true) × (x ≡ Ok l)
first-open true h = (refl, h)
first-open false h = let z : ◌≡◌ {A = ℕ} 0 1 = cc in absurd (omega arith)

pub first-at : (e : Bool) {x : Result Look Refusal} {l : Layout} {t : Site} → ask e (Err Size) x ≡ at_site l t → (e ≡ true) × (x ≡ at_site l t)
first-at true h = (refl, h)
first-at false h = let z : ◌≡◌ {A = ℕ} 0 1 = cc in absurd (omega arith)
