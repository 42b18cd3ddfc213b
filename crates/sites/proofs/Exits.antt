-- What is returned where a `?` leaves: the refusal of the call, and of a search that found nothing Full.
use Rattle.std.specs.Prelude.{◌≡◌, ℕ, Option, None, Result, Err, IsErrAnd}
use Rattle.std.specs.Option.{ok_or}
use Rattle.std.specs.Result.{result_ok}
use Rattle.std.proofs.Common.{ap, ◌∙◌}
use Rattle.std.proofs.lemmas.Result.{err_from_is_err_and}
use Rattle.layout.specs.declared.Refusal.{Refusal}
use Rattle.layout.specs.declared.Refusal.TheVariants.{Full}

pub handed : {T : Type 0} {r : Result T Refusal} {e : Refusal} → IsErrAnd r (λ d. d ≡ e) → r ≡ Err e
handed {T} {r} h = let p = err_from_is_err_and r h in p.1 ∙ ap Err p.2

pub not_found : {T : Type 0} {r : Result T Refusal} {e : Refusal} {o : Option ℕ} {x : Result ℕ Refusal}
    → IsErrAnd r (λ d. d ≡ e) → x ≡ ok_or o Full → o ≡ result_ok x → x ≡ Err e → (o ≡ None) × (r ≡ Err Full)
not_found {T} {r} {e} {o} {x} h v p w =
    let n : o ≡ None = p ∙ ap result_ok w in
    let f : x ≡ Err Full = v ∙ ap (λ (o : Option ℕ). ok_or o Full) n in
    let q : e ≡ Full = cc in (n, handed h ∙ ap Err q)
