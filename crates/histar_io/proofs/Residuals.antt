-- What the exit of a `?` returns.
use Rattle.std.proofs.Common.{◌≡◌, Result, Err, ap, ◌∙◌}
use Rattle.std.specs.Prelude.{IsErrAnd}
use Rattle.std.proofs.lemmas.Result.{err_from_is_err_and}

-- the error that is passed on as it is
pub passed_on : {T E : Type 0} (r : Result T E) (e : E) → IsErrAnd r (λ y. y ≡ e) → r ≡ Err e
passed_on r e is = let p = err_from_is_err_and r is in p.1 ∙ ap Err p.2
