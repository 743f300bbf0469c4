-- The run of a script ends for want of memory only where memory ran out.
use Rattle.std.proofs.Common.{◌≡◌, Result, Err, subst, sym}
use Rattle.std.specs.Prelude.{IsErrAnd}
use Rattle.std.proofs.lemmas.Result.{err_from_is_err_and}
use Rattle.histar_shell.specs.Machine.{MachineModel}
use Rattle.histar_shell.specs.Memory.{StillShows}
use Rattle.histar_comparison.specs.Memory.{FailsForMemory}

-- an error that is passed on, from a machine with which a run goes on
pub fails_passed : (M : Type 0) {A E : Type 0} (first mid : MachineModel) (result : Result A E) (error : E)
    → IsErrAnd result (λ e. e ≡ error) → StillShows first mid → FailsForMemory {A = A} M mid (Err error)
    → FailsForMemory M first result
fails_passed M first mid result error is still fails =
    subst (FailsForMemory M first) (sym (err_from_is_err_and result is).1) (λ accounts f shows runs.
    let there = still accounts f shows runs in
    fails accounts there.0 there.1 there.2)
