-- How the code that makes things runs its part.
use Rattle.std.proofs.Common.{◌≡◌, ℕ, List, [], Result, subst}
use Rattle.histar_level.specs.Levels.{Levels}
use Rattle.histar_rules.specs.declared.raw.RawCall.TheVariants.{MakeSegment}
use Rattle.histar_syscall.specs.KernelModel.{KernelModel}
use Rattle.histar_programs.specs.declared.call_error.CallError.{CallError}
use Rattle.histar_programs.specs.Programs.{Part, RunsPart}
use Rattle.histar_programs.specs.Parts.{ask}

-- an empty segment is made with the expected label
pub makes : {M : Type 0} → (t : ℕ) (old new : KernelModel) (d : ℕ) (label due : Levels) (empty : List ℕ) → label ≡ due → empty ≡ []
    → (result : Result ℕ CallError)
    → RunsPart {A = ℕ} M (ask (MakeSegment d label empty)) old new t result → RunsPart {A = ℕ} M (ask (MakeSegment d due [])) old new t result
makes {M} t old new d label due empty same none result runs =
    subst (λ (part : Part ℕ). RunsPart {A = ℕ} M part old new t result) (λ i. ask (MakeSegment d (same i) (none i))) runs
