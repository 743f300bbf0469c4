-- Outputs of runs that are held in memory.
use Rattle.std.proofs.Common.{◌≡◌, ℕ, List, Result, Err, true, false, subst}
use Rattle.std.specs.Prelude.{IsOk}
use Rattle.histar_script.specs.declared.fault.Fault.{Fault}
use Rattle.histar_script.specs.declared.fault.Fault.TheVariants.{TooLong}
use Rattle.histar_script.specs.Script.{ScriptModel}
use Rattle.histar_script.specs.Reading.{script_of}

-- a text that is too long is none
pub not_long : (text : List ℕ) → script_of text ≡ Err TooLong → IsOk (script_of text) → ⊥
not_long text long is = let no : false ≡ true = subst (λ (read : Result ScriptModel Fault). IsOk read) long is in absurd cc
