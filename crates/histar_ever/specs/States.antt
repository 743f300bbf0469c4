-- The flat states of a run.
use Rattle.std.specs.Prelude.{ℕ, List, [], ◌∷◌, Option}
use Rattle.histar_flat.specs.declared.calls.CallLine.{CallLine}
use Rattle.histar_flat.specs.Accounts.{Accounts}
use Rattle.histar_flat.specs.FlatState.{Flat}
use Rattle.histar_flat.specs.FlatCalls.{flat_after}
use Rattle.histar_flat.specs.Meaning.{boot}
use Rattle.histar_script.specs.Script.{ScriptModel}
use Rattle.histar_prefix.specs.Prefix.{calls_before}

-- the flat states of a run: before each of these calls, and after the last
abbrev pub states_from : Accounts → Flat → List CallLine → List Flat
states_from accounts f [] = f ∷ []
states_from accounts f (c ∷ calls) = f ∷ states_from accounts (flat_after accounts f c.process c.call) calls

-- the flat states of a script's run, up to this line if one is given
abbrev pub states_before : Option ℕ → ScriptModel → List Flat
states_before at script = states_from script.accounts (boot script.accounts) (calls_before at script.calls)
