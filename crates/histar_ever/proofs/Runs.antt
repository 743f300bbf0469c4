-- What was gathered of the run of a script.
use Rattle.std.specs.Prelude.{ℕ, List, Option}
use Rattle.std.proofs.Common.{subst}
use Rattle.histar_flat.specs.declared.calls.CallLine.{CallLine}
use Rattle.histar_flat.specs.Meaning.{boot}
use Rattle.histar_shell.specs.Machine.{MachineModel}
use Rattle.histar_prefix.specs.Prefix.{calls_before}
use Rattle.histar_ever.specs.Following.{Gathering, GathersRun}
use Rattle.histar_ever.specs.Session.{IsGatheredOf, IsStartOf}
use Rattle.histar_ever.specs.States.{states_from}

module _ {E : Type 0} (gathers : Gathering E) (at : Option ℕ) (text : List ℕ) where
  -- the states of the run of a script were gathered
  pub gathered_script : (m : MachineModel) (calls : List CallLine) (e : E) → IsStartOf text m calls
      → GathersRun gathers (calls_before at calls) m e → IsGatheredOf gathers at text e
  gathered_script m calls e is run =
      let accounts = is.script.accounts in
      record {
        script = is.script;
        is_read = is.is_read;
        gathered = subst (λ (cs : List CallLine). gathers accounts (states_from accounts (boot accounts) (calls_before at cs)) e) is.calls_are
            (run accounts is.shows);
      }
