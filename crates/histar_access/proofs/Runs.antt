-- The contract of `access`, put together from those of its parts.
use Rattle.std.proofs.Common.{◌≡◌, ℕ, false, List, Option, Result, Ok, Err, refl, ap}
use Rattle.std.proofs.Common.{inr}
use Rattle.std.specs.Prelude.{IfErr, OnErr, OnOk, is_ok}
use Rattle.histar_script.specs.declared.fault.Fault.{Fault}
use Rattle.histar_script.specs.declared.fault.Fault.TheVariants.{BadScript, TooLong, OutOfMemory, ReadFailed, WriteFailed}
use Rattle.histar_script.specs.Script.{ScriptModel}
use Rattle.histar_script.specs.Outcome.{Gives}
use Rattle.histar_script.specs.Reading.{script_of}
use Rattle.histar_script.specs.Runs.{IsOutputFault, LeavesSink, is_read_failed, is_write_failed}
use Rattle.histar_shell.proofs.RunLemmas.{sink_called}
use Rattle.histar_shell.specs.Machine.{MachineModel}
use Rattle.histar_prefix.specs.Prefix.{IsMachineOf, state_before}
use Rattle.histar_access.specs.Session.{AccessText, BeginsToWrite, table_text}
use Rattle.histar_access.specs.Shown.{AppendsTable, BeginsTable, IsShown}

-- the result of `access`
abbrev Answer : Type 0
Answer = Result (Unit {0}) Fault

-- no read failed if the fault is one of the output
pub no_read_failed : (f : Fault) → IsOutputFault f → is_read_failed {A = Unit {0}} (Err f) ≡ false
no_read_failed (BadScript n) fault = refl
no_read_failed TooLong fault = refl
no_read_failed OutOfMemory fault = refl
no_read_failed ReadFailed fault = absurd fault
no_read_failed WriteFailed fault = refl

-- the result of writing is not that a read failed
pub no_read_fails : (r : Answer) → IfErr r IsOutputFault → is_read_failed r ≡ false
no_read_fails (Ok done) h = refl
no_read_fails (Err f) h = no_read_failed f h

-- reading a script calls no device
pub reads_none : (f : Fault) (read : Result ScriptModel Fault) → Gives (Err f) read → is_read_failed {A = Unit {0}} (Err f) ≡ false
reads_none (BadScript n) read given = refl
reads_none TooLong read given = refl
reads_none OutOfMemory read given = refl
reads_none ReadFailed read given = absurd given
reads_none WriteFailed read given = refl

pub writes_none : (f : Fault) (read : Result ScriptModel Fault) → Gives (Err f) read → is_write_failed {A = Unit {0}} (Err f) ≡ false
writes_none (BadScript n) read given = refl
writes_none TooLong read given = refl
writes_none OutOfMemory read given = refl
writes_none ReadFailed read given = refl
writes_none WriteFailed read given = absurd given

-- the sink is as the contract says
pub sink_after : {W : Type 0} (old new : W) (r : Answer) → IfErr r IsOutputFault → IfErr r (LeavesSink old new)
sink_after old new (Ok done) h = tt
sink_after old new (Err f) h = sink_called old new f h

module _ (at : Option ℕ) where
  -- ---- a machine after the calls

  module _ (text : List ℕ) (end : MachineModel) (is : IsMachineOf at text end) where
    -- such a machine represents some flat state
    pub is_shown : IsShown end
    is_shown = (is.script.accounts, state_before at is.script, is.shows, is.named)

    -- the text of its table was written
    pub written_text : (old new : Option (List ℕ)) → AppendsTable end old new → AccessText at text old new (Ok tt)
    written_text old new h = record {
      faults = ap is_ok is.is_read;
      writes = record { script = is.script; is_read = is.is_read; written = h is.script.accounts (state_before at is.script) is.shows is.named };
    }

    begins : (old new : Option (List ℕ)) → BeginsTable end old new → BeginsToWrite (table_text at) old new (script_of text)
    begins old new h = record {
      script = is.script;
      is_read = is.is_read;
      written = h is.script.accounts
          (state_before at is.script) is.shows is.named;
    }

    -- a beginning of the text of its table was written
    pub begun_text : (old new : Option (List ℕ)) (f : Fault) → IsOutputFault f → BeginsTable end old new → AccessText at text old new (Err f)
    begun_text old new (BadScript n) h b = absurd h
    begun_text old new TooLong h b = absurd h
    begun_text old new OutOfMemory h b = record { faults = tt; writes = inr (begins old new b) }
    begun_text old new ReadFailed h b = absurd h
    begun_text old new WriteFailed h b = record { faults = ap is_ok is.is_read; writes = begins old new b }

    -- the contract holds, whatever the result of writing is
    pub text_run : {old new : Option (List ℕ)} → (r : Answer) → OnOk r (AppendsTable end old new) → OnErr r (BeginsTable end old new)
        → IfErr r IsOutputFault
        → AccessText at text old new r
    text_run {old = old} {new = new} (Ok done) a b h = written_text old new a
    text_run {old = old} {new = new} (Err f) a b h = begun_text old new f h b
