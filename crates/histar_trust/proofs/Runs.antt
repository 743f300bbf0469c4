-- The contract of `trust`, put together from those of its parts.
use Rattle.std.proofs.Common.{◌≡◌, ℕ, false, List, Option, Result, Ok, Err, refl, ap, subst}
use Rattle.std.specs.Prelude.{is_ok}
use Rattle.std.specs.Io.KnownBytes.{Appends}
use Rattle.std.proofs.KnownBytes.{Keeps-refl}
use Rattle.histar_io.specs.Writing.{AppendsFront}
use Rattle.histar_script.specs.declared.fault.Fault.{Fault}
use Rattle.histar_script.specs.declared.fault.Fault.TheVariants.{BadScript, TooLong, OutOfMemory, ReadFailed, WriteFailed}
use Rattle.histar_script.specs.Script.{ScriptModel}
use Rattle.histar_script.specs.Outcome.{Gives}
use Rattle.histar_script.specs.Reading.{script_of}
use Rattle.histar_script.specs.Runs.{is_read_failed, is_write_failed}
use Rattle.histar_shell.specs.Machine.{MachineModel}
use Rattle.histar_shell.specs.Outcome.{IsFaultAt}
use Rattle.histar_prefix.specs.Prefix.{IsMachineOf, calls_before, state_before}
use Rattle.histar_trust.specs.Findings.{HasState, ShowsReached}
use Rattle.histar_trust.specs.Session.{WritesAtFault, WritesOf}

-- the result of `trust`
abbrev Answer : Type 0
Answer = Result (Unit {0}) Fault

-- reading a script calls no device
pub reads_none : (f : Fault) (read : Result ScriptModel Fault) → Gives (Err f) read → is_read_failed {A = Unit {0}} (Err f) ≡ false
reads_none (BadScript n) read given = refl
reads_none TooLong read given = refl
reads_none OutOfMemory read given = refl
reads_none ReadFailed read given = absurd given
reads_none WriteFailed read given = refl

pub writes_none : (f : Fault) (read : Result ScriptModel Fault) → Gives (Err f) read → is_write_failed {A = Unit {0}} (Err f) ≡ false
writes_none (BadScript n) read given = refl
writes_none TooLong read given = refl
writes_none OutOfMemory read given = refl
writes_none ReadFailed read given = refl
writes_none WriteFailed read given = absurd given

-- the machine represents a state that calls lead to
pub shows_reached : (at : Option ℕ) (text : List ℕ) (m : MachineModel) (is : IsMachineOf at text m)
    → ShowsReached is.script.accounts m (state_before at is.script)
shows_reached at text m is = record { shows = is.shows; reached = (calls_before at is.script.calls, refl) }

pub has_state : (at : Option ℕ) (text : List ℕ) (m : MachineModel) → IsMachineOf at text m → HasState m
has_state at text m is = (is.script.accounts, state_before at is.script, shows_reached at text m is)

module _ (text_of : ScriptModel → List ℕ) where
  -- ---- a text that is a script or none

  script_fault_agrees : (f : Fault) (read : Result ScriptModel Fault) → Gives (Err f) read → IsFaultAt read f
  script_fault_agrees (BadScript n) read given = given
  script_fault_agrees TooLong read given = given
  script_fault_agrees OutOfMemory read given = tt
  script_fault_agrees ReadFailed read given = absurd given
  script_fault_agrees WriteFailed read given = absurd given

  script_fault_writes : (f : Fault) (w : Option (List ℕ)) (read : Result ScriptModel Fault) → Gives (Err f) read → WritesAtFault text_of w w read f
  script_fault_writes (BadScript n) w read given = Keeps-refl w
  script_fault_writes TooLong w read given = Keeps-refl w
  script_fault_writes OutOfMemory w read given = Keeps-refl w
  script_fault_writes ReadFailed w read given = absurd given
  script_fault_writes WriteFailed w read given = absurd given

  -- the contract for a text with a fault
  pub faulty_text : (text : List ℕ) (w : Option (List ℕ)) (f : Fault) → Gives (Err f) (script_of text) → WritesOf text_of text w w (Err f)
  faulty_text text w f given = record {
    faults = script_fault_agrees f (script_of text) given;
    writes = script_fault_writes f w (script_of text) given;
  }

  -- the contract for a text if memory ran out before anything was written
  pub unwritten_text : (text : List ℕ) (w : Option (List ℕ)) → WritesOf text_of text w w (Err OutOfMemory)
  unwritten_text text w = record { faults = tt; writes = Keeps-refl w }

  -- ---- a machine after the calls

  module _ {at : Option ℕ} {text : List ℕ} {m : MachineModel} (is : IsMachineOf at text m) (lines : List ℕ) (lines_are : lines ≡ text_of is.script)
      (old new : Option (List ℕ)) where
    pub written_text : Appends old new lines → WritesOf text_of text old new (Ok tt)
    written_text h = record {
      faults = ap is_ok is.is_read;
      writes = record { script = is.script; is_read = is.is_read; written = subst (Appends old new) lines_are h };
    }

    pub begun_text : AppendsFront old new lines → WritesOf text_of text old new (Err WriteFailed)
    begun_text h = record {
      faults = ap is_ok is.is_read;
      writes = record { script = is.script; is_read = is.is_read; written = subst (AppendsFront old new) lines_are h };
    }
