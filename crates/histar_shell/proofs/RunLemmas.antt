-- What a run writes and returns, put together from its parts.
use Rattle.std.proofs.Common.{◌≡◌, ℕ, false, List, Option, Result, Ok, Err, refl, sym, ap, subst}
use Rattle.std.proofs.Common.{inl, inr}
use Rattle.std.specs.Prelude.{Bool, IsOk, is_ok}
use Rattle.std.proofs.KnownBytes.{Keeps-refl}
use Rattle.histar_script.specs.declared.fault.Fault.{Fault}
use Rattle.histar_script.specs.declared.fault.Fault.TheVariants.{BadScript, TooLong, OutOfMemory, ReadFailed, WriteFailed}
use Rattle.histar_script.specs.Script.{ScriptModel}
use Rattle.histar_script.specs.Outcome.{Gives}
use Rattle.histar_script.specs.Reading.{script_of}
use Rattle.histar_script.specs.Runs.{IsOutputFault, LeavesSink, is_read_failed}
use Rattle.histar_io.specs.Device.{CountsFailure}
use Rattle.histar_flat.specs.Accounts.{Accounts}
use Rattle.histar_shell.specs.declared.session.Options.{Options}
use Rattle.histar_shell.specs.Ending.{BeginsTheEnding}
use Rattle.histar_shell.specs.Outcome.{IsFaultAt, AgreesWith, AnswersScript, BeginsScript, WritesAtFault, WritesAnswers}
use Rattle.histar_shell.specs.Run.{RunsText}
use Rattle.histar_shell.specs.Machine.{MachineModel, IsStart}
use Rattle.histar_shell.specs.AnsweredCalls.{AnswersCalls}
use Rattle.histar_shell.specs.AllAnswers.{AnswersAll, BeginsAll}
use Rattle.histar_trace.specs.declared.entries.TraceEntry.{TraceEntry}
use Rattle.histar_flat.specs.declared.calls.CallLine.{CallLine}
use Rattle.histar_shell.proofs.CallRefinements.{CallsRefine}
use Rattle.histar_shell.proofs.SessionMeanings.{meant_run}

-- what a run answers
abbrev Answer : Type 0
Answer = Result (List TraceEntry) Fault

-- no read failed where the fault is one of the output
pub no_read_failed : (f : Fault) → IsOutputFault f → is_read_failed {A = List TraceEntry} (Err f) ≡ false
no_read_failed (BadScript n) fault = refl
no_read_failed TooLong fault = refl
no_read_failed OutOfMemory fault = refl
no_read_failed ReadFailed fault = absurd fault
no_read_failed WriteFailed fault = refl

-- a count that went on from where it was left
pub counts_on : (old mid new : ℕ) (failed : Bool) → mid ≡ old → CountsFailure mid new failed → CountsFailure old new failed
counts_on old mid new failed same counts = rw (sym same) counts

module _ (options : Options) where
  -- ---- a text that is run

  -- the replies of a run are those of its script's meaning
  pub runs_text : (refinements : CallsRefine (Unit {0})) (text : List ℕ) (old new : Option (List ℕ)) (result : Answer)
      → AgreesWith (script_of text) result → WritesAnswers options old new (script_of text) result
      → RunsText options text old new result
  runs_text refinements text old new result agrees answers =
      record { faults = agrees; answers = answers; means = meant_run refinements options old new text result answers }

  -- what reading the script answers is the fault in it, or out of memory
  script_fault_agrees : (f : Fault) (read : Result ScriptModel Fault) → Gives (Err f) read → IsFaultAt read f
  script_fault_agrees (BadScript n) read given = given
  script_fault_agrees TooLong read given = given
  script_fault_agrees OutOfMemory read given = tt
  script_fault_agrees ReadFailed read given = absurd given
  script_fault_agrees WriteFailed read given = absurd given

  -- at a fault of the script nothing was written
  script_fault_writes : (f : Fault) (w : Option (List ℕ)) (read : Result ScriptModel Fault) → Gives (Err f) read → WritesAtFault options w w read f
  script_fault_writes (BadScript n) w read given = Keeps-refl w
  script_fault_writes TooLong w read given = Keeps-refl w
  script_fault_writes OutOfMemory w read given = inl (Keeps-refl w)
  script_fault_writes ReadFailed w read given = absurd given
  script_fault_writes WriteFailed w read given = absurd given

  -- a text in which reading finds a fault
  pub faulty_text : (refinements : CallsRefine (Unit {0})) (text : List ℕ) (w : Option (List ℕ)) (f : Fault)
      → Gives (Err f) (script_of text) → RunsText options text w w (Err f)
  faulty_text refinements text w f given =
      runs_text refinements text w w (Err f) (script_fault_agrees f (script_of text) given)
      (script_fault_writes f w (script_of text) given)

  -- a text for which no machine was booted
  pub unbooted_text : (refinements : CallsRefine (Unit {0})) (text : List ℕ) (w : Option (List ℕ)) → RunsText options text w w (Err OutOfMemory)
  unbooted_text refinements text w = runs_text refinements text w w (Err OutOfMemory) tt (inl (Keeps-refl w))

  -- answering the calls fails by no fault of a script
  answer_fault_agrees : (f : Fault) (read : Result ScriptModel Fault) → IsOutputFault f → IsOk read → IsFaultAt read f
  answer_fault_agrees (BadScript n) read h right = absurd h
  answer_fault_agrees TooLong read h right = absurd h
  answer_fault_agrees OutOfMemory read h right = tt
  answer_fault_agrees ReadFailed read h right = absurd h
  answer_fault_agrees WriteFailed read h right = right

  -- at a fault of the output a beginning of the answers was written
  answer_fault_writes : (f : Fault) (old new : Option (List ℕ)) (read : Result ScriptModel Fault) → IsOutputFault f
      → BeginsScript options old new read → WritesAtFault options old new read f
  answer_fault_writes (BadScript n) old new read h begun = absurd h
  answer_fault_writes TooLong old new read h begun = absurd h
  answer_fault_writes OutOfMemory old new read h begun = inr begun
  answer_fault_writes ReadFailed old new read h begun = absurd h
  answer_fault_writes WriteFailed old new read h begun = begun

  -- the machine was booted with the users and groups that the script has
  pub starts_with : (m : MachineModel) (script : ScriptModel) (accounts : Accounts) → accounts ≡ script.accounts
      → IsStart accounts m → IsStart script.accounts m
  starts_with m script accounts same starts = subst (λ (declared : Accounts). IsStart declared m) same starts

  -- the calls were answered, and a beginning of what follows the replies was written
  pub begins_ending : (old replied new : Option (List ℕ)) (start end : MachineModel) (calls : List CallLine)
      → AnswersCalls start end old replied calls → BeginsTheEnding options end replied new → BeginsAll options start old new calls
  begins_ending old replied new start end calls answered begun =
      inr (record { end = end; replied = replied; answered = answered; ending = begun.0; ends = begun.1; appended = begun.2 })

  -- a beginning of the answers to the script was written
  pub begins_script : (old new : Option (List ℕ)) (script : ScriptModel) (start : MachineModel) (calls : List CallLine)
      → IsStart script.accounts start → calls ≡ script.calls → BeginsAll options start old new calls
      → (read : Result ScriptModel Fault) → read ≡ Ok script → BeginsScript options old new read
  begins_script old new script start calls starts listed begun read is_read = record {
    script = script;
    is_read = is_read;
    start = start;
    starts = starts;
    begun = subst (λ (l : List CallLine). BeginsAll options start old new l) listed begun;
  }

  -- the calls of the script were answered, what follows the replies was written, and the trace is that of the machine at the end
  pub answers_script : (old new : Option (List ℕ)) (script : ScriptModel) (start end : MachineModel)
      (calls : List CallLine) (trace : List TraceEntry) → IsStart script.accounts start → calls ≡ script.calls
      → AnswersAll options start end old new calls → trace ≡ end.kernel.trace
      → (read : Result ScriptModel Fault) → read ≡ Ok script
      → AnswersScript options old new read trace
  answers_script old new script start end calls trace starts listed all recorded read is_read = record {
    script = script;
    is_read = is_read;
    start = start;
    starts = starts;
    end = end;
    replied = all.replied;
    answered = subst (λ (l : List CallLine). AnswersCalls start end old all.replied l) listed all.answered;
    ending = all.ended.0;
    ends = all.ended.1;
    appended = all.ended.2;
    recorded = recorded;
  }

  -- a text of which a beginning of the calls was answered
  pub begun_text : (refinements : CallsRefine (Unit {0})) (text : List ℕ) (old new : Option (List ℕ)) (f : Fault)
      (script : ScriptModel) → script_of text ≡ Ok script → IsOutputFault f
      → BeginsScript options old new (script_of text) → RunsText options text old new (Err f)
  begun_text refinements text old new f script given h begun =
      runs_text refinements text old new (Err f) (answer_fault_agrees f (script_of text) h (ap is_ok given))
      (answer_fault_writes f old new (script_of text) h begun)

  -- a text of which all calls were answered
  pub answered_text : (refinements : CallsRefine (Unit {0})) (text : List ℕ) (old new : Option (List ℕ)) (trace : List TraceEntry)
      (script : ScriptModel) → script_of text ≡ Ok script → AnswersScript options old new (script_of text) trace
      → RunsText options text old new (Ok trace)
  answered_text refinements text old new trace script given answers = runs_text refinements text old new (Ok trace) (ap is_ok given) answers

-- ---- a sink that is left alone

-- answering calls has none of the faults at which it is
pub sink_called : {W : Type 0} (old new : W) (f : Fault) → IsOutputFault f → LeavesSink old new f
sink_called old new (BadScript n) h = absurd h
sink_called old new TooLong h = absurd h
sink_called old new OutOfMemory h = tt
sink_called old new ReadFailed h = absurd h
sink_called old new WriteFailed h = tt
