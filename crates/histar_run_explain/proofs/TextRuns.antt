-- What `explain_script` writes and returns, put together from its parts.
use Rattle.std.proofs.Common.{◌≡◌, ℕ, false, List, Option, Result, Ok, Err, refl, ap, subst}
use Rattle.std.proofs.Common.{inl, inr}
use Rattle.std.specs.Prelude.{IfErr, OnErr, OnOk, is_ok}
use Rattle.std.specs.Io.KnownBytes.{Appends}
use Rattle.std.proofs.KnownBytes.{Keeps-refl}
use Rattle.histar_io.specs.Writing.{AppendsFront}
use Rattle.histar_flat.specs.declared.calls.CallLine.{CallLine}
use Rattle.histar_flat.specs.Accounts.{Accounts}
use Rattle.histar_script.specs.declared.fault.Fault.{Fault}
use Rattle.histar_script.specs.declared.fault.Fault.TheVariants.{BadScript, TooLong, OutOfMemory, ReadFailed, WriteFailed}
use Rattle.histar_script.specs.Script.{ScriptModel}
use Rattle.histar_script.specs.Outcome.{Gives}
use Rattle.histar_script.specs.Reading.{script_of}
use Rattle.histar_script.specs.Runs.{IsOutputFault, LeavesSink, is_read_failed}
use Rattle.histar_shell.proofs.RunLemmas.{sink_called}
use Rattle.histar_shell.specs.AnsweredCalls.{BeginsAnswers}
use Rattle.histar_shell.specs.Ending.{AppendsEnding, BeginsTheEnding}
use Rattle.histar_shell.specs.Machine.{MachineModel, IsStart, IsTraced}
use Rattle.histar_shell.specs.Outcome.{IsFaultAt}
use Rattle.histar_shell.specs.declared.session.Options.{Options}
use Rattle.histar_shell.proofs.CallRefinements.{calls_refine}
use Rattle.histar_shell.proofs.SessionMeanings.{booted_traced, tree_at_last}
use Rattle.histar_shell.proofs.Users.{script_says}
use Rattle.histar_names.specs.Births.{Births}
use Rattle.histar_run_explain.specs.Session.{BeginsRun, EndsWithTree, ExplainsCalls, WritesRun}
use Rattle.histar_run_explain.specs.Run.{ExplainsText, BeginsExplained, ExplainsAtFault}
use Rattle.histar_run_explain.proofs.Scripts.{all_explained, front_explained, ending_begun, replies_begun}

-- what `explain_script` returns
abbrev Answer : Type 0
Answer = Result (Unit {0}) Fault

-- no read failed where the fault is one of the output
pub no_read_failed : (f : Fault) → IsOutputFault f → is_read_failed {A = Unit {0}} (Err f) ≡ false
no_read_failed (BadScript n) fault = refl
no_read_failed TooLong fault = refl
no_read_failed OutOfMemory fault = refl
no_read_failed ReadFailed fault = absurd fault
no_read_failed WriteFailed fault = refl

-- the result of writing shows that no read failed
pub no_read_fails : (r : Answer) → IfErr r IsOutputFault → is_read_failed r ≡ false
no_read_fails (Ok done) h = refl
no_read_fails (Err f) h = no_read_failed f h

-- after writing, no fault occurs that leaves the sink as it was
pub sink_after : {W : Type 0} (old new : W) (r : Answer) → IfErr r IsOutputFault → IfErr r (LeavesSink old new)
sink_after old new (Ok done) h = tt
sink_after old new (Err f) h = sink_called old new f h

module _ (options : Options) where
  -- ---- a text that is a script or none

  -- what reading the script answers is the fault in it, or out of memory
  script_fault_agrees : (f : Fault) (read : Result ScriptModel Fault) → Gives (Err f) read → IsFaultAt read f
  script_fault_agrees (BadScript n) read given = given
  script_fault_agrees TooLong read given = given
  script_fault_agrees OutOfMemory read given = tt
  script_fault_agrees ReadFailed read given = absurd given
  script_fault_agrees WriteFailed read given = absurd given

  -- at a fault of the script nothing was written
  script_fault_writes : (f : Fault) (w : Option (List ℕ)) (read : Result ScriptModel Fault) → Gives (Err f) read → ExplainsAtFault options w w read f
  script_fault_writes (BadScript n) w read given = Keeps-refl w
  script_fault_writes TooLong w read given = Keeps-refl w
  script_fault_writes OutOfMemory w read given = inl (Keeps-refl w)
  script_fault_writes ReadFailed w read given = absurd given
  script_fault_writes WriteFailed w read given = absurd given

  -- a text in which reading finds a fault
  pub faulty_text : (text : List ℕ) (w : Option (List ℕ)) (f : Fault) → Gives (Err f) (script_of text) → ExplainsText options text w w (Err f)
  faulty_text text w f given =
      record {
        faults = script_fault_agrees f (script_of text) given;
        writes = script_fault_writes f w (script_of text) given;
      }

  -- a text for which memory ran out before anything was written
  pub unwritten_text : (text : List ℕ) (w : Option (List ℕ)) → ExplainsText options text w w (Err OutOfMemory)
  unwritten_text text w = record { faults = tt; writes = inl (Keeps-refl w) }

  -- ---- a script whose machine was booted

  module _ (text : List ℕ) (script : ScriptModel) (given : script_of text ≡ Ok script) (accounts : Accounts)
      (accounts_is : accounts ≡ script.accounts) (calls : List CallLine) (calls_are : calls ≡ script.calls)
      (start : MachineModel) (starts : IsStart accounts start) where
    started : IsStart script.accounts start
    started = subst (λ (s : Accounts). IsStart s start) accounts_is starts

    -- the trace of the machine at the start is a run
    pub start_traced : IsTraced start.kernel
    start_traced = booted_traced accounts start.kernel starts.booted

    -- a beginning was written
    begins : (f : Fault) (old new : Option (List ℕ)) → IsOutputFault f
        → BeginsExplained options old new (script_of text) → ExplainsText options text old new (Err f)
    begins (BadScript n) old new h b = absurd h
    begins TooLong old new h b = absurd h
    begins OutOfMemory old new h b = record { faults = tt; writes = inr b }
    begins ReadFailed old new h b = absurd h
    begins WriteFailed old new h b = record { faults = ap is_ok given; writes = b }

    -- the first lines were answered
    begun_replies : (f : Fault) (old new : Option (List ℕ)) → IsOutputFault f → BeginsAnswers start old new calls
        → ExplainsText options text old new (Err f)
    begun_replies f old new h b =
        let says = script_says text script given in
        let these = subst (λ (cs : List CallLine). BeginsAnswers start old new cs) calls_are b in
        begins f old new h (record {
          script = script;
          is_read = given;
          begun = inl (replies_begun script says.0 says.1 start started options old new these);
        })

    module _ (old replied : Option (List ℕ)) (end : MachineModel) (lines : List ℕ) (born : Births)
        (all : ExplainsCalls start end old replied calls lines born) where
      all_lines : ExplainsCalls start end old replied script.calls lines born
      all_lines = subst (λ (cs : List CallLine). ExplainsCalls start end old replied cs lines born) calls_are all

      -- a beginning of what follows the replies was written
      begun_ending : (f : Fault) (new : Option (List ℕ)) → IsOutputFault f → BeginsTheEnding options end replied new
          → ExplainsText options text old new (Err f)
      begun_ending f new h b =
          let says = script_says text script given in
          begins f old new h (record {
            script = script;
            is_read = given;
            begun = inr (ending_begun script says.0 says.1 start started old replied end lines born all_lines
                options new b);
          })

      -- all that, and a beginning of the explanations, was written
      begun_explanations : (f : Fault) (mid new : Option (List ℕ)) → IsOutputFault f
          → AppendsEnding options end replied mid → AppendsFront mid new lines
          → ExplainsText options text old new (Err f)
      begun_explanations f mid new h ending b =
          let says = script_says text script given in
          begins f old new h (record {
            script = script;
            is_read = given;
            begun = inr (front_explained script says.0 says.1 start started old replied end lines born all_lines
                options mid new ending b);
          })

      -- all explanations were written
      explained_text : (mid new : Option (List ℕ)) → AppendsEnding options end replied mid → Appends mid new lines
          → ExplainsText options text old new (Ok tt)
      explained_text mid new ending written =
          let says = script_says text script given in
          record {
            faults = ap is_ok given;
            writes = record {
              script = script;
              is_read = given;
              explained = all_explained script says.0 says.1 start started old replied end lines born
                  all_lines options mid new ending written;
            };
          }

    -- each machine that has answered the lines has a tree
    pub ends_with_tree : EndsWithTree start calls
    ends_with_tree end old new answered = tree_at_last calls_refine text script given start end started calls calls_are old new answered

    -- all was written
    whole_run : (old new : Option (List ℕ)) → WritesRun options start old new calls → ExplainsText options text old new (Ok tt)
    whole_run old new run =
        explained_text old run.replied run.end run.text run.born run.answered run.rest.ended new run.rest.ending
        run.rest.explanations

    -- a beginning of the replies, of what follows them or of the explanations was written
    begun_run : (f : Fault) (old new : Option (List ℕ)) → IsOutputFault f → BeginsRun options start old new calls
        → ExplainsText options text old new (Err f)
    begun_run f old new h (inl b) = begun_replies f old new h b
    begun_run f old new h (inr run) = elim run.rest [
      | inl b ↦ begun_ending old run.replied run.end run.text run.born run.answered f new h b
      | inr b ↦ begun_explanations old run.replied run.end run.text run.born run.answered f b.ended new h b.ending b.explanations
    ]

    -- the text was explained, whatever the run of its calls returns
    pub run_ends : (old new : Option (List ℕ)) (r : Answer) → OnOk r (WritesRun options start old new calls)
        → OnErr r (BeginsRun options start old new calls) → IfErr r IsOutputFault → ExplainsText options text old new r
    run_ends old new (Ok done) whole begun h = whole_run old new whole
    run_ends old new (Err f) whole begun h = begun_run f old new h begun
