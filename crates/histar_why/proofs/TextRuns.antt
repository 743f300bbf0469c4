-- What `run_with_reasons` writes and returns, put together from its parts.
use Rattle.std.proofs.Common.{◌≡◌, ℕ, false, List, [], ◌++◌, Option, Result, Ok, Err, refl, sym, ap, ◌∙◌, subst, append-nil}
use Rattle.std.proofs.Common.{inl, inr, ◌⊎◌}
use Rattle.std.specs.Prelude.{IfErr, OnErr, OnOk, is_ok}
use Rattle.std.specs.Io.KnownBytes.{Appends}
use Rattle.std.proofs.KnownBytes.{Appends-trans, Keeps-refl}
use Rattle.histar_io.specs.Writing.{AppendsFront}
use Rattle.histar_flat.specs.declared.calls.CallLine.{CallLine}
use Rattle.histar_flat.specs.Accounts.{Accounts}
use Rattle.histar_flat.specs.Meaning.{boot}
use Rattle.histar_reasons.specs.Sentences.{why_lines}
use Rattle.histar_script.specs.declared.fault.Fault.{Fault}
use Rattle.histar_script.specs.declared.fault.Fault.TheVariants.{BadScript, TooLong, OutOfMemory, ReadFailed, WriteFailed}
use Rattle.histar_script.specs.Script.{ScriptModel}
use Rattle.histar_script.specs.Outcome.{Gives}
use Rattle.histar_script.specs.Reading.{script_of}
use Rattle.histar_script.specs.Runs.{IsOutputFault, LeavesSink, is_read_failed}
use Rattle.histar_shell.proofs.RunLemmas.{sink_called}
use Rattle.histar_shell.specs.AllAnswers.{EndsWithTree}
use Rattle.histar_shell.specs.AnsweredCalls.{AnswersCalls, BeginsAnswers}
use Rattle.histar_shell.specs.Ending.{AppendsEnding, BeginsTheEnding, asked_trace}
use Rattle.histar_shell.specs.Machine.{MachineModel, IsStart}
use Rattle.histar_shell.specs.Meaning.{BeginsTrace, IsMeantTrace, meaning_text}
use Rattle.histar_shell.specs.Outcome.{IsFaultAt}
use Rattle.histar_shell.specs.declared.session.Options.{Options}
use Rattle.histar_shell.proofs.AnswerLemmas.{front_after}
use Rattle.histar_shell.proofs.CallRefinements.{calls_refine}
use Rattle.histar_shell.proofs.SessionMeanings.{answers_begin, begins_meaning, longer_front, tree_at_last, writes_meaning}
use Rattle.histar_shell.proofs.Users.{script_says}
use Rattle.histar_why.specs.Run.{BeginsReasons, ReasonsAs, ReasonsAtFault, RunsWithReasons, reasons_text}
use Rattle.histar_why.specs.Session.{BeginsRun, HasLogged, WritesRun}
use Rattle.histar_why.proofs.Naming.{known_at_start}

-- what `run_with_reasons` returns
abbrev Answer : Type 0
Answer = Result (Unit {0}) Fault

-- no read failed where the fault is one of the output
pub no_read_failed : (f : Fault) → IsOutputFault f → is_read_failed {A = Unit {0}} (Err f) ≡ false
no_read_failed (BadScript n) fault = refl
no_read_failed TooLong fault = refl
no_read_failed OutOfMemory fault = refl
no_read_failed ReadFailed fault = absurd fault
no_read_failed WriteFailed fault = refl

-- the result of writing shows that no read failed
pub no_read_fails : (r : Answer) → IfErr r IsOutputFault → is_read_failed r ≡ false
no_read_fails (Ok done) h = refl
no_read_fails (Err f) h = no_read_failed f h

-- after writing, no fault occurs that leaves the sink as it was
pub sink_after : {W : Type 0} (old new : W) (r : Answer) → IfErr r IsOutputFault → IfErr r (LeavesSink old new)
sink_after old new (Ok done) h = tt
sink_after old new (Err f) h = sink_called old new f h

module _ (options : Options) where
  -- ---- a text that is a script or none

  -- what reading the script answers is the fault in it, or out of memory
  script_fault_agrees : (f : Fault) (read : Result ScriptModel Fault) → Gives (Err f) read → IsFaultAt read f
  script_fault_agrees (BadScript n) read given = given
  script_fault_agrees TooLong read given = given
  script_fault_agrees OutOfMemory read given = tt
  script_fault_agrees ReadFailed read given = absurd given
  script_fault_agrees WriteFailed read given = absurd given

  -- at a fault of the script nothing was written
  script_fault_writes : (f : Fault) (w : Option (List ℕ)) (read : Result ScriptModel Fault) → Gives (Err f) read → ReasonsAtFault options w w read f
  script_fault_writes (BadScript n) w read given = Keeps-refl w
  script_fault_writes TooLong w read given = Keeps-refl w
  script_fault_writes OutOfMemory w read given = inl (Keeps-refl w)
  script_fault_writes ReadFailed w read given = absurd given
  script_fault_writes WriteFailed w read given = absurd given

  -- a text in which reading finds a fault
  pub faulty_text : (text : List ℕ) (w : Option (List ℕ)) (f : Fault) → Gives (Err f) (script_of text) → RunsWithReasons options text w w (Err f)
  faulty_text text w f given =
      record {
        faults = script_fault_agrees f (script_of text) given;
        writes = script_fault_writes f w (script_of text) given;
      }

  -- a text for which memory ran out before anything was written
  pub unwritten_text : (text : List ℕ) (w : Option (List ℕ)) → RunsWithReasons options text w w (Err OutOfMemory)
  unwritten_text text w = record { faults = tt; writes = inl (Keeps-refl w) }

  -- ---- a script whose machine was booted

  module _ (text : List ℕ) (script : ScriptModel) (given : script_of text ≡ Ok script) (accounts : Accounts)
      (accounts_is : accounts ≡ script.accounts) (calls : List CallLine) (calls_are : calls ≡ script.calls)
      (start : MachineModel) (starts : IsStart accounts start) where
    started : IsStart script.accounts start
    started = subst (λ (s : Accounts). IsStart s start) accounts_is starts

    -- each machine that has answered the lines has a tree
    pub ends_with_tree : EndsWithTree start calls
    ends_with_tree end old new answered = tree_at_last calls_refine text script given start end started calls calls_are old new answered

    -- a beginning was written
    begins : (f : Fault) (old new : Option (List ℕ)) → IsOutputFault f
        → BeginsReasons options old new (script_of text) → RunsWithReasons options text old new (Err f)
    begins (BadScript n) old new h b = absurd h
    begins TooLong old new h b = absurd h
    begins OutOfMemory old new h b = record { faults = tt; writes = inr b }
    begins ReadFailed old new h b = absurd h
    begins WriteFailed old new h b = record { faults = ap is_ok given; writes = b }

    module _ (f : Fault) (old new : Option (List ℕ)) (h : IsOutputFault f) where
      -- the first lines were answered
      begun_replies : BeginsAnswers start old new calls → RunsWithReasons options text old new (Err f)
      begun_replies b =
          let says = script_says text script given in
          begins f old new h (record {
            script = script;
            is_read = given;
            begun = inl (answers_begin calls_refine script says.0 says.1 start started options old new
                (subst (λ (cs : List CallLine). BeginsAnswers start old new cs) calls_are b));
          })

    module _ (old replied : Option (List ℕ)) (end : MachineModel) (lines : List ℕ) (logged : HasLogged start end old replied calls lines) where
      answered : AnswersCalls start end old replied script.calls
      answered = subst (AnswersCalls start end old replied) calls_are logged.1.answered

      -- the lines are those of the script
      lines_are : lines ≡ reasons_text script
      lines_are =
          let says = script_says text script given in
          (logged.1.logs script.accounts (boot script.accounts) (known_at_start script.accounts says.0 start started)).0
          ∙ ap (why_lines script.accounts (boot script.accounts)) calls_are

      -- what `run` writes was written
      abbrev run_text : List ℕ
      run_text = meaning_text options script ++ asked_trace options end.kernel.trace

      record Meant (mid : Option (List ℕ)) : Type 0 where
        recorded : IsMeantTrace script end.kernel.trace
        written : Appends old mid run_text

      abbrev read_as : ScriptModel → Result ScriptModel Fault
      read_as x = Ok x

      same_script : (other : ScriptModel) → read_as script ≡ read_as other → other ≡ script
      same_script other e = sym (ap (λ (r : Result ScriptModel Fault). elim r [ Ok x ↦ x | Err fault ↦ script ]) e)

      meaning : (mid : Option (List ℕ)) → AppendsEnding options end replied mid → Meant mid
      meaning mid ending =
          let says = script_says text script given in
          let wrote = writes_meaning calls_refine script says.0 says.1 start started options old replied mid (Ok script) refl
          end.kernel.trace end answered ending.0 ending.1 ending.2 refl in
          let same = same_script wrote.script wrote.is_read in
          record {
            recorded = subst (λ (x : ScriptModel). IsMeantTrace x end.kernel.trace) same wrote.recorded;
            written =
                subst (λ (x : ScriptModel). Appends old mid (meaning_text options x ++ asked_trace options end.kernel.trace)) same
                wrote.written;
          }

      -- all was written
      whole_text : (mid new : Option (List ℕ)) → AppendsEnding options end replied mid → Appends mid new lines
          → RunsWithReasons options text old new (Ok tt)
      whole_text mid new ending written =
          let meant = meaning mid ending in
          record {
            faults = ap is_ok given;
            writes = record {
              script = script;
              is_read = given;
              reasoned = record {
                trace = end.kernel.trace;
                recorded = meant.recorded;
                written =
                    subst (λ (l : List ℕ). Appends old new (run_text ++ l)) lines_are
                    (Appends-trans old mid new run_text lines meant.written written);
              };
            };
          }

      module _ (f : Fault) (new : Option (List ℕ)) (h : IsOutputFault f) where
        -- a beginning of the lines was written
        begun_lines : (mid : Option (List ℕ)) → AppendsEnding options end replied mid → AppendsFront mid new lines
            → RunsWithReasons options text old new (Err f)
        begun_lines mid ending begun =
            let meant = meaning mid ending in
            begins f old new h (record {
              script = script;
              is_read = given;
              begun = inr (record {
                trace = end.kernel.trace;
                recorded = meant.recorded;
                written =
                    subst (λ (l : List ℕ). AppendsFront old new (run_text ++ l)) (append-nil lines ∙ lines_are)
                    (front_after old mid new run_text lines [] meant.written begun);
              });
            })

        -- a beginning of what follows the replies was written
        begun_ending : BeginsTheEnding options end replied new → RunsWithReasons options text old new (Err f)
        begun_ending begun =
            let says = script_says text script given in
            let wrote = begins_meaning calls_refine script says.0 says.1 start started options old new (Ok script) refl
            (inr (record { end = end; replied = replied; answered = answered; ending = begun.0; ends = begun.1; appended = begun.2 })) in
            begins f old new h (record { script = wrote.script; is_read = given ∙ wrote.is_read; begun = by wrote.script wrote.written })
          where
            by : (x : ScriptModel) → AppendsFront old new (meaning_text options x) ⊎ BeginsTrace options old new x
                → AppendsFront old new (meaning_text options x) ⊎ ReasonsAs (AppendsFront old new) options x
            by x (inl b) = inl b
            by x (inr b) =
                let says = script_says text script given in
                inr (record {
                  trace = b.trace;
                  recorded = b.recorded;
                  written = longer_front calls_refine script says.0 says.1 start started options old new _ (reasons_text x) b.written;
                })

    -- all was written
    whole_run : (old new : Option (List ℕ)) → WritesRun options start old new calls → RunsWithReasons options text old new (Ok tt)
    whole_run old new run = whole_text old run.replied run.end run.text run.logged run.rest.ended new run.rest.ending run.rest.lines

    -- a beginning of the replies, of what follows them or of the lines was written
    begun_run : (f : Fault) (old new : Option (List ℕ)) → IsOutputFault f → BeginsRun options start old new calls
        → RunsWithReasons options text old new (Err f)
    begun_run f old new h (inl b) = begun_replies f old new h b
    begun_run f old new h (inr run) = elim run.rest [
      | inl b ↦ begun_ending old run.replied run.end run.text run.logged f new h b
      | inr b ↦ begun_lines old run.replied run.end run.text run.logged f new h b.ended b.ending b.lines
    ]

    -- the text was run with reasons, whatever the run of its calls returns
    pub run_ends : (old new : Option (List ℕ)) (r : Answer) → OnOk r (WritesRun options start old new calls)
        → OnErr r (BeginsRun options start old new calls) → IfErr r IsOutputFault → RunsWithReasons options text old new r
    run_ends old new (Ok done) whole begun h = whole_run old new whole
    run_ends old new (Err f) whole begun h = begun_run f old new h begun
