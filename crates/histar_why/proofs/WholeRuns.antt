-- The calls of a script and what is written after the replies, put together from their parts.
use Rattle.std.proofs.Common.{◌≡◌, ℕ, List, Option, Result, Ok, Err, inr, sym, ap, subst}
use Rattle.std.specs.Prelude.{IfErr, IfOk, OnErr, OnOk}
use Rattle.std.specs.Global.{Vec}
use Rattle.std.specs.Io.KnownBytes.{Appends}
use Rattle.histar_io.specs.Writing.{AppendsFront}
use Rattle.histar_io.specs.Device.{CountsFailure}
use Rattle.histar_flat.specs.declared.calls.CallLine.{CallLine}
use Rattle.histar_script.specs.declared.fault.Fault.{Fault}
use Rattle.histar_script.specs.declared.fault.Fault.TheVariants.{WriteFailed}
use Rattle.histar_script.specs.Runs.{IsOutputFault, is_write_failed}
use Rattle.histar_names.specs.Births.{Births}
use Rattle.histar_shell.specs.Ending.{AppendsEnding}
use Rattle.histar_shell.specs.Machine.{MachineModel}
use Rattle.histar_shell.specs.declared.session.Options.{Options}
use Rattle.histar_why.specs.Session.{AppendsRest, BeginsRest, BeginsRun, HasLogged, IsWithText, LogsCalls, WritesRun}

-- what an outcome says is said of the text that is returned with it
module _ (outcome : Result (Unit {0}) Fault) (text : Vec ℕ) (made : Result (Vec ℕ) Fault) (with : IsWithText outcome text made) where
  pub text_after : (Is : List ℕ → Type 0) → OnOk outcome (Is text.items) → IfOk made (λ t. Is t.items)
  text_after Is h = by outcome with h
    where
      by : (o : Result (Unit {0}) Fault) → IsWithText o text made → OnOk o (Is text.items) → IfOk made (λ t. Is t.items)
      by (Ok done) e k = subst (λ (r : Result (Vec ℕ) Fault). IfOk r (λ t. Is t.items)) (sym e) k
      by (Err f) e k = subst (λ (r : Result (Vec ℕ) Fault). IfOk r (λ t. Is t.items)) (sym e) tt

  pub fault_after : (P : Type 0) → OnErr outcome P → OnErr made P
  fault_after P h = by outcome with h
    where
      by : (o : Result (Unit {0}) Fault) → IsWithText o text made → OnErr o P → OnErr made P
      by (Ok done) e k = subst (λ (r : Result (Vec ℕ) Fault). OnErr r P) (sym e) tt
      by (Err f) e k = subst (λ (r : Result (Vec ℕ) Fault). OnErr r P) (sym e) k

  pub output_fault : IfErr outcome IsOutputFault → IfErr made IsOutputFault
  output_fault h = by outcome with h
    where
      by : (o : Result (Unit {0}) Fault) → IsWithText o text made → IfErr o IsOutputFault → IfErr made IsOutputFault
      by (Ok done) e k = subst (λ (r : Result (Vec ℕ) Fault). IfErr r IsOutputFault) (sym e) tt
      by (Err f) e k = subst (λ (r : Result (Vec ℕ) Fault). IfErr r IsOutputFault) (sym e) k

  pub counted_after : (old new : ℕ) → CountsFailure old new (is_write_failed outcome) → CountsFailure old new (is_write_failed made)
  counted_after old new h = subst (CountsFailure old new) (by outcome with) h
    where
      by : (o : Result (Unit {0}) Fault) → IsWithText o text made → is_write_failed o ≡ is_write_failed made
      by (Ok done) e = sym (ap is_write_failed e)
      by (Err WriteFailed) e = sym (ap is_write_failed e)
      by (Err fault) e = sym (ap is_write_failed e)

-- the same, whatever the births are
pub has_logged : {X E : Type 0} (r : Result X E) (m end : MachineModel) (a b : Option (List ℕ)) (calls : List CallLine)
    (births : Births) (text : List ℕ) → OnOk r (LogsCalls m end a b calls births text) → OnOk r (HasLogged m end a b calls text)
has_logged (Ok x) m end a b calls births text h = (births, h)
has_logged (Err e) m end a b calls births text h = tt

-- what follows the replies was written, and then what writing the lines says
module _ (options : Options) (m : MachineModel) (old ended new : Option (List ℕ)) (text : List ℕ) (ending : AppendsEnding options m old ended) where
  pub rest_written : {X E : Type 0} (r : Result X E) → OnOk r (Appends ended new text) → OnOk r (AppendsRest options m old new text)
  rest_written (Ok x) written = record { ended = ended; ending = ending; lines = written }
  rest_written (Err e) written = tt

  pub rest_begun : {X E : Type 0} (r : Result X E) → OnErr r (AppendsFront ended new text) → OnErr r (BeginsRest options m old new text)
  rest_begun (Ok x) begun = tt
  rest_begun (Err e) begun = inr (record { ended = ended; ending = ending; lines = begun })

-- all calls were answered and logged, and then the rest was written as far as its result says
module _ (options : Options) (start end : MachineModel) (old replied : Option (List ℕ)) (calls : List CallLine)
    (text : List ℕ) (logged : HasLogged start end old replied calls text) where
  module _ (new : Option (List ℕ)) (bytes : List ℕ) (same : bytes ≡ text) where
    pub run_written : {X E : Type 0} (r : Result X E) → OnOk r (AppendsRest options end replied new bytes)
        → OnOk r (WritesRun options start old new calls)
    run_written (Ok x) rest = record {
      end = end;
      replied = replied;
      text = text;
      logged = logged;
      rest = subst (AppendsRest options end replied new) same rest;
    }
    run_written (Err e) rest = tt

    pub run_begun : {X E : Type 0} (r : Result X E) → OnErr r (BeginsRest options end replied new bytes)
        → OnErr r (BeginsRun options start old new calls)
    run_begun (Ok x) rest = tt
    run_begun (Err e) rest = inr (record {
      end = end;
      replied = replied;
      text = text;
      logged = logged;
      rest = subst (BeginsRest options end replied new) same rest;
    })
