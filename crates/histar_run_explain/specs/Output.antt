-- The output of a run that is held in memory, and what of a script is given as a text.
use Rattle.std.specs.Prelude.{◌≡◌, ℕ, List, [], Some, Result, Ok, Err}
use Rattle.std.specs.Global.{Vec}
use Rattle.histar_script.specs.declared.fault.Fault.{Fault}
use Rattle.histar_script.specs.declared.fault.Fault.TheVariants.{BadScript, TooLong, OutOfMemory, ReadFailed, WriteFailed}
use Rattle.histar_script.specs.Reading.{script_of}
use Rattle.histar_shell.specs.declared.session.Options.{Options}
use Rattle.histar_run_explain.specs.Run.{ExplainsText}

-- this is the output of a run of the script that a text is, with its explanations
abbrev pub IsExplainedOutput : Options → List ℕ → List ℕ → Type 0
IsExplainedOutput options text output = ExplainsText options text (Some []) (Some output) (Ok tt)

-- the fault of a run whose devices are memory: a device fails only where memory runs out
abbrev pub in_memory : Fault → Fault
in_memory ReadFailed = OutOfMemory
in_memory WriteFailed = OutOfMemory
in_memory fault = fault

-- the answer is a text that is this of the script that a text is, or the fault of the script, or that memory ran out
abbrev pub GivesText : (List ℕ → List ℕ → Type 0) → List ℕ → Result (Vec ℕ) Fault → Type 0
GivesText Is text (Ok found) = Is text found.items
GivesText Is text (Err (BadScript n)) = script_of text ≡ Err (BadScript n)
GivesText Is text (Err TooLong) = script_of text ≡ Err TooLong
GivesText Is text (Err OutOfMemory) = Unit {0}
GivesText Is text (Err ReadFailed) = ⊥
GivesText Is text (Err WriteFailed) = ⊥
