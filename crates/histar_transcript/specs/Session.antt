-- A run that is printed with its calls or with notes, from bytes to bytes.
use Rattle.std.specs.Prelude.{◌≡◌, ℕ, Bool, true, false, ◌||◌, List, [], ◌++◌, Option, Some, Result, Ok, Err, IsOk}
use Rattle.std.specs.List.{filter}
use Rattle.std.specs.Io.KnownBytes.{Appends, Keeps}
use Rattle.histar_io.specs.Writing.{AppendsFront}
use Rattle.histar_script.specs.declared.fault.Fault.{Fault}
use Rattle.histar_script.specs.declared.fault.Fault.TheVariants.{BadScript, TooLong, OutOfMemory, ReadFailed, WriteFailed}
use Rattle.histar_script.specs.Lines.{lines_of}
use Rattle.histar_script.specs.Reading.{script_of}
use Rattle.histar_trace.specs.declared.entries.TraceEntry.{TraceEntry}
use Rattle.histar_shell.specs.declared.session.Options.{Options}
use Rattle.histar_shell.specs.Run.{RunsText}
use Rattle.histar_run_explain.specs.Output.{IsExplainedOutput}
use Rattle.histar_why.specs.Run.{RunsWithReasons}
use Rattle.histar_transcript.specs.declared.session.Notes.{Notes}
use Rattle.histar_transcript.specs.Extended.{ended_lines}
use Rattle.histar_transcript.specs.Noted.{is_denial, noted_transcript}
use Rattle.histar_transcript.specs.Transcript.{transcript_of}

-- ---- the output of a run

-- this is the output of a run of the script in a text
abbrev pub IsPlainOutput : Options → List ℕ → List ℕ → Type 0
IsPlainOutput options text output = (trace : List TraceEntry) × RunsText options text (Some []) (Some output) (Ok trace)

-- this is the output of a run of the script in a text, with the lines of its refused calls
abbrev pub IsReasonedOutput : Options → List ℕ → List ℕ → Type 0
IsReasonedOutput options text output = RunsWithReasons options text (Some []) (Some output) (Ok tt)

-- this is the output of a run of the script in a text with the lines of its refused calls, and then the lines of its
-- denied raw calls, as they are in an output with explanations
pub record IsFullOutput (options : Options) (text output : List ℕ) : Type 0 where
  pub reasoned : List ℕ
  pub explained : List ℕ
  pub is_reasoned : IsReasonedOutput options text reasoned
  pub is_explained : IsExplainedOutput options text explained
  pub joined : output ≡ reasoned ++ ended_lines (filter is_denial (lines_of explained))

-- the same, with reasons or without, and with explanations or without
abbrev pub IsOutputBy : Options → Bool → Bool → List ℕ → List ℕ → Type 0
IsOutputBy options false false text output = IsPlainOutput options text output
IsOutputBy options true false text output = IsReasonedOutput options text output
IsOutputBy options false true text output = IsExplainedOutput options text output
IsOutputBy options true true text output = IsFullOutput options text output

-- this is the output of a run of the script in a text, with these notes
abbrev pub IsNotedOutput : Options → Notes → List ℕ → List ℕ → Type 0
IsNotedOutput options notes text output = IsOutputBy options notes.why notes.explain text output

-- ---- what is printed of it

-- the output of a run of the script in a text as it is, or each reply after its call, and any notes behind the reply
abbrev pub printed_by : Bool → Bool → List ℕ → List ℕ → List ℕ
printed_by false noted text output = output
printed_by true false text output = transcript_of text output
printed_by true true text output = noted_transcript text output

-- what is printed of the output of a run of the script in a text, with these notes
abbrev pub printed_text : Notes → List ℕ → List ℕ → List ℕ
printed_text notes text output = printed_by notes.calls (notes.why || notes.explain) text output

-- the text is a script, which is run, and what is printed of its output was written as far as the predicate says
pub record Prints (Writes : List ℕ → Type 0) (options : Options) (notes : Notes) (text : List ℕ) : Type 0 where
  pub is_script : IsOk (script_of text)
  pub output : List ℕ
  pub is_output : IsNotedOutput options notes text output
  pub written : Writes (printed_text notes text output)

-- What is printed of the run was written; or the fault of the script is returned, and nothing was written. At a failed
-- write a beginning was written, and if memory runs out nothing.
abbrev pub WritesNoted : Options → Notes → List ℕ → Option (List ℕ) → Option (List ℕ) → Result (Unit {0}) Fault → Type 0
WritesNoted options notes text old new (Ok u) = Prints (Appends old new) options notes text
WritesNoted options notes text old new (Err WriteFailed) = Prints (AppendsFront old new) options notes text
WritesNoted options notes text old new (Err OutOfMemory) = Keeps old new
WritesNoted options notes text old new (Err (BadScript n)) = (script_of text ≡ Err (BadScript n)) × Keeps old new
WritesNoted options notes text old new (Err TooLong) = (script_of text ≡ Err TooLong) × Keeps old new
WritesNoted options notes text old new (Err ReadFailed) = Keeps old new
