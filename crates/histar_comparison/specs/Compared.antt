-- The verdict of a comparison of two runs.
use Rattle.std.specs.Prelude.{◌≡◌, ℕ, true, List, None, Result, Ok, Err}
use Rattle.histar_flat.specs.Words.{ProcName}
use Rattle.histar_flat.specs.Meaning.{meaning}
use Rattle.histar_script.specs.declared.fault.Fault.{Fault}
use Rattle.histar_script.specs.Script.{ScriptModel}
use Rattle.histar_script.specs.Reading.{script_of}
use Rattle.histar_noninterference.specs.declared.verdict.Verdict.{Verdict}
use Rattle.histar_noninterference.specs.Comparison.{line_verdict, starts, tree_verdict, verdict}
use Rattle.histar_noninterference.specs.Isolation.{first_release}
use Rattle.histar_noninterference.specs.Trees.{first_difference, is_below_either}
use Rattle.histar_noninterference.specs.Replies.{first_shown}
use Rattle.histar_comparison.specs.Observation.{ObservationModel}

-- the verdict on two observed runs
abbrev pub difference : ObservationModel → ObservationModel → Verdict
difference first second = line_verdict (first_shown first.replies.shown second.replies.shown)
    (tree_verdict (first_difference (is_below_either first.replies.directory second.replies.directory) first.tree second.tree))

-- the verdict of a script that was read, or the fault in it
abbrev pub verdict_of : ProcName → Result ScriptModel Fault → Result Verdict Fault
verdict_of job (Ok script) = Ok (verdict script.accounts script.calls job)
verdict_of job (Err fault) = Err fault

-- the verdict of a comparison of the script of a text with the script without the lines of the job
abbrev pub comparison : ProcName → List ℕ → Result Verdict Fault
comparison job text = verdict_of job (script_of text)

-- the text is a script in which a `wrap` starts the job, and each later `rmdir` and `wrap` of the caller of that `wrap` is answered alike
-- without the lines of the job
pub record IsQuietScript (job : ProcName) (text : List ℕ) : Type 0 where
  pub script : ScriptModel
  pub is_read : script_of text ≡ Ok script
  pub starts : starts job (meaning script.accounts script.calls) ≡ true
  pub quiet : first_release script.accounts script.calls job ≡ None
