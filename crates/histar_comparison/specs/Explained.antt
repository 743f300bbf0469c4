-- A verdict, and what each of the two runs prints where they differ.
use Rattle.std.specs.Prelude.{◌≡◌, ℕ, Bool, true, false, List, [], ◌∷◌, ◌++◌, codes, decimal, is_some, Option, None, Some, Result, Ok, Err, ◌==◌, ◌&&◌}
use Rattle.std.specs.Prelude.{if◌then◌else◌}
use Rattle.histar_flat.specs.declared.calls.CallLine.{CallLine}
use Rattle.histar_flat.specs.Words.{Path, ProcName}
use Rattle.histar_base.specs.Paths.{same_path}
use Rattle.histar_flat.specs.Accounts.{Accounts}
use Rattle.histar_flat.specs.Texts.{reply_text}
use Rattle.histar_flat.specs.Meaning.{RepliedCall, boot, flat_end, meaning, without}
use Rattle.histar_noninterference.specs.declared.replies.ShownReply.{ShownReply}
use Rattle.histar_noninterference.specs.declared.verdict.Verdict.{Verdict}
use Rattle.histar_noninterference.specs.declared.verdict.Verdict.TheVariants.{Same, NoJob, Line, Tree}
use Rattle.histar_noninterference.specs.Comparison.{outsiders, verdict}
use Rattle.histar_noninterference.specs.Isolation.{first_release}
use Rattle.histar_noninterference.specs.Replies.{first_shown}
use Rattle.histar_noninterference.specs.Trees.{PathText, tree_lines}
use Rattle.histar_noninterference.specs.VerdictText.{verdict_text}
use Rattle.histar_script.specs.declared.fault.Fault.{Fault}
use Rattle.histar_script.specs.Script.{ScriptModel}
use Rattle.histar_script.specs.Reading.{script_of}
use Rattle.histar_comparison.specs.declared.explained.Explained.{Explained}
use Rattle.histar_comparison.specs.Observation.{ObservationModel, observation}
use Rattle.histar_comparison.specs.Compared.{difference}

-- the text of the reply to line n
abbrev pub reply_on : ℕ → List RepliedCall → List ℕ
reply_on n [] = []
reply_on n (a ∷ answers) = if a.call.line == n then reply_text a.reply else reply_on n answers

-- what is printed of a path, among the lines of a tree; nothing where the path is not there
abbrev pub line_at_path : Path → List PathText → List ℕ
line_at_path q [] = []
line_at_path q (line ∷ lines) = if same_path line.0 q then line.1 else line_at_path q lines

-- what a run of these calls prints for a verdict: the reply to an outsider, or a line of the tree at the end
abbrev pub printed_of : ProcName → Accounts → List CallLine → Verdict → List ℕ
printed_of job accounts calls Same = []
printed_of job accounts calls NoJob = []
printed_of job accounts calls (Line n) = reply_on n (outsiders job (meaning accounts calls))
printed_of job accounts calls (Tree q) = line_at_path q (tree_lines (flat_end accounts (boot accounts) calls))

-- the verdict of a script, with what each run prints for it, and the line that released what the job made
abbrev pub explained : ProcName → ScriptModel → Explained
explained job script = let found = verdict script.accounts script.calls job in record {
  verdict = found;
  with_job = printed_of job script.accounts script.calls found;
  without_job = printed_of job script.accounts (without job script.calls) found;
  released = first_release script.accounts script.calls job;
}

-- the same for the script of a text, or the fault in it
abbrev pub explanation_of : ProcName → Result ScriptModel Fault → Result Explained Fault
explanation_of job (Ok script) = Ok (explained job script)
explanation_of job (Err fault) = Err fault

-- the verdict of a text, with what is printed where the runs differ
abbrev pub explanation : ProcName → List ℕ → Result Explained Fault
explanation job text = explanation_of job (script_of text)

-- the text is a script, and this was seen of its run
pub record ObservesText (job : ProcName) (text : List ℕ) (seen : ObservationModel) : Type 0 where
  pub script : ScriptModel
  pub is_read : script_of text ≡ Ok script
  pub is : seen ≡ observation job script

-- the text of the reply to line n, among the replies that were kept
abbrev pub kept_on : ℕ → List ShownReply → List ℕ
kept_on n [] = []
kept_on n (reply ∷ replies) = if reply.line == n then reply.text else kept_on n replies

-- what one run printed for a verdict
abbrev pub seen_of : ObservationModel → Verdict → List ℕ
seen_of seen Same = []
seen_of seen NoJob = []
seen_of seen (Line n) = kept_on n seen.replies.shown
seen_of seen (Tree q) = line_at_path q seen.tree

-- the verdict on two observed runs, with what each printed where they differ, and the line that released it
abbrev pub explained_difference : ObservationModel → ObservationModel → Explained
explained_difference first second = let found = difference first second in record {
  verdict = found;
  with_job = seen_of first found;
  without_job = seen_of second found;
  released = first_shown first.replies.revealing second.replies.revealing;
}

-- the runs differ for outsiders
abbrev pub has_difference : Verdict → Bool
has_difference (Line n) = true
has_difference (Tree q) = true
has_difference verdict = false

-- if the runs differ for outsiders, a line released what the job made
abbrev pub IsReleased : Explained → Type 0
IsReleased e = has_difference e.verdict ≡ true → is_some e.released ≡ true

-- what one run prints, or the word `nothing`
abbrev pub side_text : List ℕ → List ℕ
side_text [] = codes "nothing"
side_text (b ∷ bs) = b ∷ bs

-- both sides of a difference: the run with the job, a bar, and the run without it
abbrev pub sides_text : Verdict → List ℕ → List ℕ → List ℕ
sides_text Same with_job without_job = []
sides_text NoJob with_job without_job = []
sides_text (Line n) with_job without_job = codes ": " ++ side_text with_job ++ codes " | " ++ side_text without_job
sides_text (Tree q) with_job without_job = codes ": " ++ side_text with_job ++ codes " | " ++ side_text without_job

-- what is printed after a verdict: both sides of a difference, if that is asked for
abbrev pub asked_sides : Bool → Explained → List ℕ
asked_sides true e = sides_text e.verdict e.with_job e.without_job
asked_sides false e = []

-- the line of a verdict, behind these words
abbrev pub verdict_line : List ℕ → Bool → Explained → List ℕ
verdict_line front why e = front ++ verdict_text e.verdict ++ asked_sides why e ++ codes "\n"

-- the line that names the line which released what the job made, behind these words; nothing if none did
abbrev pub release_line : List ℕ → Option ℕ → List ℕ
release_line front None = []
release_line front (Some n) = front ++ codes "released by line " ++ decimal n ++ codes "\n"

-- this line of a difference, if that is asked for
abbrev pub asked_release : List ℕ → Bool → Explained → List ℕ
asked_release front why e = if why && has_difference e.verdict then release_line front e.released else []

-- the lines of a verdict, each behind these words
abbrev pub found_behind : List ℕ → Bool → Explained → List ℕ
found_behind front why e = asked_release front why e ++ verdict_line front why e

-- the lines of a verdict
abbrev pub found_text : Bool → Explained → List ℕ
found_text = found_behind []
