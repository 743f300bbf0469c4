-- The sentence of a reason, and the line that `--why` prints for a refused call.
use Rattle.std.specs.Prelude.{ℕ, ◌==◌, List, [], ◌∷◌, ◌++◌, codes, Option, None, Some, option_map, if◌then◌else◌}
use Rattle.std.specs.Fmt.{decimal}
use Rattle.histar_flat.specs.declared.calls.CallLine.{CallLine}
use Rattle.histar_flat.specs.declared.calls.UnixCall.{UnixCall}
use Rattle.histar_flat.specs.declared.replies.Reply.{Reply}
use Rattle.histar_flat.specs.Words.{ProcName}
use Rattle.histar_flat.specs.Accounts.{Accounts}
use Rattle.histar_flat.specs.Classes.{Process}
use Rattle.histar_flat.specs.FlatState.{Flat}
use Rattle.histar_flat.specs.FlatCalls.{running, reply_to, flat_after}
use Rattle.histar_flat.specs.Texts.{path_text, process_text, reply_text}
use Rattle.histar_reasons.specs.Causes.{Cause, innermost}
use Rattle.histar_reasons.specs.Causes.Cause.{IsPrivate, IsReadable, IsScratch, IsGrouped, NeedsJob, LeavesJob}
use Rattle.histar_reasons.specs.Reasons.{Reason, Absence, why, absence}
use Rattle.histar_reasons.specs.Reasons.Reason.{MayNotRead, MayNotWrite, IsMissing, HasFile, HasDirectory, IsTaken, RootStays, IsFull, IsNotEmpty}
use Rattle.histar_reasons.specs.Reasons.Reason.{IsTooLong, MakesOnlyOpen, IsNoMember, HadChildren, HasNumbers, NoProcess, IsUnseen, IsNoChild, NoUser}
use Rattle.histar_reasons.specs.Reasons.Reason.{WrongPassword, IsInJob, StartsNoJob}
use Rattle.histar_reasons.specs.Reasons.Absence.{HasExited, WasNeverStarted, WasKilled}

-- the text of the innermost job
abbrev pub job_text : Option ProcName → List ℕ
job_text None = []
job_text (Some job) = codes ", in job " ++ process_text job

-- a process, with its user and its innermost job
abbrev pub who_text : ProcName → Process → List ℕ
who_text me p = process_text me ++ codes " (" ++ p.user ++ job_text (innermost p) ++ codes ")"

-- what a count counts
abbrev pub counted : ℕ → List ℕ → List ℕ → List ℕ
counted n one many = decimal n ++ codes " " ++ (if n == 1 then one else many)

-- that the process doesn't know a job
abbrev pub unknown_text : ProcName → ProcName → List ℕ
unknown_text me job = process_text me ++ codes " neither is in job " ++ process_text job ++ codes " nor holds it"

-- the text of a cause
abbrev pub cause_text : ProcName → Process → Cause → List ℕ
cause_text me p (IsPrivate owner) = codes "it is private, of " ++ owner
cause_text me p (IsReadable owner) = codes "it is readable, and " ++ owner ++ codes " alone writes it"
cause_text me p (IsScratch owner) = codes "it is scratch, of " ++ owner
cause_text me p (IsGrouped group) = codes "it is of group " ++ group ++ codes ", which user " ++ p.user ++ codes " is not in"
cause_text me p (NeedsJob job) = unknown_text me job
cause_text me p (LeavesJob job) = codes "it is not of job " ++ process_text job ++ codes ", which " ++ process_text me ++ codes " is in"

-- the sentence of a reason
abbrev pub why_text : ProcName → Process → Reason → List ℕ
why_text me p (MayNotRead q cause) = who_text me p ++ codes " may not read " ++ path_text q ++ codes ": " ++ cause_text me p cause
why_text me p (MayNotWrite q cause) = who_text me p ++ codes " may not write " ++ path_text q ++ codes ": " ++ cause_text me p cause
why_text me p (IsMissing q) = codes "there is no " ++ path_text q
why_text me p (HasFile q) = path_text q ++ codes " is a file"
why_text me p (HasDirectory q) = path_text q ++ codes " is a directory"
why_text me p (IsTaken q) = path_text q ++ codes " is there already"
why_text me p RootStays = codes "/ can be neither removed nor renamed"
why_text me p (IsFull q n) = path_text q ++ codes " has " ++ counted n (codes "entry") (codes "entries") ++ codes ", and 64 is the most"
why_text me p (IsNotEmpty q n) = path_text q ++ codes " has " ++ counted n (codes "entry") (codes "entries")
why_text me p (IsTooLong q n) = path_text q ++ codes " would have " ++ decimal n ++ codes " bytes, and 4096 is the most"
why_text me p MakesOnlyOpen = codes "user " ++ p.user ++ codes " makes only what is open"
why_text me p (IsNoMember group) = codes "user " ++ p.user ++ codes " is not in group " ++ group
why_text me p (HadChildren n) = process_text me ++ codes " has had " ++ decimal n ++ codes " children, and 64 is the most"
why_text me p (HasNumbers n) = codes "the name " ++ process_text me ++ codes " has " ++ decimal n ++ codes " numbers, and 8 is the most"
why_text me p (NoProcess name) = codes "there is no process " ++ process_text name
why_text me p (IsUnseen name job) = who_text me p ++ codes " does not see " ++ process_text name ++ codes ": " ++ unknown_text me job
why_text me p (IsNoChild name) = process_text name ++ codes " is no child of " ++ process_text me
why_text me p (NoUser name) = codes "there is no user " ++ name
why_text me p (WrongPassword name) = codes "that is not the password of " ++ name
why_text me p (IsInJob job) = process_text me ++ codes " is in job " ++ process_text job ++ codes ", and no process in a job logs in"
why_text me p StartsNoJob = codes "user " ++ p.user ++ codes " starts no job"

-- the sentence of an absence
abbrev pub absence_text : ProcName → Absence → List ℕ
absence_text me HasExited = process_text me ++ codes " has exited"
absence_text me WasNeverStarted = process_text me ++ codes " was never started"
absence_text me (WasKilled name) = process_text name ++ codes " was killed"

-- the sentence of a call of a process that runs, or of one that is gone
abbrev pub sentence_by : Accounts → Flat → ProcName → Option Process → UnixCall → Option (List ℕ)
sentence_by accounts f me None call = Some (absence_text me (absence f me))
sentence_by accounts f me (Some p) call = option_map (why_text me p) (why accounts f me p call)

-- why the reply to a call of the process of this name is a refusal, if it is one
abbrev pub sentence : Accounts → Flat → ProcName → UnixCall → Option (List ℕ)
sentence accounts f me call = sentence_by accounts f me (running f me) call

-- the line of `--why` for a call line and its reply
abbrev pub line_text : ℕ → Reply → Option (List ℕ) → List ℕ
line_text number reply None = []
line_text number reply (Some words) = codes "!" ++ decimal number ++ codes " " ++ reply_text reply ++ codes ": " ++ words ++ codes "\n"

-- the lines of `--why` for calls that are made one after another from this state
abbrev pub why_lines : Accounts → Flat → List CallLine → List ℕ
why_lines accounts f [] = []
why_lines accounts f (c ∷ calls) =
    line_text c.line (reply_to accounts f c.process c.call) (sentence accounts f c.process c.call)
    ++ why_lines accounts (flat_after accounts f c.process c.call) calls
