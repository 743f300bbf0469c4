-- What a call line says of processes, of passwords, and of what it made or wrote, by the flat states before and after it.
use Rattle.std.specs.Prelude.{Bool, true, false, List, [], ◌∷◌}
use Rattle.histar_flat.specs.declared.calls.Mode.{Mode}
use Rattle.histar_flat.specs.declared.calls.Mode.TheVariants.{Group}
use Rattle.histar_flat.specs.declared.calls.UnixCall.{UnixCall}
use Rattle.histar_flat.specs.declared.calls.UnixCall.TheVariants.{Append, Create, Login, Mkdir, Wrap, Write}
use Rattle.histar_flat.specs.declared.replies.Errno.{Errno}
use Rattle.histar_flat.specs.declared.replies.Errno.TheVariants.{EAUTH}
use Rattle.histar_flat.specs.declared.replies.Reply.{Reply}
use Rattle.histar_flat.specs.declared.replies.Reply.TheVariants.{Child, Done, Refused, Gone}
use Rattle.histar_flat.specs.declared.calls.CallLine.{CallLine}
use Rattle.histar_flat.specs.Accounts.{Accounts}
use Rattle.histar_flat.specs.FlatState.{Flat}
use Rattle.histar_flat.specs.FlatCalls.{flat_after, reply_to}
use Rattle.histar_flat.specs.Meaning.{boot}
use Rattle.histar_flat.specs.Words.{ProcName}
use Rattle.histar_script.specs.Script.{ScriptModel}
use Rattle.histar_cells.specs.Whose.{user_running}
use Rattle.histar_policy.specs.declared.notes.Asked.{Asked}
use Rattle.histar_policy.specs.declared.notes.Asked.TheVariants.{LogsIn, Wraps, Makes, Writes, Other}
use Rattle.histar_policy.specs.declared.notes.Event.{Event}
use Rattle.histar_policy.specs.declared.notes.Event.TheVariants.{Nothing, IsGone, Starts, StartsJob, WrongPassword}
use Rattle.histar_policy.specs.declared.notes.Note.{Note}
use Rattle.histar_policy.specs.Takers.{made_event, wrote_event}

-- the mode is for a group
abbrev pub is_group_mode : Mode → Bool
is_group_mode (Group group) = true
is_group_mode mode = false

-- what matters of a call, whatever its reply
abbrev pub asked_of : UnixCall → Asked
asked_of (Login user password) = LogsIn user
asked_of (Wrap q) = Wraps
asked_of (Create q mode) = Makes q (is_group_mode mode)
asked_of (Mkdir q mode) = Makes q false
asked_of (Write q bytes) = Writes q
asked_of (Append q bytes) = Writes q
asked_of call = Other

-- what a call says that started a child: that a job was started, or another process
abbrev pub child_event : Asked → ProcName → Event
child_event Wraps child = StartsJob child
child_event asked child = Starts child

-- what a refused call says: that a password was wrong, or nothing
abbrev pub refusal_event : Asked → Errno → Event
refusal_event (LogsIn user) EAUTH = WrongPassword user
refusal_event asked e = Nothing

-- what a call that was done says, by the flat state after it: what it made, or which file it wrote
abbrev pub done_event : Accounts → Flat → ProcName → Asked → Event
done_event accounts f me (Makes q shared) = made_event accounts f q shared (user_running f me)
done_event accounts f me (Writes q) = wrote_event q (user_running f me)
done_event accounts f me asked = Nothing

-- what a call and its reply say, by the flat state after it
abbrev pub event_by : Accounts → Flat → ProcName → Asked → Reply → Event
event_by accounts f me asked Gone = IsGone
event_by accounts f me asked (Child child) = child_event asked child
event_by accounts f me asked (Refused e) = refusal_event asked e
event_by accounts f me asked Done = done_event accounts f me asked
event_by accounts f me asked reply = Nothing

-- what a call of a process says, made in this flat state
abbrev pub event_of : Accounts → Flat → ProcName → UnixCall → Event
event_of accounts f me call = event_by accounts (flat_after accounts f me call) me (asked_of call) (reply_to accounts f me call)

-- what a call line says, made in this flat state
abbrev pub note_of : Accounts → Flat → CallLine → Note
note_of accounts f c = record { line = c.line; process = c.process; event = event_of accounts f c.process c.call }

-- what call lines say, made one after another from this flat state
abbrev pub notes_from : Accounts → Flat → List CallLine → List Note
notes_from accounts f [] = []
notes_from accounts f (c ∷ calls) = note_of accounts f c ∷ notes_from accounts (flat_after accounts f c.process c.call) calls

-- what the call lines of a script say
abbrev pub notes_of : ScriptModel → List Note
notes_of script = notes_from script.accounts (boot script.accounts) script.calls
