-- What a refusal of the kernel means for a call: an errno, or the end of the call without a reply.
use Rattle.std.specs.Prelude.{Option, None, Some, Result, Ok, Err}
use Rattle.histar_flat.specs.declared.replies.Errno.{Errno}
use Rattle.histar_flat.specs.declared.replies.Errno.TheVariants.{EACCES, EPERM, ENOENT, EFBIG, ESRCH}
use Rattle.histar_flat.specs.declared.replies.Reply.{Reply}
use Rattle.histar_flat.specs.declared.replies.Reply.TheVariants as replies
use Rattle.histar_rules.specs.declared.raw.Denied.{Denied}
use Rattle.histar_rules.specs.declared.raw.Denied.TheVariants.{Observe, Modify, Range, Gate, NoEntry, NoThread, BadKind, TooBig}
use Rattle.histar_rules.specs.declared.raw.RawCall.{RawCall}
use Rattle.histar_rules.specs.declared.raw.RawCall.TheVariants.{MakeCategory, OwnLabel, SetLabel, SetClearance, MakeSegment, MakeContainer}
use Rattle.histar_rules.specs.declared.raw.RawCall.TheVariants.{MakeThread, MakeGate, Enter, Read, Write, Unlink, LabelOf}
use Rattle.histar_rules.specs.declared.raw.Refusal.{Refusal}
use Rattle.histar_rules.specs.declared.raw.Refusal.TheVariants as refusals
use Rattle.histar_programs.specs.declared.call_error.CallError.{CallError}
use Rattle.histar_programs.specs.declared.call_error.CallError.TheVariants.{Refused, Stopped as HasStopped}
use Rattle.histar_programs.specs.declared.call_error.Stopped.{Stopped}

-- The errno of a denial: EACCES where labels forbid it, EPERM where a label is outside its range, ENOENT where an entry leads to what isn't
-- there, ESRCH where the thread of the call is no more. In a state that represents a flat state neither of the last two comes, but a job may
-- write such entries into its own segments.
abbrev pub errno_of : Denied → Option Errno
errno_of Observe = Some EACCES
errno_of Modify = Some EACCES
errno_of Range = Some EPERM
errno_of Gate = Some EACCES
errno_of NoEntry = Some ENOENT
errno_of NoThread = Some ESRCH
errno_of BadKind = Some ENOENT
errno_of TooBig = None

-- the errno of a denial of a write: EFBIG too, where the bytes are too many for a segment
abbrev pub write_errno_of : Denied → Option Errno
write_errno_of Observe = Some EACCES
write_errno_of Modify = Some EACCES
write_errno_of Range = Some EPERM
write_errno_of Gate = Some EACCES
write_errno_of NoEntry = Some ENOENT
write_errno_of BadKind = Some ENOENT
write_errno_of TooBig = Some EFBIG
write_errno_of NoThread = Some ESRCH

-- the errno of a denial of this raw call
abbrev pub errno_for : RawCall → Denied → Option Errno
errno_for MakeCategory denied = errno_of denied
errno_for OwnLabel denied = errno_of denied
errno_for (SetLabel label) denied = errno_of denied
errno_for (SetClearance clearance) denied = errno_of denied
errno_for (MakeSegment container label bytes) denied = errno_of denied
errno_for (MakeContainer container label) denied = errno_of denied
errno_for (MakeThread container label clearance) denied = errno_of denied
errno_for (MakeGate container label clearance entry) denied = errno_of denied
errno_for (Enter container gate wanted clearance verify) denied = errno_of denied
errno_for (Read container segment) denied = errno_of denied
errno_for (Write container segment keep bytes) denied = write_errno_of denied
errno_for (Unlink container object) denied = errno_of denied
errno_for (LabelOf container object) denied = errno_of denied

-- with an errno the call is refused, and without one it stops
abbrev pub call_error_with : Option Errno → CallError
call_error_with None = HasStopped
call_error_with (Some errno) = Refused errno

-- how a refusal ends a call, where denials have these errnos
abbrev pub call_error_of : (Denied → Option Errno) → Refusal → CallError
call_error_of errno (refusals.Denied denied) = call_error_with (errno denied)
call_error_of errno refusals.OutOfMemory = HasStopped

-- what was answered, or how its refusal ends the call
abbrev pub or_call_error : {A : Type 0} → (Denied → Option Errno) → Result A Refusal → Result A CallError
or_call_error errno (Ok answer) = Ok answer
or_call_error errno (Err refusal) = Err (call_error_of errno refusal)

-- the reply of a call that ended in this way
abbrev pub settled : Result Reply CallError → Result Reply Stopped
settled (Ok reply) = Ok reply
settled (Err (Refused errno)) = Ok (replies.Refused errno)
settled (Err HasStopped) = Err (record {})
