-- One call of one process: its first refusal, or its change and its answer.
use Rattle.std.specs.Prelude.{Option, None, Some}
use Rattle.histar_flat.specs.declared.calls.UnixCall.{UnixCall}
use Rattle.histar_flat.specs.declared.replies.Errno.{Errno}
use Rattle.histar_flat.specs.declared.replies.Reply.{Reply}
use Rattle.histar_flat.specs.declared.replies.Reply.TheVariants.{Refused, Gone}
use Rattle.histar_flat.specs.Words.{ProcName}
use Rattle.histar_flat.specs.Accounts.{Accounts}
use Rattle.histar_flat.specs.Classes.{Process}
use Rattle.histar_flat.specs.FlatState.{Flat}
use Rattle.histar_flat.specs.Needs.{unmet}
use Rattle.histar_flat.specs.Effects.{apply, reply_with}
use Rattle.histar_flat.specs.CallRules.{path_of, rule}
pub use Rattle.histar_flat.specs.Needs.{most_entries, most_bytes, is_below_root, not_found, is_child}
pub use Rattle.histar_flat.specs.Effects.{class_or_open, next_child, inner_chain, life_reply, stat_reply}

-- the first refusal of a call of the process p, whose name is me
abbrev pub refused : Accounts → Flat → ProcName → Process → UnixCall → Option Errno
refused accounts f me p call = unmet accounts f me p (path_of call) (rule call).needs

-- the change of a call that is not refused
abbrev pub changed : Accounts → Flat → ProcName → Process → UnixCall → Flat
changed accounts f me p call = apply accounts f me p (path_of call) (rule call).effect

-- the answer of a call that is not refused
abbrev pub answer : Flat → ProcName → Process → UnixCall → Reply
answer f me p call = reply_with f me p (path_of call) (rule call).answer

-- the refusal, or else the answer
abbrev pub reply_or : Option Errno → Reply → Reply
reply_or None reply = reply
reply_or (Some e) reply = Refused e

-- the state as it was if there is a refusal, or else the new one
abbrev pub flat_or : Option Errno → Flat → Flat → Flat
flat_or None old new = new
flat_or (Some e) old new = old

-- the process, if it has not exited
abbrev pub if_running : Option Process → Option Process
if_running None = None
if_running (Some p) = elim p.exited [ None ↦ Some p | Some n ↦ None ]

-- the process of this name, if it runs
abbrev pub running : Flat → ProcName → Option Process
running f me = if_running (f.processes me)

-- the reply to a process that runs, or else `gone`
abbrev pub reply_by : Accounts → Flat → ProcName → Option Process → UnixCall → Reply
reply_by accounts f me None call = Gone
reply_by accounts f me (Some p) call = reply_or (refused accounts f me p call) (answer f me p call)

-- the state after the call of a process that runs, or else the same state
abbrev pub flat_by : Accounts → Flat → ProcName → Option Process → UnixCall → Flat
flat_by accounts f me None call = f
flat_by accounts f me (Some p) call = flat_or (refused accounts f me p call) f (changed accounts f me p call)

-- the reply to a call of the process of this name
abbrev pub reply_to : Accounts → Flat → ProcName → UnixCall → Reply
reply_to accounts f me call = reply_by accounts f me (running f me) call

-- the flat state after a call of the process of this name
abbrev pub flat_after : Accounts → Flat → ProcName → UnixCall → Flat
flat_after accounts f me call = flat_by accounts f me (running f me) call
