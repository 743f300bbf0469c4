-- A refusal of a line by the kernel's labels, and the one entry that the kernel denied: the law on both.
use Rattle.std.specs.Prelude.{◌≡◌, ◌⊎◌, List, ◌∷◌, ◌++◌, None, Some}
use Rattle.std.specs.List.{AllByRecursion}
use Rattle.histar_flat.specs.declared.calls.CallLine.{CallLine}
use Rattle.histar_flat.specs.declared.replies.Errno.{Errno}
use Rattle.histar_flat.specs.declared.replies.Errno.TheVariants.{EACCES, EPERM}
use Rattle.histar_flat.specs.declared.replies.Reply.TheVariants.{Refused}
use Rattle.histar_flat.specs.Accounts.{Accounts}
use Rattle.histar_flat.specs.Classes.{Process}
use Rattle.histar_flat.specs.FlatState.{Flat}
use Rattle.histar_flat.specs.FlatCalls.{running, reply_to}
use Rattle.histar_reasons.specs.Reasons.{Reason, errno_of, why}
use Rattle.histar_object.specs.State.{State}
use Rattle.histar_rules.specs.declared.raw.Denied.{Denied}
use Rattle.histar_trace.specs.declared.entries.TraceEntry.{TraceEntry}
use Rattle.histar_sim.specs.Simulation.{SimulatesLine, errno_by_rule}
use Rattle.histar_sim.specs.Named.{IsAbout}

-- The kernel denied one entry, with this errno, and granted all before it and after it. The call has a reason whose refusal is the same
-- errno, and the denied raw call is on what the reason's sentence names.
pub record HasNamedDenial (accounts : Accounts) (s : State) (f : Flat) (asked : CallLine) (p : Process) (errno : Errno)
    (entries : List TraceEntry) : Type 0 where
  pub before : List TraceEntry
  pub denial : TraceEntry
  pub after : List TraceEntry
  pub parts : entries ≡ before ++ denial ∷ after
  pub granted : AllByRecursion (λ e. e.denied ≡ None) (before ++ after)
  pub denied : Denied
  pub is_denied : denial.denied ≡ Some denied
  pub revealed : errno_by_rule denied ≡ Some errno
  pub reason : Reason
  pub explains : why accounts f asked.process p asked.call ≡ Some reason
  pub refusal : errno_of reason ≡ errno
  pub is_named : IsAbout accounts s asked.call reason denial.call

-- Where the reply to a line is EACCES or EPERM, the kernel's reason is the rule's: the kernel denied one raw call, and it is on what the
-- sentence of the refusal's reason names.
abbrev pub EachDenialIsNamed : Type 0
EachDenialIsNamed =
    (accounts : Accounts) (s end : State) (f : Flat) (asked : CallLine) (entries : List TraceEntry) (p : Process) (errno : Errno)
    → SimulatesLine accounts s f asked entries end → running f asked.process ≡ Some p
    → reply_to accounts f asked.process asked.call ≡ Refused errno → (errno ≡ EACCES) ⊎ (errno ≡ EPERM)
    → HasNamedDenial accounts s f asked p errno entries
