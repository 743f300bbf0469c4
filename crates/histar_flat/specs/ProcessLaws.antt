-- What calls mean for processes: kills, exits, and processes that are gone.
use Rattle.std.specs.Prelude.{◌≡◌, ◌≢◌, ℕ, true, false, List, None, Some}
use Rattle.histar_flat.specs.declared.calls.CallLine.{CallLine}
use Rattle.histar_flat.specs.declared.calls.UnixCall.{UnixCall}
use Rattle.histar_flat.specs.declared.calls.UnixCall.TheVariants.{Exit, Kill}
use Rattle.histar_flat.specs.declared.replies.Reply.TheVariants.{Done, Gone}
use Rattle.histar_flat.specs.Words.{ProcName}
use Rattle.histar_flat.specs.PathOrder.{under_process}
use Rattle.histar_flat.specs.Accounts.{Accounts}
use Rattle.histar_flat.specs.Classes.{Process}
use Rattle.histar_flat.specs.FlatState.{Flat, is_given}
use Rattle.histar_flat.specs.FlatCalls.{is_child, running, reply_to, flat_after}
use Rattle.histar_flat.specs.Meaning.{flat_end}

-- the process of this name and all below it are gone, and every other process and every file is as it was
pub record TakesItsTree (f : Flat) (name : ProcName) (after : Flat) : Type 0 where
  pub taken : (other : ProcName) → under_process name other ≡ true → after.processes other ≡ None
  pub kept : (other : ProcName) → under_process name other ≡ false → after.processes other ≡ f.processes other
  pub files : after.files ≡ f.files

-- a kill that is done is of a child of the caller, and takes exactly the child and all below it
abbrev pub KillsTakeTheirTree : Type 0
KillsTakeTheirTree = (accounts : Accounts) (f : Flat) (me name : ProcName) → reply_to accounts f me (Kill name) ≡ Done
    → (is_child me name ≡ true) × TakesItsTree f name (flat_after accounts f me (Kill name))

-- the process has exited with this status, and every other process, its children among them, and every file is as it was
pub record ExitsAlone (f : Flat) (me : ProcName) (status : ℕ) (after : Flat) : Type 0 where
  pub exited : (p : Process) → f.processes me ≡ Some p → after.processes me ≡ Some (record p { exited = Some status })
  pub others : (other : ProcName) → other ≢ me → after.processes other ≡ f.processes other
  pub files : after.files ≡ f.files

-- an exit that is done ends its process alone
abbrev pub ExitsLeaveChildren : Type 0
ExitsLeaveChildren = (accounts : Accounts) (f : Flat) (me : ProcName) (status : ℕ) → reply_to accounts f me (Exit status) ≡ Done → ExitsAlone f me status (flat_after accounts f me (Exit status))

-- a process that doesn't run is answered `gone`, and changes nothing
abbrev pub GoneChangeNothing : Type 0
GoneChangeNothing = (accounts : Accounts) (f : Flat) (me : ProcName) (call : UnixCall) → running f me ≡ None → (reply_to accounts f me call ≡ Gone) × (flat_after accounts f me call ≡ f)

-- a process that doesn't run, and whose name was given, never runs again, whatever is called: no name is used twice
abbrev pub GoneStayGone : Type 0
GoneStayGone = (accounts : Accounts) (f : Flat) (me : ProcName) (calls : List CallLine) → is_given f.processes me ≡ true → running f me ≡ None → running (flat_end accounts f calls) me ≡ None
