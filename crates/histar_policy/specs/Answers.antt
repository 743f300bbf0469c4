-- Machines that answer calls, with what these say.
use Rattle.std.specs.Prelude.{◌≡◌, Bool, not, ◌&&◌, List, [], ◌++◌, filter, map, if◌then◌else◌}
use Rattle.std.specs.List.{list_all}
use Rattle.histar_base.specs.Paths.{same}
use Rattle.histar_flat.specs.declared.calls.CallLine.{CallLine}
use Rattle.histar_flat.specs.declared.replies.Reply.{Reply}
use Rattle.histar_flat.specs.Words.{Name, Path, ProcName}
use Rattle.histar_flat.specs.Accounts.{Accounts}
use Rattle.histar_flat.specs.FlatState.{Flat}
use Rattle.histar_flat.specs.Meaning.{flat_end}
use Rattle.histar_rights.specs.declared.users.UserRights.{UserRights}
use Rattle.histar_shell.specs.Machine.{MachineModel}
use Rattle.histar_shell.specs.Meaning.{Shows}
use Rattle.histar_cells.specs.ByUser.{user_rights_at}
use Rattle.histar_cells.specs.Whose.{user_running}
use Rattle.histar_policy.specs.declared.notes.Asked.{Asked}
use Rattle.histar_policy.specs.declared.notes.Event.{Event}
use Rattle.histar_policy.specs.declared.notes.Note.{Note}
use Rattle.histar_policy.specs.Notes.{event_by, notes_from}
use Rattle.histar_policy.specs.Takers.{made_event, wrote_event}

-- For every flat state that the machine represented, it represents the one after these calls, and what these calls say was added.
abbrev pub AddsNotes : MachineModel → MachineModel → List Note → List Note → List CallLine → Type 0
AddsNotes old new before after calls = (accounts : Accounts) (f : Flat) → Shows accounts old f
    → Shows accounts new (flat_end accounts f calls) × (after ≡ before ++ notes_from accounts f calls)

-- for every flat state that the machine represents, this is what a call of a process and its reply say
abbrev pub IsEvent : MachineModel → ProcName → Asked → Reply → Event → Type 0
IsEvent m me asked reply event = (accounts : Accounts) (f : Flat) → Shows accounts m f → event ≡ event_by accounts f me asked reply

-- for every flat state that the machine represents, this is what is said of what a process made at a path
abbrev pub IsMadeEvent : MachineModel → ProcName → Path → Bool → Event → Type 0
IsMadeEvent m me q shared event =
    (accounts : Accounts) (f : Flat) → Shows accounts m f → event ≡ made_event accounts f q shared (user_running f me)

-- for every flat state that the machine represents, this is what is said of a write of a process to the file at a path
abbrev pub IsWroteEvent : MachineModel → ProcName → Path → Event → Type 0
IsWroteEvent m me q event = (accounts : Accounts) (f : Flat) → Shows accounts m f → event ≡ wrote_event q (user_running f me)

-- a user with its rights at a path
abbrev pub user_with_rights : Accounts → Flat → Path → Name → UserRights
user_with_rights accounts f q user = record { user = user; rights = user_rights_at accounts f q user }

-- for every flat state that the machine represents, these are the rights of these users at a path
abbrev pub AreRightsOfThese : MachineModel → Path → List Name → List UserRights → Type 0
AreRightsOfThese m q users rights = (accounts : Accounts) (f : Flat) → Shows accounts m f → rights ≡ map (user_with_rights accounts f q) users

-- a user with these rights may remove something, and is not its maker
abbrev pub is_taker_by : Name → UserRights → Bool
is_taker_by maker u = not (same u.user maker) && u.rights.remove

-- a user with these rights may write something, and is not its maker
abbrev pub is_writer_by : Name → UserRights → Bool
is_writer_by maker u = not (same u.user maker) && u.rights.write

-- of users with these rights those that may remove something, without its maker
abbrev pub those_that_remove : Name → List UserRights → List Name
those_that_remove maker rights = map (λ (u : UserRights). u.user) (filter (is_taker_by maker) rights)

-- of users with these rights those that may write something, without its maker
abbrev pub those_that_write : Name → List UserRights → List Name
those_that_write maker rights = map (λ (u : UserRights). u.user) (filter (is_writer_by maker) rights)

-- of users with these rights those that may take something away, unless all may read it
abbrev pub takers_by : Name → List UserRights → List Name
takers_by maker rights = if list_all (λ (u : UserRights). u.rights.read) rights then [] else those_that_remove maker rights

-- of users with these rights those that may write something, if it is a file for a group
abbrev pub writers_by : Name → Bool → List UserRights → List Name
writers_by maker shared rights = if shared then those_that_write maker rights else []
