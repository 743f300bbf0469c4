-- Why a process doesn't run, read off the process segments of a state.
use Rattle.std.specs.Prelude.{ℕ, Bool, true, ◌&&◌, nat_le, [], ◌∷◌, Option, None, Some, is_some, if◌then◌else◌}
use Rattle.histar_flat.specs.Words.{ProcName}
use Rattle.histar_object.specs.State.{State}
use Rattle.histar_layout.specs.Status.{ProcessStatus}
use Rattle.histar_programs.specs.declared.roots.Home.{Home}
use Rattle.histar_programs.specs.Caller.{home_at, status_at}
use Rattle.histar_reasons.specs.Reasons.{Absence}
use Rattle.histar_reasons.specs.Reasons.Absence.{HasExited, WasKilled, WasNeverStarted}
use Rattle.histar_why.specs.declared.absences.Absence.{Absence as Found}
use Rattle.histar_why.specs.declared.absences.Absence.TheVariants as found

-- an absence, as the rules have it
abbrev pub absence_of : Found → Absence
absence_of found.HasExited = HasExited
absence_of found.WasNeverStarted = WasNeverStarted
absence_of (found.WasKilled name) = WasKilled name

-- a process with this status has given the number to a child
abbrev pub given_in : Option ProcessStatus → ℕ → Bool
given_in None n = true
given_in (Some status) n = nat_le 1 n && nat_le n status.born

-- a process at this place has given the number to a child; one that is at none has given every number
abbrev pub given_at : State → Option Home → ℕ → Bool
given_at s None n = true
given_at s (Some home) n = given_in (status_at s home.segment) n

module _ (s : State) (first : Home) where
  -- a process has given the number to a child
  abbrev pub was_given_by : ProcName → ℕ → Bool
  was_given_by above n = given_at s (home_at s first above) n

  -- each number was given to a child that was born to the process before it
  abbrev pub is_given_by : ProcName → Bool
  is_given_by [] = true
  is_given_by (n ∷ above) = was_given_by above n && is_given_by above

  -- the process, or the one above it that is under a process that is listed
  abbrev pub first_absent_by : ProcName → ProcName
  first_absent_by [] = []
  first_absent_by (n ∷ above) = if is_some (home_at s first above) then n ∷ above else first_absent_by above

  -- why the process of this name doesn't run, where it doesn't
  abbrev pub absence_by : ProcName → Absence
  absence_by me =
      if is_some (home_at s first me) then HasExited
      else if is_given_by me then WasKilled (first_absent_by me)
      else WasNeverStarted
