-- Machines that make calls, and what is gathered of the state after each.
use Rattle.std.specs.Prelude.{List, [], ◌∷◌, ◌++◌}
use Rattle.histar_flat.specs.declared.calls.CallLine.{CallLine}
use Rattle.histar_flat.specs.Accounts.{Accounts}
use Rattle.histar_flat.specs.FlatState.{Flat}
use Rattle.histar_flat.specs.Meaning.{boot, flat_end}
use Rattle.histar_shell.specs.Machine.{MachineModel}
use Rattle.histar_shell.specs.Meaning.{Shows, ShowsStart}
use Rattle.histar_ever.specs.States.{states_from}

-- the machine represents the start of some script
abbrev pub IsStarted : MachineModel → Type 0
IsStarted m = (accounts : Accounts) × ShowsStart accounts m

-- exactly this was gathered of these flat states of a script with these accounts
abbrev pub Gathering : Type 0 → Type 1
Gathering E = Accounts → List Flat → E → Type 0

module _ {E : Type 0} (gathers : Gathering E) where
  -- the machine represents the flat state after these calls of a script, and the states of the run were gathered
  pub record IsAfter (accounts : Accounts) (calls : List CallLine) (m : MachineModel) (e : E) : Type 0 where
    pub shows : Shows accounts m (flat_end accounts (boot accounts) calls)
    pub gathered : gathers accounts (states_from accounts (boot accounts) calls) e

  -- the machine has made some calls of a script, and the states of that run were gathered
  abbrev pub IsRunning : MachineModel → E → Type 0
  IsRunning m e = (accounts : Accounts) × (calls : List CallLine) × IsAfter accounts calls m e

  -- these calls were made after others, and the state after each was gathered
  abbrev pub FollowsCalls : List CallLine → MachineModel → MachineModel → E → E → Type 0
  FollowsCalls calls old new before after =
      (accounts : Accounts) (first : List CallLine) → IsAfter accounts first old before → IsAfter accounts (first ++ calls) new after

  -- the state after calls that the machine represents was gathered, as one more
  abbrev pub AddsState : MachineModel → E → E → Type 0
  AddsState m old new =
      (accounts : Accounts) (calls : List CallLine) → Shows accounts m (flat_end accounts (boot accounts) calls)
      → (fs : List Flat) → gathers accounts fs old → gathers accounts (fs ++ flat_end accounts (boot accounts) calls ∷ []) new

  -- nothing was gathered yet, for each script whose start the machine represents
  abbrev pub GathersNone : MachineModel → E → Type 0
  GathersNone m e = (accounts : Accounts) → ShowsStart accounts m → gathers accounts [] e

  -- of each script whose start the machine represented, the states in the run of these calls were gathered
  abbrev pub GathersRun : List CallLine → MachineModel → E → Type 0
  GathersRun calls m e = (accounts : Accounts) → ShowsStart accounts m → gathers accounts (states_from accounts (boot accounts) calls) e

  -- a state that was gathered before adds nothing if it is gathered again
  abbrev pub AddsNothingAgain : Type 0
  AddsNothingAgain =
      (accounts : Accounts) (f : Flat) (calls : List CallLine) (e : E) → gathers accounts (states_from accounts f calls) e
      → gathers accounts (states_from accounts f calls ++ flat_end accounts f calls ∷ []) e
