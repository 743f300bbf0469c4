-- The breach of a claim on a machine.
use Rattle.std.specs.Prelude.{◌≡◌, List, map, Option, option_and_then}
use Rattle.std.specs.Option.{option_or}
use Rattle.histar_flat.specs.Accounts.{Accounts}
use Rattle.histar_flat.specs.FlatState.{Flat}
use Rattle.histar_flat.specs.Words.{Name, ProcName}
use Rattle.histar_readout.specs.declared.process.ProcessNode.{ProcessNode}
use Rattle.histar_rights.specs.Running.{HaveShownNames, running_in}
use Rattle.histar_rights.specs.Users.{somebody}
use Rattle.histar_diff.specs.Shown.{runner}
use Rattle.histar_access.specs.RightsTable.{runner_of}
use Rattle.histar_shell.specs.Machine.{MachineModel}
use Rattle.histar_shell.specs.Meaning.{Shows}
use Rattle.histar_cells.specs.Whose.{user_running}
use Rattle.histar_never.specs.declared.breaches.Breach.{Breach}
use Rattle.histar_never.specs.declared.breaches.Holder.{Holder}
use Rattle.histar_never.specs.declared.breaches.Holder.TheVariants.{AProcess}
use Rattle.histar_never.specs.declared.claims.Never.{Never}
use Rattle.histar_never.specs.Breaches.{breach_in, breach_of, first_of, runner_breach, user_breach}

-- for every flat state that the machine represents, this is the breach of a claim in it
abbrev pub FindsBreach : MachineModel → Never → Option Breach → Type 0
FindsBreach m never found =
    (accounts : Accounts) (f : Flat) → Shows accounts m f → HaveShownNames f → found ≡ breach_in accounts f never

-- ---- the parts

-- for every flat state that the machine represents, this is the breach of a claim by one who may hold rights
abbrev pub IsBreachOf : MachineModel → Never → Holder → Option Breach → Type 0
IsBreachOf m never holder found =
    (accounts : Accounts) (f : Flat) → Shows accounts m f → found ≡ breach_of accounts f never holder

-- for every flat state that the machine represents, this is the breach of a claim by the process of this name, if it runs
abbrev pub IsBreachByOne : MachineModel → Never → ProcName → Option Breach → Type 0
IsBreachByOne m never me found =
    (accounts : Accounts) (f : Flat) → Shows accounts m f
    → found ≡ option_and_then (λ user. breach_of accounts f never (AProcess me user)) (user_running f me)

-- the breach of a claim by a process of a machine, if it runs and is meant
abbrev pub node_breach : Accounts → Flat → Never → ProcessNode → Option Breach
node_breach accounts f never node = option_and_then (runner_breach accounts f never) (runner_of node)

-- for every flat state that the machine represents, this is the breach of a claim by this process
abbrev pub IsNodeBreach : MachineModel → Never → ProcessNode → Option Breach → Type 0
IsNodeBreach m never node found =
    (accounts : Accounts) (f : Flat) → Shows accounts m f → found ≡ node_breach accounts f never node

-- for every flat state that the machine represents, this is the breach of a claim by the first of these processes that breaks it
abbrev pub IsBreachAmong : MachineModel → Never → List ProcessNode → Option Breach → Type 0
IsBreachAmong m never nodes found =
    (accounts : Accounts) (f : Flat) → Shows accounts m f → found ≡ first_of (node_breach accounts f never) nodes

-- for every flat state that the machine represents, this is the breach of a claim by whoever logs in as this user
abbrev pub IsUserBreach : MachineModel → Never → Name → Option Breach → Type 0
IsUserBreach m never user found =
    (accounts : Accounts) (f : Flat) → Shows accounts m f → found ≡ user_breach accounts f never user

-- for every flat state that the machine represents, this is the breach of a claim by the first of these users that breaks it
abbrev pub IsBreachByUsers : MachineModel → Never → List Name → Option Breach → Type 0
IsBreachByUsers m never users found =
    (accounts : Accounts) (f : Flat) → Shows accounts m f → found ≡ first_of (user_breach accounts f never) users

-- for every flat state that the machine represents, this is the breach by the first running process, or else by the first user
abbrev pub IsBreachByAll : MachineModel → Never → Option Breach → Type 0
IsBreachByAll m never found =
    (accounts : Accounts) (f : Flat) → Shows accounts m f → HaveShownNames f
    → found ≡ option_or (first_of (runner_breach accounts f never) (map runner (running_in f)))
    (first_of (user_breach accounts f never) (somebody accounts))
