-- What the reasons mean: a changer has its power by the path that is named, and by no higher one; and no outsider knows the job that is named.
use Rattle.std.specs.Prelude.{◌≡◌, ◌<◌, true, false, List, length, Some}
use Rattle.histar_flat.specs.Words.{Path, ProcName}
use Rattle.histar_flat.specs.PathOrder.{under_path}
use Rattle.histar_flat.specs.Accounts.{Accounts, has}
use Rattle.histar_flat.specs.Classes.{Class, Process, knows}
use Rattle.histar_flat.specs.FlatState.{Flat, is_there}
use Rattle.histar_flat.specs.FlatCalls.{running}
use Rattle.histar_secrecy.specs.Ways.{way_to}
use Rattle.histar_secrecy.specs.Roles.{is_confined, is_outsider}
use Rattle.histar_secrecy.specs.Noninterference.{IsReached}
use Rattle.histar_secrecy.specs.Changers.{HasChange, changes_at, may_change}
use Rattle.histar_trust.specs.Reasons.{binding_job, power_path}

-- A path is named on the way to this one: the process may change what is there or its entries, and nothing at any path above it.
pub record HasPower (accounts : Accounts) (f : Flat) (path : Path) (p : Process) : Type 0 where
  pub place : Path
  pub named : power_path accounts f p path ≡ Some place
  pub on_way : under_path place path ≡ true
  pub power : changes_at accounts f p place ≡ true
  pub no_higher : (r : Path) → under_path r place ≡ true → length r < length place → changes_at accounts f p r ≡ false

-- A path is named for each process that may change what is at a path, also for one that has just logged in. If the process runs and
-- something is at that path, a call of its changes that.
abbrev pub PowerIsNamed : Type 0
PowerIsNamed = (accounts : Accounts) (f : Flat) → IsReached accounts f → (path : Path) (p : Process) → may_change accounts f p path ≡ true
    → HasPower accounts f path p
    × ((me : ProcName) → running f me ≡ Some p → is_there f path ≡ true → HasChange accounts f path me)

-- A job is named that the process is in, and each running process that knows it is no outsider.
pub record HasJob (accounts : Accounts) (f : Flat) (way : List Class) (me : ProcName) (p : Process) : Type 0 where
  pub job : ProcName
  pub named : binding_job accounts f way (me, p) ≡ Some job
  pub inside : has p.chain job ≡ true
  pub unknown : (other : ProcName) (q : Process) → running f other ≡ Some q → is_outsider accounts way f other ≡ true → knows q job
      ≡ false

-- A job is named for each confined process.
abbrev pub JobIsNamed : Type 0
JobIsNamed = (accounts : Accounts) (f : Flat) → IsReached accounts f → (path : Path) (me : ProcName) (p : Process)
    → running f me ≡ Some p → is_confined accounts (way_to f path) f me ≡ true → HasJob accounts f (way_to f path) me p
