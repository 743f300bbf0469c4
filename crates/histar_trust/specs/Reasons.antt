-- Why a process is a changer of what is at a path, and why one is confined: by which path, and by which job.
use Rattle.std.specs.Prelude.{ℕ, Bool, List, [], ◌∷◌, ◌++◌, Option, None, Some, codes, if◌then◌else◌}
use Rattle.std.specs.Option.{option_or}
use Rattle.histar_flat.specs.Words.{Path, ProcName}
use Rattle.histar_flat.specs.Accounts.{Accounts}
use Rattle.histar_flat.specs.Classes.{Class, Process}
use Rattle.histar_flat.specs.FlatState.{Flat, is_some_and}
use Rattle.histar_flat.specs.Texts.{path_text, process_text}
use Rattle.histar_rights.specs.Running.{Named}
use Rattle.histar_secrecy.specs.Roles.{is_bound}
use Rattle.histar_secrecy.specs.Changers.{changes_at}

-- The first that passes the test, from the root down to this one: of `/` and the paths on the way to a path, or of process 0 and the
-- processes above a process.
abbrev pub first_from_root : {A : Type 0} → (List A → Bool) → List A → Option (List A)
first_from_root test [] = if test [] then Some [] else None
first_from_root test (n ∷ above) = option_or (first_from_root test above) (if test (n ∷ above) then Some (n ∷ above) else None)

module _ (accounts : Accounts) (f : Flat) where
  -- the highest path, on the way from `/` to this one, by which the process may change what is at this one
  abbrev pub power_path : Process → Path → Option Path
  power_path p path = first_from_root (changes_at accounts f p) path

  -- a process would be bound by the way if it were in the jobs of the process of this name alone
  abbrev pub binds : List Class → Process → ProcName → Bool
  binds way p name = is_some_and (f.processes name) (λ q. is_bound accounts way (record p { chain = q.chain }))

  -- the outermost job by which a process is bound: it would be bound in this job and those around it alone, but not without this one
  abbrev pub binding_job : List Class → Named → Option ProcName
  binding_job way c = first_from_root (binds way c.1) c.0

-- ` by ` and a path, if there is one
abbrev pub by_path : Option Path → List ℕ
by_path None = []
by_path (Some path) = codes " by " ++ path_text path

-- ` by job ` and a job, if there is one
abbrev pub by_job : Option ProcName → List ℕ
by_job None = []
by_job (Some job) = codes " by job " ++ process_text job

-- a reason, if reasons are asked for
abbrev pub if_asked : Bool → List ℕ → List ℕ
if_asked why reason = if why then reason else []
