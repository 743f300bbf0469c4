-- What differs between two sides: processes that run on one only, and letters of those that run on both.
use Rattle.std.specs.Prelude.{◌≡◌, Bool, ◌&&◌, true, false, T, List, map, Option, None, Some, if◌then◌else◌}
use Rattle.std.specs.Bool.{beq}
use Rattle.std.specs.declared.cmp.Ordering.{Ordering}
use Rattle.std.specs.Ordering.{ordering_then}
use Rattle.std.specs.FinMap.{find, is_sorted}
use Rattle.histar_flat.specs.Words.{Name, Path, ProcName}
use Rattle.histar_base.specs.Paths.{path_cmp}
use Rattle.histar_rights.specs.declared.rights.Rights.{Rights}
use Rattle.histar_rights.specs.Running.{process_cmp}
use Rattle.histar_diff.specs.declared.lone.Lone.{Lone}
use Rattle.histar_diff.specs.declared.differences.Difference.{Difference}
use Rattle.histar_diff.specs.Tables.{no_rights}

-- one side: the user of each process that runs, and the letters of each process at each path that is there
pub record Side : Type 0 where
  pub user : ProcName → Option Name
  pub letters : Path → ProcName → Option Rights

-- ---- letters

-- two rights are the same
abbrev pub same_rights : Rights → Rights → Bool
same_rights a b = beq a.stat b.stat && beq a.read b.read && beq a.write b.write && beq a.remove b.remove

-- the letters, and none at a path that is not there
abbrev pub letters : Option Rights → Rights
letters None = no_rights
letters (Some rights) = rights

-- the letters are the same
abbrev pub same_letters : Option Rights → Option Rights → Bool
same_letters a b = same_rights (letters a) (letters b)

-- ---- what differs

-- a process that runs on one side only, with that side's user
abbrev pub lone_of : ProcName → Option Name → Option Name → Option Lone
lone_of p (Some user) None = Some (record { process = p; user = user; is_new = false })
lone_of p None (Some user) = Some (record { process = p; user = user; is_new = true })
lone_of p _ _ = None

-- the difference at a path of a process with these letters and users on two sides, if it runs on both and its letters differ
abbrev pub difference_of : Path → ProcName → Option Rights → Option Rights → Option Name → Option Name → Option Difference
difference_of q p before after (Some old_user) (Some user) =
    if same_letters before after then None
    else Some (record { path = q; process = p; old_user = old_user; user = user; before = before; after = after })
difference_of q p before after _ _ = None

-- the process, if it runs on one of two sides only
abbrev pub lone_in : Side → Side → ProcName → Option Lone
lone_in old new p = lone_of p (old.user p) (new.user p)

-- the difference of a process at a path between two sides, if it runs on both and its letters differ
abbrev pub difference_in : Side → Side → Path → ProcName → Option Difference
difference_in old new q p = difference_of q p (old.letters q p) (new.letters q p) (old.user p) (new.user p)

-- ---- lists

-- a path and a process
abbrev pub Pair : Type 0
Pair = Path × ProcName

-- pairs are ordered by paths, and then by processes
abbrev pub pair_cmp : Pair → Pair → Ordering
pair_cmp a b = ordering_then (path_cmp a.0 b.0) (process_cmp a.1 b.1)

-- lone processes with their names as keys
abbrev pub by_name : List Lone → List (ProcName × Lone)
by_name lone = map (λ l. (l.process, l)) lone

-- differences with their paths and processes as keys
abbrev pub by_pair : List Difference → List (Pair × Difference)
by_pair ds = map (λ d. ((d.path, d.process), d)) ds

-- These are exactly the processes that run on one of two sides only, and exactly the differences of those that run on both: both lists
-- rise, each element is there at most once, and each process and each pair is found exactly if it is lone or differs.
pub record AreBetween (old new : Side) (lone : List Lone) (ds : List Difference) : Type 0 where
  pub lone_rising : T (is_sorted process_cmp (by_name lone))
  pub each_lone : (p : ProcName) → find process_cmp p (by_name lone) ≡ lone_in old new p
  pub rising : T (is_sorted pair_cmp (by_pair ds))
  pub each : (q : Path) (p : ProcName) → find pair_cmp (q, p) (by_pair ds) ≡ difference_in old new q p
