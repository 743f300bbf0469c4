-- The parts that the programs of calls on processes are made of.
use Rattle.std.specs.Prelude.{[], ◌∷◌, Option, None, Some, Result, Ok, Err}
use Rattle.histar_flat.specs.Words.{ProcName}
use Rattle.histar_flat.specs.declared.replies.Errno.{Errno}
use Rattle.histar_flat.specs.declared.replies.Errno.TheVariants.{ESRCH}
use Rattle.histar_rules.specs.declared.raw.RawCall.TheVariants.{Read, Write}
use Rattle.histar_layout.specs.Status.{ProcessStatus, child_at, status_bytes, status_in}
use Rattle.histar_layout.specs.declared.status.Child.{Child}
use Rattle.histar_programs.specs.declared.roots.Home.{Home}
use Rattle.histar_programs.specs.Programs.{Part}
use Rattle.histar_programs.specs.Parts.{◌>>=◌, ask, given, if_there}

-- a process segment is read; where its bytes spell no status, there is no process
unfoldable pub read_status : Home → Part ProcessStatus
read_status home rest = do
  bytes ← ask (Read home.container home.segment)
  if_there ESRCH rest (status_in bytes)

-- a child must be there
abbrev pub must_be_there : Option Child → Result Child Errno
must_be_there None = Err ESRCH
must_be_there (Some child) = Ok child

-- where a child is found
abbrev pub home_of : Child → Home
home_of child = record { container = child.container; segment = child.segment }

-- Where the process of a name is found: from process 0 on the segment of each process above it is read, and the next number is looked
-- up in it.
unfoldable pub find_home : Home → ProcName → Part Home
find_home first [] rest = rest first
find_home first (n ∷ above) rest = do
  home ← find_home first above
  status ← read_status home
  child ← given (must_be_there (child_at status.children n))
  rest (home_of child)

-- a process segment is written
abbrev pub write_status : Home → ProcessStatus → Part (Unit {0})
write_status home status = ask (Write home.container home.segment 0 (status_bytes status))
