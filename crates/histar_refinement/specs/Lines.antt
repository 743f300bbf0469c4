-- What the process segments and the directory segments of a state list, from those that boot made on.
use Rattle.std.specs.Prelude.{◌≡◌, ℕ, [], ◌∷◌, length, None, Some}
use Rattle.std.specs.FinMap as map
use Rattle.histar_flat.specs.Words.{Path, ProcName}
use Rattle.histar_object.specs.Objects.{bytes_in}
use Rattle.histar_object.specs.State.{State}
use Rattle.histar_layout.specs.Directory.{Entries, IsDirectory}
use Rattle.histar_layout.specs.Listing.{object_of}
use Rattle.histar_layout.specs.Status.{ProcessStatus, IsStatus, child_at}
use Rattle.histar_layout.specs.declared.entry.Target.{Target}
use Rattle.histar_layout.specs.declared.entry.Target.TheVariants as targets
use Rattle.histar_rules.specs.Sound.{root_number}
use Rattle.histar_flat.specs.Accounts.{Accounts}
use Rattle.histar_refinement.specs.Addresses.{slash_number, slash_listing_number, home_number, status_number}

-- The container and the process segment of a process: those of process 0 are the ones that boot made, and those of a child are listed
-- in the process segment above it.
abbrev pub IsStatusSegment : Accounts → State → ProcName → ℕ → ℕ → Type 0
IsStatusSegment accounts s [] container segment = (container ≡ home_number (length accounts.users)) × (segment ≡ status_number (length accounts.users))
IsStatusSegment accounts s (n ∷ p) container segment =
    (above : ℕ) × (listing : ℕ) × (status : ProcessStatus)
    × IsStatusSegment accounts s p above listing × IsStatus (bytes_in (s.objects listing)) status
    × (child_at status.children n ≡ Some (record { number = n; container = container; segment = segment }))

-- the process of this name runs, and its process segment names this thread
abbrev pub IsThreadOf : Accounts → State → ProcName → ℕ → Type 0
IsThreadOf accounts s process thread =
    (container : ℕ) × (segment : ℕ) × (status : ProcessStatus)
    × IsStatusSegment accounts s process container segment × IsStatus (bytes_in (s.objects segment)) status × (status.exited ≡ None) × (status.thread ≡ thread)

-- The container and the directory segment of a directory: those of `/` are the ones that boot made, and those of another directory are
-- listed in the directory segment above it.
abbrev pub IsDirectoryAt : Accounts → State → Path → ℕ → ℕ → Type 0
IsDirectoryAt accounts s [] container segment = (container ≡ slash_number (length accounts.users)) × (segment ≡ slash_listing_number (length accounts.users))
IsDirectoryAt accounts s (name ∷ d) container segment =
    (above : ℕ) × (listing : ℕ) × (dir : Entries)
    × IsDirectoryAt accounts s d above listing × IsDirectory (bytes_in (s.objects listing)) dir
    × (map.get dir name ≡ Some (targets.Directory container segment))

-- The object at a path, and the container that links it: `/` is linked by the root container, and another object by the
-- container of the directory above it, whose segment lists it.
abbrev pub IsObjectAt : Accounts → State → Path → ℕ → ℕ → Type 0
IsObjectAt accounts s [] container object = (container ≡ root_number) × (object ≡ slash_number (length accounts.users))
IsObjectAt accounts s (name ∷ d) container object =
    (listing : ℕ) × (dir : Entries) × (target : Target)
    × IsDirectoryAt accounts s d container listing × IsDirectory (bytes_in (s.objects listing)) dir
    × (map.get dir name ≡ Some target) × (object ≡ object_of target)
