-- The targets of paths in a state, as its directory segments list them from that of `/` on.
use Rattle.std.specs.Prelude.{◌≡◌, ℕ, [], ◌∷◌, Option, Some, MatchOption}
use Rattle.std.specs.FinMap as map
use Rattle.histar_flat.specs.Words.{Path}
use Rattle.histar_syscall.specs.KernelModel.{lent_bytes}
use Rattle.histar_object.specs.State.{State}
use Rattle.histar_layout.specs.Directory.{Entries, IsDirectory}
use Rattle.histar_layout.specs.declared.entry.Target.{Target}
use Rattle.histar_layout.specs.declared.entry.Target.TheVariants.{Directory}
use Rattle.histar_programs.specs.declared.roots.Roots.{Roots}

-- A path leads to a target: `/` to the directory that boot made, and another path to the target that the directory above it lists for its
-- last name.
abbrev pub LeadsTo : State → Roots → Path → Target → Type 0
LeadsTo s roots [] target = target ≡ Directory roots.slash.container roots.slash.listing
LeadsTo s roots (name ∷ d) target =
    (container : ℕ) × (listing : ℕ) × (dir : Entries)
    × LeadsTo s roots d (Directory container listing) × IsDirectory (lent_bytes s listing) dir × (map.get dir name ≡ Some target)

-- a path leads nowhere
abbrev pub LeadsNowhere : State → Roots → Path → Type 0
LeadsNowhere s roots q = (target : Target) → LeadsTo s roots q target → ⊥

-- the path leads to the target that was found, and none was found exactly where it leads nowhere
unfoldable pub Resolves : State → Roots → Path → Option Target → Type 0
Resolves s roots q found = MatchOption found (LeadsNowhere s roots q) (LeadsTo s roots q)
