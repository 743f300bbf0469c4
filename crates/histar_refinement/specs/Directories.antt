-- The entries in the directory segment of each directory.
use Rattle.std.specs.Prelude.{ℕ, cond, [], ◌∷◌, Option, None, Some, option_map}
use Rattle.std.specs.List.{filter_map}
use Rattle.std.specs.FinMap as map
use Rattle.histar_flat.specs.Words.{Name, Path}
use Rattle.histar_base.specs.Paths.{same_path}
use Rattle.histar_flat.specs.Files.{Files}
use Rattle.histar_flat.specs.FlatState.{Node}
use Rattle.histar_flat.specs.FlatState.Content.{Dir, File}
use Rattle.histar_layout.specs.Directory.{Entries}
use Rattle.histar_layout.specs.declared.entry.Target.{Target}
use Rattle.histar_layout.specs.declared.entry.Target.TheVariants as targets
use Rattle.histar_refinement.specs.Addresses.{AddressNumbers, address_of}
use Rattle.histar_refinement.specs.Addresses.Step.{Listing}

-- a directory's container and directory segment, where both have numbers
abbrev pub both_numbers : Option ℕ → Option ℕ → Option Target
both_numbers None listing = None
both_numbers (Some container) None = None
both_numbers (Some container) (Some listing) = Some (targets.Directory container listing)

-- where the entry of a path leads: to a file's segment, or to a directory's container and directory segment
abbrev pub target_for : AddressNumbers → Path × Node → Option Target
target_for number e = elim e.1.content [
  | Dir ↦ both_numbers (number (address_of e.0)) (number (Listing ∷ address_of e.0))
  | File bytes ↦ option_map targets.File (number (address_of e.0))
]

-- the entry of the directory d that a path is, if it is one, with where it leads
abbrev pub target_in : AddressNumbers → Path → Path × Node → Option (Name × Target)
target_in number d e = elim e.0 [
  | [] ↦ None
  | n ∷ above ↦ cond (same_path d above) (option_map (λ target. (n, target)) (target_for number e)) None
]

-- the entries of the directory d, and where each leads
abbrev pub directory_of : Files Node → AddressNumbers → Path → Entries
directory_of files number d = map.from_entries (filter_map (target_in number d) files.entries)
