-- How the code that looks for an entry, and removes it, runs its parts.
use Rattle.std.proofs.Common.{◌≡◌, ℕ, Some, Result, Ok, Err, subst}
use Rattle.std.specs.FinMap as map
use Rattle.histar_flat.specs.Words.{Name}
use Rattle.histar_flat.specs.declared.replies.Reply.TheVariants.{Done}
use Rattle.histar_rules.specs.declared.raw.RawCall.TheVariants.{Unlink}
use Rattle.histar_syscall.specs.KernelModel.{KernelModel}
use Rattle.histar_layout.specs.Directory.{Entries, LeadsSomewhere, IsListable}
use Rattle.histar_layout.specs.Listing.{object_of}
use Rattle.histar_layout.specs.declared.entry.Target.{Target}
use Rattle.histar_programs.specs.declared.directory.Directory.{Directory}
use Rattle.histar_programs.specs.declared.call_error.CallError.{CallError}
use Rattle.histar_programs.specs.declared.roots.Place.{Place}
use Rattle.histar_programs.specs.Parts.{ask, given, entry_at, target_named, read_directory, write_entries}
use Rattle.histar_programs.specs.Programs.{Program, Part, RunsPart}
use Rattle.histar_programs.specs.Programs.Program.{Answers}
use Rattle.histar_layout.proofs.MapLemmas.{entry_found}
use Rattle.histar_layout.proofs.DirectoryLemmas.{target_leads}
use Rattle.histar_programs.proofs.Running.{then_part, part_fails}
use Rattle.histar_moves.specs.declared.entry.FoundEntry.{FoundEntry}
use Rattle.histar_moves.specs.Parts.{must_be_empty, take_away}

-- an entry of a directory that can be listed leads somewhere
pub leads_somewhere : (entries : Entries) (name : Name) (target : Target) → IsListable entries
    → map.get entries name ≡ Some target → LeadsSomewhere target
leads_somewhere entries name target listable at = target_leads target (entry_found entries name target listable at).1

-- the entry of a directory that was read
abbrev pub entry_of : Directory → Name → Target → FoundEntry
entry_of directory name target = record { place = directory.place; entries = directory.entries; name = name; target = target }

-- what comes after the walk to the directory of an entry
abbrev pub within : Name → Directory → Part FoundEntry
within name directory rest = given (entry_at (target_named directory name)) (λ target. rest (entry_of directory name target))

-- the entries that are written are the expected ones
pub writes_due : {M : Type 0} → (t : ℕ) (old new : KernelModel) (place : Place) (entries due : Entries) → entries ≡ due
    → (result : Result (Unit {0}) CallError) → RunsPart M (write_entries place entries) old new t result
    → RunsPart M (write_entries place due) old new t result
writes_due {M} t old new place entries due is result runs =
    subst (λ (dir : Entries). RunsPart {A = Unit {0}} M (write_entries place dir) old new t result) is runs

module _ (t : ℕ) (old new : KernelModel) (entry : FoundEntry) where
  -- what comes after the object is unlinked
  abbrev gone : Unit {0} → Part (Unit {0})
  gone _ rest = write_entries entry.place (map.remove entry.entries entry.name) rest

  -- the kernel was asked for the object to which the entry leads
  pub unlinks : {M : Type 0} → (object : ℕ) → object ≡ object_of entry.target → (result : Result (Unit {0}) CallError)
      → RunsPart M (ask (Unlink entry.place.container object)) old new t result
      → RunsPart M (ask (Unlink entry.place.container (object_of entry.target))) old new t result
  unlinks {M} object is result runs = subst (λ (o : ℕ). RunsPart {A = Unit {0}} M (ask (Unlink entry.place.container o)) old new t result) is runs

  -- the object was not unlinked
  pub unlink_fails : {M : Type 0} → (call_error : CallError)
      → RunsPart M (ask (Unlink entry.place.container (object_of entry.target))) old new t (Err call_error)
      → RunsPart M (take_away entry) old new t (Err call_error)
  unfolding take_away
  unlink_fails call_error first = part_fails t (ask (Unlink entry.place.container (object_of entry.target))) old new gone call_error first

  -- the object was unlinked, and the directory is written
  pub takes_away : {M : Type 0} → (mid : KernelModel)
      → RunsPart M (ask (Unlink entry.place.container (object_of entry.target))) old mid t (Ok tt)
      → (result : Result (Unit {0}) CallError)
      → RunsPart M (write_entries entry.place (map.remove entry.entries entry.name)) mid new t result
      → RunsPart M (take_away entry) old new t result
  unfolding take_away
  takes_away mid first result second =
      then_part t (ask (Unlink entry.place.container (object_of entry.target))) old new gone mid tt first result second

-- what comes after the directory that is to be removed was read
abbrev pub if_empty : FoundEntry → Directory → Program
if_empty entry directory = given (must_be_empty directory.entries) (λ _. take_away entry (λ _. Answers Done))

-- what comes after the place of the directory is known
abbrev pub of_directory : FoundEntry → Place → Program
of_directory entry place = read_directory place (if_empty entry)
