-- What the kernel denied of a refused call: the denied raw call is on what the sentence of the refusal's reason names.
use Rattle.std.specs.Prelude.{◌≡◌, ℕ, ◌+◌, ◌⊎◌, List, [], ◌∷◌, length, Option, None, Some}
use Rattle.std.specs.FinMap as map
use Rattle.std.specs.List.{AllByRecursion}
use Rattle.std.specs.Option.{IsSomeAnd}
use Rattle.histar_flat.specs.declared.calls.UnixCall.{UnixCall}
use Rattle.histar_flat.specs.declared.calls.UnixCall.TheVariants.{Login}
use Rattle.histar_flat.specs.Words.{Path, ProcName}
use Rattle.histar_flat.specs.PathOrder.{parent}
use Rattle.histar_flat.specs.Accounts.{Accounts}
use Rattle.histar_flat.specs.Classes.{Process}
use Rattle.histar_flat.specs.FlatState.{Flat}
use Rattle.histar_flat.specs.CallRules.{path_of}
use Rattle.histar_reasons.specs.Reasons.{Reason, why}
use Rattle.histar_reasons.specs.Reasons.Reason.{MayNotRead, MayNotWrite, IsTooLong, MakesOnlyOpen, IsNoMember, StartsNoJob}
use Rattle.histar_reasons.specs.Reasons.Reason.{IsUnseen, IsNoChild, IsInJob}
use Rattle.histar_object.specs.Objects.{bytes_in}
use Rattle.histar_object.specs.State.{State}
use Rattle.histar_rules.specs.declared.raw.Denied.{Denied}
use Rattle.histar_rules.specs.declared.raw.RawCall.{RawCall}
use Rattle.histar_rules.specs.declared.raw.RawCall.TheVariants as raw
use Rattle.histar_rules.specs.Sound.{root_number}
use Rattle.histar_trace.specs.declared.entries.TraceEntry.{TraceEntry}
use Rattle.histar_layout.specs.Directory.{Entries, IsDirectory}
use Rattle.histar_layout.specs.declared.entry.Target.TheVariants as targets
use Rattle.histar_programs.specs.Users.{place_of, gate_of}
use Rattle.histar_refinement.specs.Addresses.{home_number}
use Rattle.histar_refinement.specs.Lines.{IsStatusSegment, IsDirectoryAt, IsObjectAt}

-- a raw call writes this segment, which this container links
abbrev pub IsWriteTo : ℕ → ℕ → RawCall → Type 0
IsWriteTo container segment (raw.Write c o most bytes) = (c ≡ container) × (o ≡ segment)
IsWriteTo container segment _ = ⊥

-- a raw call makes a segment or a container in this container
abbrev pub IsMaking : ℕ → RawCall → Type 0
IsMaking container (raw.MakeSegment c label bytes) = c ≡ container
IsMaking container (raw.MakeContainer c label) = c ≡ container
IsMaking container _ = ⊥

-- a raw call enters this gate, which the root container links
abbrev pub IsEntryOf : ℕ → RawCall → Type 0
IsEntryOf gate (raw.Enter c g label clearance verify) = (c ≡ root_number) × (g ≡ gate)
IsEntryOf gate _ = ⊥

module _ (accounts : Accounts) where
  -- a raw call enters the gate of the user as whom a call logs in
  abbrev pub EntersGate : UnixCall → RawCall → Type 0
  EntersGate (Login user password) call =
      (place : ℕ) × (place_of accounts.users user ≡ Some place) × IsEntryOf (gate_of (place + 1)) call
  EntersGate _ call = ⊥

  module _ (s : State) where
    -- The container and the segment of the file at a path: the container is that of the directory above, whose segment lists it as a file.
    abbrev pub IsFileAt : Path → ℕ → ℕ → Type 0
    IsFileAt [] container segment = ⊥
    IsFileAt (name ∷ d) container segment =
        (listing : ℕ) × (dir : Entries) × IsDirectoryAt accounts s d container listing
        × IsDirectory (bytes_in (s.objects listing)) dir × (map.get dir name ≡ Some (targets.File segment))

    -- a raw call reads what is at a path: the directory segment of a directory, or the segment of a file
    abbrev pub ReadsAt : Path → RawCall → Type 0
    ReadsAt q call =
        (container : ℕ) × (segment : ℕ)
        × (IsDirectoryAt accounts s q container segment ⊎ IsFileAt q container segment) × (call ≡ raw.Read container segment)

    -- a raw call writes the file at a path
    abbrev pub WritesAt : Path → RawCall → Type 0
    WritesAt q call = (container : ℕ) × (segment : ℕ) × IsFileAt q container segment × IsWriteTo container segment call

    -- a raw call makes something in the container of the directory at a path
    abbrev pub MakesAt : Path → RawCall → Type 0
    MakesAt d call = (container : ℕ) × (listing : ℕ) × IsDirectoryAt accounts s d container listing × IsMaking container call

    -- a raw call writes the directory segment of the directory at a path
    abbrev pub WritesListing : Path → RawCall → Type 0
    WritesListing d call =
        (container : ℕ) × (listing : ℕ) × IsDirectoryAt accounts s d container listing × IsWriteTo container listing call

    -- a raw call unlinks what is at a path from the container that links it
    abbrev pub UnlinksAt : Path → RawCall → Type 0
    UnlinksAt q call =
        (container : ℕ) × (object : ℕ) × IsObjectAt accounts s q container object × (call ≡ raw.Unlink container object)

    -- A raw call of a Unix call changes the directory at a path: it makes something there, or writes the directory's segment, or unlinks
    -- the entry that the Unix call names.
    abbrev pub ChangesAt : UnixCall → Path → RawCall → Type 0
    ChangesAt asked d call =
        MakesAt d call ⊎ WritesListing d call ⊎ ((parent (path_of asked) ≡ d) × UnlinksAt (path_of asked) call)

    -- a raw call reads the process segment of a process
    abbrev pub ReadsStatus : ProcName → RawCall → Type 0
    ReadsStatus name call =
        (container : ℕ) × (segment : ℕ) × IsStatusSegment accounts s name container segment × (call ≡ raw.Read container segment)

    -- A raw call unlinks the container of a process: that of process 0 from the root container, and that of a child from its parent's.
    abbrev pub UnlinksProcess : ProcName → RawCall → Type 0
    UnlinksProcess [] call = call ≡ raw.Unlink root_number (home_number (length accounts.users))
    UnlinksProcess (n ∷ above) call =
        (outer : ℕ) × (status : ℕ) × (container : ℕ) × (segment : ℕ) × IsStatusSegment accounts s above outer status
        × IsStatusSegment accounts s (n ∷ above) container segment × (call ≡ raw.Unlink outer container)

    -- A raw call of a Unix call is on what the sentence of a reason names: on the file, the directory or the process; where nothing may
    -- be made of a mode, or no job be started, on the directory of the path; and on the user's gate, where a process in a job logs in.
    abbrev pub IsAbout : UnixCall → Reason → RawCall → Type 0
    IsAbout asked (MayNotRead q cause) call = ReadsAt q call
    IsAbout asked (MayNotWrite q cause) call = WritesAt q call ⊎ ChangesAt asked q call
    IsAbout asked (IsTooLong q n) call = WritesAt q call
    IsAbout asked (IsUnseen name job) call = ReadsStatus name call
    IsAbout asked (IsNoChild name) call = UnlinksProcess name call
    IsAbout asked (IsInJob job) call = EntersGate asked call
    IsAbout asked MakesOnlyOpen call = MakesAt (parent (path_of asked)) call
    IsAbout asked (IsNoMember group) call = MakesAt (parent (path_of asked)) call
    IsAbout asked StartsNoJob call = MakesAt (parent (path_of asked)) call
    IsAbout asked _ call = ⊥

    -- a raw call is on what the reason names for which a call of the process p, whose name is me, is refused
    abbrev pub IsNamed : Flat → ProcName → Process → UnixCall → RawCall → Type 0
    IsNamed f me p asked call = IsSomeAnd (why accounts f me p asked) (λ reason. IsAbout asked reason call)

    -- a raw call that was denied is on what the reason of the refusal names
    abbrev pub IsNamedDenial : Flat → ProcName → Process → UnixCall → RawCall → Option Denied → Type 0
    IsNamedDenial f me p asked call None = Unit {0}
    IsNamedDenial f me p asked call (Some denied) = IsNamed f me p asked call

    -- each denied raw call of a line is on what the reason of its refusal names; a process that doesn't run makes none
    abbrev pub DenialsAreNamed : Flat → ProcName → Option Process → UnixCall → List TraceEntry → Type 0
    DenialsAreNamed f me None asked entries = Unit {0}
    DenialsAreNamed f me (Some p) asked entries = AllByRecursion (λ e. IsNamedDenial f me p asked e.call e.denied) entries
