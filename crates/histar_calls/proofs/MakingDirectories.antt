-- How the code of `mkdir` runs its program, from one part to the next.
use Rattle.std.proofs.Common.{◌≡◌, ℕ, [], Result, Err, subst}
use Rattle.std.specs.FinMap as map
use Rattle.histar_flat.specs.Words.{Path}
use Rattle.histar_flat.specs.declared.calls.Mode.{Mode}
use Rattle.histar_flat.specs.declared.replies.Reply.TheVariants.{Done}
use Rattle.histar_flat.specs.Accounts.{Accounts}
use Rattle.histar_level.specs.Levels.{Levels}
use Rattle.histar_rules.specs.declared.raw.RawCall.TheVariants.{MakeContainer, MakeSegment}
use Rattle.histar_syscall.specs.KernelModel.{KernelModel}
use Rattle.histar_layout.specs.Categories.{label_made}
use Rattle.histar_layout.specs.Directory.{Entries}
use Rattle.histar_layout.specs.declared.entry.Target.TheVariants.{Directory}
use Rattle.histar_programs.specs.declared.call_error.CallError.{CallError}
use Rattle.histar_programs.specs.declared.call_error.CallError.TheVariants.{Stopped}
use Rattle.histar_programs.specs.declared.find.Room.{Room}
use Rattle.histar_programs.specs.declared.roots.Roots.{Roots}
use Rattle.histar_programs.specs.Programs.{Program, Part, RunsPart}
use Rattle.histar_programs.specs.Programs.Program.{Answers}
use Rattle.histar_programs.specs.Parts.{ask, find_room, write_entries}
use Rattle.histar_calls.specs.Mkdir.{add_directory, mkdir_program, make_directory}
use Rattle.histar_programs.proofs.Exits.{Leaves}
use Rattle.histar_programs.proofs.Running.{before_ask, part_fails}

-- the entries of the directory above, with the new directory
abbrev pub grown : Room → ℕ → ℕ → Entries
grown room container listing = map.insert room.entries room.name (Directory container listing)

-- what comes after the directory segment
abbrev pub after_listing : Room → ℕ → ℕ → Part (Unit {0})
after_listing room container listing = write_entries room.place (grown room container listing)

-- what comes after the container
abbrev pub after_container : Levels → Room → ℕ → Part (Unit {0})
after_container label room container rest = ask (MakeSegment container label []) (λ listing. after_listing room container listing rest)

-- memory ran out before a directory was added
pub before_adding : {M : Type 0} → (t : ℕ) (label : Levels) (room : Room) (k : KernelModel) → M
    → RunsPart M (add_directory label room) k k t (Err Stopped)
before_adding t label room k memory =
    part_fails t (ask (MakeContainer room.place.container label)) k k (after_container label room) Stopped
    (before_ask t (MakeContainer room.place.container label) k memory)

-- a directory is added with the expected label
pub adds_so : {M : Type 0} → (t : ℕ) (old new : KernelModel) (label due : Levels) (room : Room) → label ≡ due
    → (result : Result (Unit {0}) CallError)
    → RunsPart M (add_directory label room) old new t result → RunsPart M (add_directory due room) old new t result
adds_so {M} t old new label due room same result runs =
    subst (λ (l : Levels). RunsPart {A = Unit {0}} M (add_directory l room) old new t result) same runs

module _ (accounts : Accounts) (mode : Mode) where
  -- what comes after the thread's own label
  abbrev pub after_own : Room → Levels × Levels → Part (Unit {0})
  after_own room own = add_directory (label_made accounts own.0 mode) room

  -- what is still to do once there is room
  abbrev pub after_room : Room → Program
  after_room room = make_directory accounts mode room (λ (done : Unit {0}). Answers Done)

  -- at first the whole program is left
  pub begun : {M : Type 0} → (roots : Roots) (path : Path) (t : ℕ) (old : KernelModel)
      → Leaves M t (mkdir_program accounts roots path mode) old (find_room roots path after_room) old
  unfolding mkdir_program
  begun roots path t old = record { leads = λ new result on. on }
