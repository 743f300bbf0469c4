-- How the code of `create` runs its program, from one part to the next.
use Rattle.std.proofs.Common.{◌≡◌, ℕ, [], Result, Err, subst}
use Rattle.std.specs.FinMap as map
use Rattle.histar_flat.specs.Words.{Path}
use Rattle.histar_flat.specs.declared.calls.Mode.{Mode}
use Rattle.histar_flat.specs.declared.replies.Reply.TheVariants.{Done}
use Rattle.histar_flat.specs.Accounts.{Accounts}
use Rattle.histar_level.specs.Levels.{Levels}
use Rattle.histar_rules.specs.declared.raw.RawCall.TheVariants.{MakeSegment}
use Rattle.histar_syscall.specs.KernelModel.{KernelModel}
use Rattle.histar_layout.specs.Categories.{label_made}
use Rattle.histar_layout.specs.Directory.{Entries}
use Rattle.histar_layout.specs.declared.entry.Target.TheVariants.{File}
use Rattle.histar_programs.specs.declared.call_error.CallError.{CallError}
use Rattle.histar_programs.specs.declared.call_error.CallError.TheVariants.{Stopped}
use Rattle.histar_programs.specs.declared.find.Room.{Room}
use Rattle.histar_programs.specs.declared.roots.Roots.{Roots}
use Rattle.histar_programs.specs.Programs.{Program, Part, RunsPart}
use Rattle.histar_programs.specs.Programs.Program.{Answers}
use Rattle.histar_programs.specs.Parts.{ask, find_room, write_entries}
use Rattle.histar_calls.specs.Create.{add_file, create_program, make_file}
use Rattle.histar_programs.proofs.Exits.{Leaves}
use Rattle.histar_programs.proofs.Running.{before_ask, part_fails}

-- the entries of the directory, with the new file
abbrev pub grown : Room → ℕ → Entries
grown room file = map.insert room.entries room.name (File file)

-- what comes after the segment
abbrev pub after_segment : Room → ℕ → Part (Unit {0})
after_segment room file = write_entries room.place (grown room file)

-- memory ran out before a file was added
pub before_adding : {M : Type 0} → (t : ℕ) (label : Levels) (room : Room) (k : KernelModel) → M
    → RunsPart M (add_file label room) k k t (Err Stopped)
before_adding t label room k memory =
    part_fails t (ask (MakeSegment room.place.container label [])) k k (after_segment room) Stopped
    (before_ask t (MakeSegment room.place.container label []) k memory)

-- a file is added with the expected label
pub adds_so : {M : Type 0} → (t : ℕ) (old new : KernelModel) (label due : Levels) (room : Room) → label ≡ due
    → (result : Result (Unit {0}) CallError)
    → RunsPart M (add_file label room) old new t result → RunsPart M (add_file due room) old new t result
adds_so {M} t old new label due room same result runs =
    subst (λ (l : Levels). RunsPart {A = Unit {0}} M (add_file l room) old new t result) same runs

module _ (accounts : Accounts) (mode : Mode) where
  -- what comes after the thread's own label
  abbrev pub after_own : Room → Levels × Levels → Part (Unit {0})
  after_own room own = add_file (label_made accounts own.0 mode) room

  -- what is still to do once there is room
  abbrev pub after_room : Room → Program
  after_room room = make_file accounts mode room (λ (done : Unit {0}). Answers Done)

  -- at first the whole program is left
  pub begun : {M : Type 0} → (roots : Roots) (path : Path) (t : ℕ) (old : KernelModel)
      → Leaves M t (create_program accounts roots path mode) old (find_room roots path after_room) old
  unfolding create_program
  begun roots path t old = record { leads = λ new result on. on }
