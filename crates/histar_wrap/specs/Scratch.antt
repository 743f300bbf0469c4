-- The scratch directory of a job, and the thread that holds the job.
use Rattle.std.specs.Prelude.{ℕ, false, List, [], ◌∷◌, ◌++◌, length, Option, None, Some, Result, Ok, Err}
use Rattle.std.specs.FinMap as map
use Rattle.histar_flat.specs.Accounts.{Accounts}
use Rattle.histar_flat.specs.declared.replies.Errno.{Errno}
use Rattle.histar_flat.specs.declared.replies.Reply.TheVariants.{Refused}
use Rattle.histar_level.specs.declared.level.Level.TheVariants.{Star, L3}
use Rattle.histar_level.specs.Levels.{Levels}
use Rattle.histar_label.specs.Levels.{with_level}
use Rattle.histar_rules.specs.declared.raw.Denied.{Denied}
use Rattle.histar_rules.specs.declared.raw.RawCall.{RawCall}
use Rattle.histar_rules.specs.declared.raw.RawCall.TheVariants.{MakeContainer, MakeSegment, SetLabel, SetClearance}
use Rattle.histar_layout.specs.declared.entry.Target.TheVariants.{Directory}
use Rattle.histar_programs.specs.declared.find.Room.{Room}
use Rattle.histar_layout.specs.Categories.{scratch_label, user_of}
use Rattle.histar_layout.specs.Jobs.{jobs_in}
use Rattle.histar_programs.specs.Refusals.{errno_for}
use Rattle.histar_programs.specs.Programs.{AnswerOf, Program, Part}
use Rattle.histar_programs.specs.Programs.Program.{Answers, Asks, Stops}
use Rattle.histar_programs.specs.Parts.{◌>>=◌, ◌>>◌, ask, write_entries}
use Rattle.histar_programs.specs.Kin.{Kin, owned_by}

-- the jobs that a thread of this label is in, and one more
abbrev pub jobs_with : Levels → ℕ → List ℕ
jobs_with own job = jobs_in own ++ job ∷ []

-- the label of a scratch directory that a thread of this label makes for a new job: it is secret to its user and to the jobs
abbrev pub directory_label : Accounts → Levels → ℕ → Levels
directory_label accounts own job = scratch_label (user_of own (length accounts.users)) (jobs_with own job)

-- what the first process of a new job gets from its wrapper: it reads as its user, and is in one job more
abbrev pub kin_in : Accounts → Levels → ℕ → Kin
kin_in accounts own job = record { owned = owned_by accounts (user_of own (length accounts.users)) false; jobs = jobs_with own job }

-- a raw call that may not be refused: its denial stops the program
abbrev pub or_stops : {A : Type 0} → (A → Program) → Result A Denied → Program
or_stops rest (Ok answer) = rest answer
or_stops rest (Err denied) = Stops

-- the thread takes its own label and clearance again, and the reply is this errno
abbrev pub give_back : Levels × Levels → Errno → Program
give_back own errno = Asks (SetLabel own.0) (or_stops (λ _. Asks (SetClearance own.1) (or_stops (λ _. Answers (Refused errno)))))

-- the same for a denial; one that has no errno stops the program
abbrev pub gives_back_with : Levels × Levels → Option Errno → Program
gives_back_with own None = Stops
gives_back_with own (Some errno) = give_back own errno

-- goes on with the answer of a raw call, or gives up what was taken and replies the errno of its denial
abbrev pub or_given_back : {A : Type 0} → Levels × Levels → (Denied → Option Errno) → (A → Program) → Result A Denied → Program
or_given_back own errno rest (Ok answer) = rest answer
or_given_back own errno rest (Err denied) = gives_back_with own (errno denied)

-- asks the kernel; after a denial what was taken is given up, and the reply is the denial's errno
abbrev pub ask_or_give_back : Levels × Levels → (call : RawCall) → Part (AnswerOf call)
ask_or_give_back own call rest = Asks call (or_given_back own (errno_for call) rest)

-- A scratch directory is made: a container with this label, unless the kernel refuses it; an empty directory segment in it with the
-- same label; and the entry in the directory above.
unfoldable pub make_scratch : Levels × Levels → Levels → Room → Part (Unit {0})
make_scratch own label room rest = do
  container ← ask_or_give_back own (MakeContainer room.place.container label)
  listing ← ask (MakeSegment container label [])
  write_entries room.place (map.insert room.entries room.name (Directory container listing))
  rest tt

-- the thread takes its own label and clearance again, but owns the job's category and may have its secrets
unfoldable pub hold_job : Levels × Levels → ℕ → Part (Unit {0})
hold_job own job rest = do
  ask (SetLabel (with_level own.0 job Star))
  ask (SetClearance (with_level own.1 job L3))
  rest tt
