-- The birth of a child, in the steps of its code.
use Rattle.std.specs.Prelude.{◌≡◌, ℕ, List, [], ◌∷◌, ◌++◌, Some, Result}
use Rattle.histar_rules.specs.declared.raw.RawCall.TheVariants.{MakeCategory, MakeSegment, MakeContainer, MakeThread}
use Rattle.histar_syscall.specs.KernelModel.{KernelModel}
use Rattle.histar_layout.specs.Status.{ProcessStatus, started, status_bytes, status_in, with_child_listed}
use Rattle.histar_programs.specs.declared.call_error.CallError.{CallError}
use Rattle.histar_programs.specs.declared.roots.Home.{Home}
use Rattle.histar_layout.specs.Labelling.{guarded_by, owner_label, cleared_at}
use Rattle.histar_programs.specs.Programs.{Part, RunsPart}
use Rattle.histar_programs.specs.Parts.{◌>>=◌, ◌>>◌, ask}
use Rattle.histar_programs.specs.Kin.{Kin}
use Rattle.histar_process.specs.declared.birth.Body.{Body}
use Rattle.histar_process.specs.declared.birth.Newborn.{Newborn}
use Rattle.histar_process.specs.Birth.{birth}
use Rattle.histar_process.specs.Parts.{write_status}

-- the two categories of the child are made
unfoldable pub make_categories : Part (ℕ × ℕ)
make_categories rest = do
  read ← ask MakeCategory
  write ← ask MakeCategory
  rest (read, write)

-- the container of the child and its internal container are made
unfoldable pub make_containers : ℕ → List ℕ → ℕ → ℕ → Part (ℕ × ℕ)
make_containers parent jobs read write rest = do
  container ← ask (MakeContainer parent (guarded_by jobs (write ∷ [])))
  internal ← ask (MakeContainer container (guarded_by (read ∷ jobs) (write ∷ [])))
  rest (container, internal)

-- the thread of the child is made
abbrev pub make_thread : ℕ → List ℕ → List ℕ → ℕ → ℕ → Part ℕ
make_thread internal owned jobs read write = ask (MakeThread internal (owner_label (read ∷ write ∷ owned) jobs) (cleared_at ((read ∷ write ∷ owned) ++ jobs)))

-- the process segment of the child is made
abbrev pub make_segment : ℕ → List ℕ → ℕ → ℕ → ℕ → Part ℕ
make_segment container jobs write internal thread = ask (MakeSegment container (guarded_by jobs (write ∷ [])) (status_bytes (started internal thread)))

-- what a child that is being born gets from its parent
abbrev pub kin_of_newborn : Newborn → Kin
kin_of_newborn newborn = record { owned = newborn.owned.now; jobs = newborn.jobs.now }

-- the two containers and the thread of the child are made
abbrev pub make_body : ℕ → Kin → ℕ × ℕ → Part Body
make_body parent kin own rest = do
  made ← make_containers parent kin.jobs own.0 own.1
  thread ← make_thread made.1 kin.owned kin.jobs own.0 own.1
  rest (record { container = made.0; internal = made.1; thread = thread })

-- all objects of the child are made, and it is added to its parent's segment
abbrev pub make_objects : Home → ProcessStatus → Kin → ℕ × ℕ → Part (Unit {0})
make_objects parent status kin own rest = do
  body ← make_body parent.container kin own
  segment ← make_segment body.container kin.jobs own.1 body.internal body.thread
  write_status parent (with_child_listed body.container segment status)
  rest tt

-- the objects of a child with these two categories are made, by a thread of the process whose segment has these bytes
abbrev pub MakesObjects : Type 0 → Home → List ℕ → Kin → ℕ × ℕ → KernelModel → KernelModel → ℕ
    → Result (Unit {0}) CallError → Type 0
MakesObjects M parent bytes kin own old new thread result =
    (status : ProcessStatus) → status_in bytes ≡ Some status → RunsPart M (make_objects parent status kin own) old new thread result

-- a child is born to the process whose segment has these bytes: it owns these categories, and is in the jobs of those
abbrev pub RunsBirth : Type 0 → Home → List ℕ → List ℕ → List ℕ → KernelModel → KernelModel → ℕ
    → Result (Unit {0}) CallError → Type 0
RunsBirth M parent bytes owned jobs old new thread result =
    (status : ProcessStatus) → status_in bytes ≡ Some status
    → RunsPart M (birth parent status (record { owned = owned; jobs = jobs })) old new thread result
