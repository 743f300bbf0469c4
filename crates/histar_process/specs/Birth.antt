-- The birth of a child: its two categories, its container, its internal container, its thread and its process segment are made, and it
-- is added to its parent's segment.
use Rattle.std.specs.Prelude.{ℕ, [], ◌∷◌, ◌++◌}
use Rattle.histar_rules.specs.declared.raw.RawCall.TheVariants.{MakeCategory, MakeSegment, MakeContainer, MakeThread}
use Rattle.histar_level.specs.Levels.{Levels}
use Rattle.histar_layout.specs.Status.{ProcessStatus, started, status_bytes, with_child_listed}
use Rattle.histar_programs.specs.declared.roots.Home.{Home}
use Rattle.histar_layout.specs.Labelling.{guarded_by, owner_label, cleared_at}
use Rattle.histar_programs.specs.Programs.{Part}
use Rattle.histar_programs.specs.Parts.{◌>>=◌, ◌>>◌, ask}
use Rattle.histar_programs.specs.Kin.{Kin}
use Rattle.histar_process.specs.Parts.{write_status}

-- the label of the child's container and of its process segment: it alone writes them, and they are secret to its jobs
abbrev pub outer_label : Kin → ℕ → Levels
outer_label kin write = guarded_by kin.jobs (write ∷ [])

-- the label of the child's internal container, which is secret to the child too
abbrev pub inner_label : Kin → ℕ → ℕ → Levels
inner_label kin read write = guarded_by (read ∷ kin.jobs) (write ∷ [])

-- the label of the child's thread, which owns the child's two categories and kin.owned, and has the categories of its jobs at 3
abbrev pub thread_label : Kin → ℕ → ℕ → Levels
thread_label kin read write = owner_label (read ∷ write ∷ kin.owned) kin.jobs

-- the clearance of the child's thread
abbrev pub thread_clearance : Kin → ℕ → ℕ → Levels
thread_clearance kin read write = cleared_at ((read ∷ write ∷ kin.owned) ++ kin.jobs)

-- the raw calls of a birth, by a thread of the parent, whose segment holds this status
unfoldable pub birth : Home → ProcessStatus → Kin → Part (Unit {0})
birth parent status kin rest = do
  read ← ask MakeCategory
  write ← ask MakeCategory
  container ← ask (MakeContainer parent.container (outer_label kin write))
  internal ← ask (MakeContainer container (inner_label kin read write))
  thread ← ask (MakeThread internal (thread_label kin read write) (thread_clearance kin read write))
  segment ← ask (MakeSegment container (outer_label kin write) (status_bytes (started internal thread)))
  write_status parent (with_child_listed container segment status)
  rest tt
