-- The bytes of a process segment.
use Rattle.std.specs.Prelude.{◌≡◌, ℕ, zero, suc, ◌+◌, ◌<◌, ◌^◌, not, cond, ◌&&◌, ◌==◌, List, [], ◌∷◌, ◌++◌, Option, None, Some, Result, Ok, Err}
use Rattle.std.specs.Prelude.{if◌then◌else◌}
use Rattle.std.specs.Int.{w64, to_be_bytes}
use Rattle.std.specs.List.{flat_map, filter, AllByRecursion}
use Rattle.histar_flat.specs.Words.{most_children}
use Rattle.histar_layout.specs.Reading.{◌>>=◌, number_at}
use Rattle.histar_layout.specs.declared.status.Child.{Child}
use Rattle.histar_layout.specs.declared.status.StatusHead.{StatusHead}
use Rattle.histar_layout.specs.declared.status.NotAStatus.{NotAStatus}

-- the content of a process segment: the number that the process has exited with, if it has; the number of children that were born; its
-- internal container and its thread, or 0 once it has exited; and the children that were not killed, by rising numbers
pub record ProcessStatus : Type 0 where
  pub exited : Option ℕ
  pub born : ℕ
  pub internal : ℕ
  pub thread : ℕ
  pub children : List Child

-- `r`, where a process runs
abbrev pub runs : ℕ
runs = 114

-- `x`, where a process has exited
abbrev pub has_exited : ℕ
has_exited = 120

-- `r` and a zero where the process runs, and otherwise `x` and the number that it has exited with
abbrev pub life_bytes : Option ℕ → List ℕ
life_bytes None = runs ∷ 0 ∷ []
life_bytes (Some n) = has_exited ∷ n ∷ []

-- a child in the bytes of a process segment
abbrev pub child_bytes : Child → List ℕ
child_bytes child = (child.number ∷ to_be_bytes w64 child.container) ++ to_be_bytes w64 child.segment

-- the bytes of a process segment with this content
abbrev pub status_bytes : ProcessStatus → List ℕ
status_bytes status =
    life_bytes status.exited
    ++ (status.born ∷ to_be_bytes w64 status.internal) ++ to_be_bytes w64 status.thread
    ++ flat_map child_bytes status.children

-- both objects of a child have numbers of 64 bits
abbrev pub IsChild : Child → Type 0
IsChild child = (child.container < 2 ^ 64) × (child.segment < 2 ^ 64)

-- the bytes are a process segment with this content
pub record IsStatus (bytes : List ℕ) (status : ProcessStatus) : Type 0 where
  pub internal : status.internal < 2 ^ 64
  pub thread : status.thread < 2 ^ 64
  pub each : AllByRecursion IsChild status.children
  pub spelled : bytes ≡ status_bytes status

-- the child with this number
abbrev pub child_at : List Child → ℕ → Option Child
child_at [] n = None
child_at (child ∷ more) n = cond (child.number == n) (Some child) (child_at more n)

-- whether a process runs, or the number that it has exited with
abbrev pub life_in : ℕ → ℕ → Option (Option ℕ)
life_in letter number =
    if letter == runs && number == 0 then Some None
    else (if letter == has_exited then Some (Some number) else None)

-- the head of a process segment, and the bytes after it
unfoldable pub head_in : List ℕ → Option (StatusHead × List ℕ)
head_in (letter ∷ number ∷ born ∷ bytes) = do
  exited ← life_in letter number
  internal ← number_at bytes
  thread ← number_at internal.1
  Some (record { exited = exited; born = born; internal = internal.0; thread = thread.0 }, thread.1)
head_in _ = None

-- the child at the front, and the bytes after it
unfoldable pub child_in : List ℕ → Option (Child × List ℕ)
child_in [] = None
child_in (number ∷ bytes) = do
  container ← number_at bytes
  segment ← number_at container.1
  Some (record { number = number; container = container.0; segment = segment.0 }, segment.1)

-- the children that bytes list, if there are at most this many
unfoldable pub children_in : ℕ → List ℕ → Option (List Child)
children_in most [] = Some []
children_in zero (b ∷ bytes) = None
children_in (suc most) (b ∷ bytes) = do
  child ← child_in (b ∷ bytes)
  more ← children_in most child.1
  Some (child.0 ∷ more)

-- the content of a process segment in bytes, if they are one
unfoldable pub status_in : List ℕ → Option ProcessStatus
status_in bytes = do
  head ← head_in bytes
  children ← children_in most_children head.1
  Some (record { exited = head.0.exited; born = head.0.born; internal = head.0.internal; thread = head.0.thread; children = children })

-- the head of a process segment with this content
abbrev pub head_of : ProcessStatus → StatusHead
head_of status = record { exited = status.exited; born = status.born; internal = status.internal; thread = status.thread }

-- the child with this number, or the answer that the bytes are no process segment
abbrev pub look_for : Option ProcessStatus → ℕ → Result (Option Child) NotAStatus
look_for None number = Err (record {})
look_for (Some status) number = Ok (child_at status.children number)

-- the content for a process that has just started: it runs, and no child was born
abbrev pub started : ℕ → ℕ → ProcessStatus
started internal thread = record { exited = None; born = 0; internal = internal; thread = thread; children = [] }

-- the content after the process has exited with this number
abbrev pub once_exited : ℕ → ProcessStatus → ProcessStatus
once_exited number status = record { exited = Some number; born = status.born; internal = 0; thread = 0; children = status.children }

-- the content after one more child was born
abbrev pub with_child_listed : ℕ → ℕ → ProcessStatus → ProcessStatus
with_child_listed container segment status = record status {
  born = status.born + 1;
  children = status.children ++ record { number = status.born + 1; container = container; segment = segment } ∷ [];
}

-- the content after the child of this number was killed
abbrev pub without_child : ℕ → ProcessStatus → ProcessStatus
without_child number status = record status { children = filter (λ (child : Child). not (child.number == number)) status.children }

-- the new bytes have the changed content of the old ones; of old bytes that are no process segment nothing is required
abbrev pub IsChanged : (ProcessStatus → ProcessStatus) → List ℕ → List ℕ → Type 0
IsChanged change old new = (status : ProcessStatus) → status_in old ≡ Some status → new ≡ status_bytes (change status)
