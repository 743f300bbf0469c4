-- The parts of a process segment's bytes, and the law of its spelling.
use Rattle.std.specs.Prelude.{◌≡◌, ℕ, ◌<◌, ◌≤◌, not, ◌==◌, List, ◌∷◌, ◌++◌, length, Some, slice_index}
use Rattle.std.specs.Int.{w64, to_be_bytes}
use Rattle.std.specs.List.{flat_map, filter}
use Rattle.histar_flat.specs.Words.{most_children}
use Rattle.histar_layout.specs.Status.{ProcessStatus, IsStatus, child_bytes, head_of, life_bytes, status_in}
use Rattle.histar_layout.specs.declared.status.Child.{Child}
use Rattle.histar_layout.specs.declared.status.StatusHead.{StatusHead}

-- the bytes of the head of a process segment
abbrev pub head_bytes : StatusHead → List ℕ
head_bytes head = life_bytes head.exited ++ (head.born ∷ to_be_bytes w64 head.internal) ++ to_be_bytes w64 head.thread

-- the bytes are a process segment with this head and these bytes of children
pub record IsSplit (bytes : List ℕ) (head : StatusHead) (children : List ℕ) : Type 0 where
  pub status : ProcessStatus
  pub status_is : status_in bytes ≡ Some status
  pub head_is : head ≡ head_of status
  pub children_are : children ≡ flat_map child_bytes status.children

-- the children that have other numbers
abbrev pub others : ℕ → List Child → List Child
others number children = filter (λ (child : Child). not (child.number == number)) children

-- the children of other numbers are appended to the old bytes, as they are in the listed ones
abbrev pub AppendsOthers : ℕ → List ℕ → List ℕ → List ℕ → Type 0
AppendsOthers number listed old new = (children : List Child) → listed ≡ flat_map child_bytes children → new ≡ old ++ flat_map child_bytes (others number children)

-- the process of this segment can have one more child
abbrev pub HasRoomForChild : List ℕ → Type 0
HasRoomForChild bytes = (status : ProcessStatus) → status_in bytes ≡ Some status → status.born < most_children

-- A status that is read from bytes is spelled by them; and a spelled one, with no more children than a process can have, is read again.
pub record StatusesAreSpelled : Type 0 where
  pub read_is_spelled : (bytes : List ℕ) (status : ProcessStatus) → ((i : ℕ) → slice_index bytes i < 256) → status_in bytes ≡ Some status → IsStatus bytes status
  pub spelled_is_read : (bytes : List ℕ) (status : ProcessStatus) → IsStatus bytes status → length status.children ≤ most_children → status_in bytes ≡ Some status
