-- The status in the process segment of each process, and its bytes.
use Rattle.std.specs.Prelude.{ℕ, List, ◌∷◌, map, Option, None, Some, is_some}
use Rattle.std.specs.List.{filter, range_with_len}
use Rattle.histar_flat.specs.Words.{ProcName}
use Rattle.histar_flat.specs.Classes.{Process}
use Rattle.histar_layout.specs.declared.status.Child.{Child}
use Rattle.histar_layout.specs.Status.{ProcessStatus, status_bytes}
use Rattle.histar_refinement.specs.Addresses.{AddressNumbers, home_address}
use Rattle.histar_refinement.specs.Addresses.Step.{Status, Inside, Runner}

-- the number, or 0 where there is none
abbrev pub or_zero : Option ℕ → ℕ
or_zero None = 0
or_zero (Some q) = q

-- the numbers of the children that were not killed, by rising numbers
abbrev pub children : (ProcName → Option Process) → ProcName → ℕ → List ℕ
children processes me born = filter (λ n. is_some (processes (n ∷ me))) (range_with_len 1 born)

-- a child of a process, with the numbers of its objects
abbrev pub listed_by : AddressNumbers → ProcName → ℕ → Child
listed_by number me n = record { number = n; container = or_zero (number (home_address (n ∷ me))); segment = or_zero (number (Status ∷ home_address (n ∷ me))) }

-- the status in the segment of a process
abbrev pub status_by : (ProcName → Option Process) → AddressNumbers → ProcName → Process → ProcessStatus
status_by processes number me p = record {
  exited = p.exited;
  born = p.born;
  internal = or_zero (number (Inside ∷ home_address me));
  thread = or_zero (number (Runner ∷ Inside ∷ home_address me));
  children = map (listed_by number me) (children processes me p.born);
}

-- the bytes of a process's segment
abbrev pub process_bytes : (ProcName → Option Process) → AddressNumbers → ProcName → Process → List ℕ
process_bytes processes number me p = status_bytes (status_by processes number me p)
