-- The running processes, in the order of their names.
use Rattle.std.specs.Prelude.{◌≡◌, ℕ, zero, suc, ◌≤◌, true, T, List, [], ◌∷◌, ◌++◌, length, Option, None, Some, is_some}
use Rattle.std.specs.List.{flat_map, range_with_len}
use Rattle.std.specs.declared.cmp.Ordering.{Ordering}
use Rattle.std.specs.Ordering.{nat_cmp}
use Rattle.std.specs.Cmp.Lexicographic.{slice_cmp}
use Rattle.std.specs.FinMap.{find, is_sorted}
use Rattle.histar_flat.specs.Words.{ProcName, most_numbers}
use Rattle.histar_base.specs.Paths.{from_root}
use Rattle.histar_flat.specs.Classes.{Process}
use Rattle.histar_flat.specs.FlatState.{Flat}
use Rattle.histar_flat.specs.FlatCalls.{if_running, running}

-- a process with its name
abbrev pub Named : Type 0
Named = ProcName × Process

-- the process, if it runs
abbrev pub itself : ProcName → Option Process → List Named
itself me None = []
itself me (Some p) = (me, p) ∷ []

-- the process, if it runs, and then what the function gives for each child that was born to it
abbrev pub and_children : (ℕ → List Named) → ProcName → Option Process → List Named
and_children child me None = []
and_children child me (Some p) = itself me (if_running (Some p)) ++ flat_map child (range_with_len 1 p.born)

-- the running processes at and below a name, down to this many levels: a process before its children, which rise
abbrev pub running_from : ℕ → Flat → ProcName → List Named
running_from zero f me = []
running_from (suc levels) f me = and_children (λ n. running_from levels f (n ∷ me)) me (f.processes me)

-- the running processes, in the order of their names
unfoldable pub running_in : Flat → List Named
running_in f = running_from (suc most_numbers) f []

-- no process has more numbers in its name than can be shown
abbrev pub HaveShownNames : Flat → Type 0
HaveShownNames f = (me : ProcName) → is_some (f.processes me) ≡ true → length me ≤ most_numbers

-- names are ordered as lists of numbers from process 0 on
abbrev pub process_cmp : ProcName → ProcName → Ordering
process_cmp a b = slice_cmp nat_cmp (from_root a) (from_root b)

-- these are exactly the running processes: their names rise, each at most once, and each name is found exactly if it runs
pub record AreRunning (f : Flat) (ps : List Named) : Type 0 where
  pub rising : T (is_sorted process_cmp ps)
  pub each : (me : ProcName) → find process_cmp me ps ≡ running f me
