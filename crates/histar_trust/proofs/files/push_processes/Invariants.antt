-- The invariants and measures of `push_processes` of src/files.rt.
use Rattle.std.proofs.Common.{◌≡◌, ◌++◌, take}
use Rattle.std.specs.List.{flat_map}
use Rattle.histar_trust.specs.Secrets.{process_mark}
use Rattle.histar_trust.proofs.files.push_processes.Given as goal

abbrev pub invariant-loop-process : goal.invariant-loop-process
invariant-loop-process l = l.text.items ≡ l.fn.text.items ++ flat_map (process_mark l.word) (take l.process-index l.processes)
