-- The invariants and measures of `push_processes` of src/output.rt.
use Rattle.std.proofs.Common.{◌≡◌, ◌++◌, take}
use Rattle.histar_trust.specs.TrustText.{process_lines}
use Rattle.histar_trust.proofs.output.push_processes.Given as goal

abbrev pub invariant-loop-process : goal.invariant-loop-process
invariant-loop-process l = l.text.items ≡ l.fn.text.items ++ process_lines l.word (take l.process-index l.processes)
