-- The invariants and measures of `push_files` of src/titles.rt.
use Rattle.std.proofs.Common.{take}
use Rattle.histar_leak.specs.Findings.{AddsFiles}
use Rattle.histar_leak.proofs.titles.push_files.Given as goal

abbrev pub invariant-loop-path : goal.invariant-loop-path
invariant-loop-path g l = AddsFiles l.snapshot.accounts.now l.machine (take l.path-index l.paths) l.fn.text.items l.text.items
