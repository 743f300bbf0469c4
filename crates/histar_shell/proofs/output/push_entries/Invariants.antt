-- The invariants and measures of `push_entries` of src/output.rt.
use Rattle.std.proofs.Common.{◌≡◌, ◌++◌, take}
use Rattle.std.specs.List.{flat_map}
use Rattle.histar_flat.specs.Texts.{entry_text}
use Rattle.histar_shell.proofs.output.push_entries.Given as goal

abbrev pub invariant-loop-entry : goal.invariant-loop-entry
invariant-loop-entry g l = l.line.items ≡ l.fn.line.items ++ flat_map entry_text (take l.entry-index l.entries)
