-- The invariants and measures of `pull_line` of src/input.rt.
use Rattle.std.proofs.Common.{◌≡◌, ℕ, ◌-◌, ◌^◌, false, List, ◌++◌, length, vec_len}
use Rattle.std.specs.Io.KnownBytes.{Consumes}
use Rattle.histar_dialogue.proofs.input.Input.pull_line.Given as goal

abbrev pub invariant-chunks : goal.invariant-chunks
invariant-chunks g l = record {
  taken : List ℕ;
  consumed : Consumes (g.R.Source.left l.fn.reader) (g.R.Source.left l.reader) taken;
  waits : l.self.waiting.items ≡ l.fn.self.waiting.items ++ taken;
  going : l.self.is_ended ≡ false;
  count : g.R.Source.failures l.reader ≡ g.R.Source.failures l.fn.reader;
  chunk : length l.chunk ≡ 4096;
}

abbrev pub decreases-chunks : goal.decreases-chunks
decreases-chunks g l = 2 ^ 64 - vec_len l.self.waiting
