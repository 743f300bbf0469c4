-- The invariants and measures of `read_input` of src/input.rt.
use Rattle.std.proofs.Common.{◌≡◌, ◌-◌, ◌≤◌, length, vec_len}
use Rattle.std.specs.Io.KnownBytes.{Consumes}
use Rattle.histar_io.specs.Input.{most_taken}
use Rattle.histar_io.proofs.input.read_input.Given as goal

abbrev pub invariant-chunks : goal.invariant-chunks
invariant-chunks g l = record {
  taken : Consumes (g.R.Source.left l.fn.reader) (g.R.Source.left l.reader) l.input.items;
  most : vec_len l.input ≤ most_taken;
  count : g.R.Source.failures l.reader ≡ g.R.Source.failures l.fn.reader;
  chunk : length l.chunk ≡ 4096;
}

abbrev pub decreases-chunks : goal.decreases-chunks
decreases-chunks g l = most_taken - vec_len l.input
