-- The invariants and measures of `PathDisplay::fmt` of src/paths.rt.
use Rattle.std.proofs.Common.{◌-◌, drop, length}
use Rattle.std.specs.Fmt.{HasWritten, IsPlainFormatter}
use Rattle.histar_flat.specs.Texts.{names_text}
use Rattle.histar_flat.proofs.paths.PathDisplay.fmt.Given as goal

-- the names so far are written, from `/` on
abbrev pub invariant-loop-i : goal.invariant-loop-i
invariant-loop-i g l =
    IsPlainFormatter l.initial.f → HasWritten g.W.Write.write_str_gives l.initial.f (names_text (drop (length l.names - l.i) l.names)) l.f
