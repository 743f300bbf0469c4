-- The invariants of `bytes_of_lines` of src/undoing.rt.
use Rattle.std.proofs.Common.{◌≡◌, ◌+◌, drop}
use Rattle.histar_dialogue.specs.Talk.{bytes_of_lines}
use Rattle.histar_dialogue.proofs.undoing.bytes_of_lines.Given as goal

abbrev pub invariant-bytes : goal.invariant-bytes
invariant-bytes l =
    l.at + bytes_of_lines l.left (drop l.at l.text) ≡ bytes_of_lines l.lines l.text
