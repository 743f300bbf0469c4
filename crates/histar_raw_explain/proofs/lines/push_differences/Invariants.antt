-- The invariants and measures of `push_differences` of src/lines.rt.
use Rattle.std.proofs.Common.{◌≡◌, ◌++◌, take}
use Rattle.std.specs.List.{flat_map}
use Rattle.histar_raw_explain.specs.Texts.{difference_line}
use Rattle.histar_raw_explain.proofs.lines.push_differences.Given as goal

abbrev pub invariant-loop-difference : goal.invariant-loop-difference
invariant-loop-difference g l =
    l.text.items
    ≡ l.fn.text.items
    ++ flat_map (difference_line (g.V.Wording.words l.words) l.frame.opening.now l.frame.both l.reason.lower l.reason.upper)
    (take l.difference-index l.difference-items)
