-- The invariants and measures of `push_spared` of src/lines.rt.
use Rattle.std.proofs.Common.{◌≡◌, ◌++◌, take}
use Rattle.std.specs.List.{flat_map}
use Rattle.histar_raw_explain.specs.Texts.{spared_text}
use Rattle.histar_raw_explain.proofs.lines.push_spared.Given as goal

abbrev pub invariant-loop-difference : goal.invariant-loop-difference
invariant-loop-difference g l =
    l.text.items
    ≡ l.fn.text.items ++ flat_map (spared_text (g.V.Wording.words l.words)) (take l.difference-index l.spared)
