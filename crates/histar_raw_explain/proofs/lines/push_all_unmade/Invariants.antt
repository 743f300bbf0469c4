-- The invariants and measures of `push_all_unmade` of src/lines.rt.
use Rattle.std.proofs.Common.{◌≡◌, ◌++◌, take}
use Rattle.std.specs.List.{flat_map}
use Rattle.histar_raw_explain.specs.Texts.{unmade_line}
use Rattle.histar_raw_explain.proofs.lines.push_all_unmade.Given as goal

abbrev pub invariant-loop-category : goal.invariant-loop-category
invariant-loop-category g l =
    l.text.items
    ≡ l.fn.text.items
    ++ flat_map (unmade_line (g.V.Wording.words l.words) l.opening) (take l.category-index l.unmade)
