-- Proves the goals of `first_difference` of src/trees.rt that the search leaves open.
use Rattle.std.proofs.Common.{[], ap, arith, sym, ◌∙◌, ◌≡◌}
use Rattle.std.proofs.lemmas.List.{nil_from_length}
use Rattle.histar_noninterference.specs.Trees.{first_difference, is_below_either}
use Rattle.histar_noninterference.proofs.TreeLines.{first_difference-nil}
use Rattle.histar_noninterference.proofs.trees.first_difference.Goals as goal

pub returns-in_default-other_rest : goal.returns-in_default-other_rest
returns-in_default-other_rest c =
    let left_out = is_below_either c.args.directory c.args.other in
    let end : c.loop-rest.other_rest.now ≡ [] = nil_from_length c.loop-rest.other_rest.now (omega arith) in
    c.first_kept.ensures ∙ sym (first_difference-nil left_out c.loop-rest.rest.now)
    ∙ ap (first_difference left_out c.loop-rest.rest.now) (sym end) ∙ c.loop-rest.invariant
