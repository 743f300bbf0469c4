-- Proves the goals of `first_line` of src/replies.rt that the search leaves open.
use Rattle.std.proofs.Common.{arith, ap, sym, ◌∙◌, [], ◌≡◌}
use Rattle.std.proofs.lemmas.List.{nil_from_length}
use Rattle.histar_noninterference.specs.Replies.{first_shown}
use Rattle.histar_noninterference.proofs.ShownReplies.{first_shown-nil}
use Rattle.histar_noninterference.proofs.replies.first_line.Goals as goal

pub returns-in_default-other_rest : goal.returns-in_default-other_rest
returns-in_default-other_rest c =
    let end : c.loop-rest.other_rest.now ≡ [] = nil_from_length c.loop-rest.other_rest.now (omega arith) in
    sym (first_shown-nil c.loop-rest.rest.now) ∙ ap (first_shown c.loop-rest.rest.now) (sym end) ∙ c.loop-rest.invariant
