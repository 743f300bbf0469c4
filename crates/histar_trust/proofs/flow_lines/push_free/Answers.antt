-- Proves the goals of `push_free` of src/flow_lines.rt that the search leaves open.
use Rattle.std.proofs.Common.{◌≡◌, ◌∙◌, ◌++◌, true, arith, rules, sym}
use Rattle.std.specs.Prelude.{codes}
use Rattle.std.proofs.lemmas.Result.{on_ok_weaker}
use Rattle.histar_trust.proofs.Pieces.{done_so, from_not_false}
use Rattle.histar_trust.proofs.ShownFlows.{free_added}
use Rattle.histar_trust.proofs.flow_lines.push_free.Goals as goal

pub returns : goal.returns
returns c =
    let some : c.is_one_free.result ≡ true = first_of (assumption c, cc, search (rules, from_not_false), grind (arith, from_not_false)) in
    on_ok_weaker c.extend_from_slice-2.result
    (λ e. free_added c.args.members.now c.args.text.now.items (sym c.is_one_free.ensures ∙ some)
    c.in_ok-extend_from_slice.ensures.items c.in_ok-push_free_names.ensures e)
    (done_so _ (c.push_free_names.new.text.items ++ codes " tell everyone\n") c.push_free_names.new.text.items c.extend_from_slice-2.result
    c.extend_from_slice-2.ensures.items)
