-- Proves the goals of `push_not_linked` of src/act_texts.rt that the search leaves open.
use Rattle.std.proofs.Common.{codes}
use Rattle.std.specs.Fmt.{decimal}
use Rattle.histar_raw_explain.proofs.Pieces.{three_pieces}
use Rattle.histar_raw_explain.proofs.act_texts.push_not_linked.Goals as goal

pub returns : goal.returns
returns c =
    three_pieces c.extend_from_slice-2.result _ _ _ c.args.text.now.items (codes "container ")
    (decimal c.args.container) (codes " does not link it")
    c.in_ok-extend_from_slice.ensures.items (rw c.number.ensures at c.in_ok-push_number.ensures.ok) c.extend_from_slice-2.ensures.items
