-- Proves the goals of `push_too_long` of src/act_texts.rt that the search leaves open.
use Rattle.std.proofs.Common.{codes}
use Rattle.std.specs.Fmt.{decimal}
use Rattle.histar_raw_explain.proofs.Pieces.{three_pieces}
use Rattle.histar_raw_explain.proofs.act_texts.push_too_long.Goals as goal

pub returns : goal.returns
returns c =
    three_pieces c.extend_from_slice-2.result _ _ _ c.args.text.now.items (codes "it would have ")
    (decimal c.args.bytes) (codes " bytes, more than 4096")
    c.in_ok-extend_from_slice.ensures.items c.in_ok-push_number.ensures.ok c.extend_from_slice-2.ensures.items
