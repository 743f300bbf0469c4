-- Proves the goals of `push_but` of src/lines.rt that the search leaves open.
use Rattle.std.proofs.Common.{codes}
use Rattle.std.specs.List.{flat_map}
use Rattle.histar_raw_explain.specs.Texts.{spared_text}
use Rattle.histar_raw_explain.proofs.Pieces.{two_pieces}
use Rattle.histar_raw_explain.proofs.lines.push_but.Goals as goal

pub returns : goal.returns
returns g c =
    two_pieces c.push_spared.result _ _ c.args.text.now.items (codes "but")
    (flat_map (spared_text (g.V.Wording.words c.args.words.now)) c.args.spared.now)
    c.in_ok-extend_from_slice.ensures.items c.push_spared.ensures
