-- Proves the goals of `push_every` of src/lines.rt that the search leaves open.
use Rattle.std.proofs.Common.{◌++◌, ap, ◌∙◌, append_assoc, codes}
use Rattle.histar_raw_explain.specs.Texts.{elsewhere_text}
use Rattle.histar_raw_explain.proofs.Pieces.{three_pieces}
use Rattle.histar_raw_explain.proofs.lines.push_every.Goals as goal

pub returns : goal.returns
returns g c =
    three_pieces c.extend_from_slice-3.result _ _ _ c.args.text.now.items
    (c.args.opening.now ++ codes "at all categories ")
    (elsewhere_text (g.V.Wording.words c.args.words.now) c.args.spared.now) (codes ": ")
    (c.in_ok-extend_from_slice-2.ensures.items
    ∙ ap (λ l. l ++ codes "at all categories ") c.in_ok-extend_from_slice.ensures.items
    ∙ append_assoc c.args.text.now.items c.args.opening.now (codes "at all categories "))
    c.in_ok-push_elsewhere.ensures c.extend_from_slice-3.ensures.items
