-- Proves the goals of `behind` of src/colours.rt that the search leaves open.
use Rattle.std.proofs.Common.{Some, None, sym, ◌∙◌}
use Rattle.histar_output.proofs.CutLemmas.{behind_found, behind_none}
use Rattle.histar_output.proofs.colours.behind.Goals as goal

pub returns-in-Some-after_mark : goal.returns-in-Some-after_mark
returns-in-Some-after_mark c =
    sym (c.places.invariant
    ∙ behind_found c.args.mark.now c.places.rest.now c.in-Some.after.now c.in-Some.field-0-0.now
    (Some _) c.in-Some.ensures.cases.0 c.in-Some-after_mark.ensures)

pub places-preserved : goal.places-preserved
places-preserved c =
    c.places.invariant
    ∙ behind_found c.args.mark.now c.places.rest.now c.in-Some.after.now c.in-Some.field-0-0.now None
    c.in-Some.ensures.cases.0 c.in_default-after_mark.ensures

pub returns : goal.returns
returns c = sym (c.places.invariant ∙ behind_none c.args.mark.now c.places.rest.now c.in_default.ensures.cases)
