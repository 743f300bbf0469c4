-- Proves the goals of `ends_refused` of src/colours.rt that the search leaves open.
use Rattle.std.proofs.Common.{sym, ap, ◌∙◌}
use Rattle.std.specs.Prelude.{◌||◌}
use Rattle.histar_output.specs.Colours.{ends_refused}
use Rattle.histar_output.proofs.CutLemmas.{ends_none, ends_on}
use Rattle.histar_output.proofs.colours.ends_refused.Goals as goal

pub returns-then-is_last_refusal : goal.returns-then-is_last_refusal
returns-then-is_last_refusal c =
    sym (c.places.invariant ∙ ends_on c.places.rest.now c.in-Some.after.now c.in-Some.field-0-0.now c.in-Some.ensures.cases.0
    ∙ ap (λ b. b || ends_refused c.in-Some.after.now) (sym c.if-is_last_refusal.ensures))

pub places-preserved : goal.places-preserved
places-preserved c =
    c.places.invariant ∙ ends_on c.places.rest.now c.in-Some.after.now c.in-Some.field-0-0.now c.in-Some.ensures.cases.0
    ∙ ap (λ b. b || ends_refused c.in-Some.after.now) (sym c.if-is_last_refusal.ensures)

pub returns : goal.returns
returns c = sym (c.places.invariant ∙ ends_none c.places.rest.now c.in_default.ensures.cases)
