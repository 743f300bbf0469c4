-- Proves the goals of `thread_labels` of src/birth.rt that the search leaves open.
use Rattle.std.proofs.Common.{ℕ, List, ◌∷◌, sym, ap, ◌∙◌}
use Rattle.histar_level.specs.declared.level.Level.{Level}
use Rattle.histar_level.specs.declared.level.Level.TheVariants.{L2, L3}
use Rattle.histar_layout.specs.Labelling.{labelled}
use Rattle.histar_layout.proofs.LabellingLemmas.{each_at-append}
use Rattle.histar_process.proofs.birth.thread_labels.Goals as goal

pub returns-clause-clearance : goal.returns-clause-clearance
returns-clause-clearance g c =
    let child = c.args.newborn.now in
    let owned : List ℕ = child.read ∷ child.write ∷ child.owned.now in
    c.in_ok-clearance.ensures.ok ∙ ap (λ (es : List (ℕ × Level)). labelled es L2) (sym (each_at-append L3 owned _))
