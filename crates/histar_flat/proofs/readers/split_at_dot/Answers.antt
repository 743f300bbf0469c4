-- Proves the goals of `split_at_dot` of src/readers.rt that the search leaves open.
use Rattle.std.proofs.Common.{◌+◌, refl, sym, ◌∙◌, add-one}
use Rattle.std.proofs.lemmas.List.{take_rest}
use Rattle.histar_flat.specs.Words.{dot}
use Rattle.histar_flat.proofs.SplitLemmas.{split_at_position, split_nowhere}
use Rattle.histar_flat.proofs.readers.split_at_dot.Goals as goal

pub returns-in-None-clause-before : goal.returns-in-None-clause-before
returns-in-None-clause-before c = rw (split_nowhere dot c.args.text.now (sym c.dot_in.ensures ∙ c.in-None.is)) refl

pub returns-in-None-clause-after : goal.returns-in-None-clause-after
returns-in-None-clause-after c = rw (split_nowhere dot c.args.text.now (sym c.dot_in.ensures ∙ c.in-None.is)) refl

pub returns-in-Some-clause-before : goal.returns-in-Some-clause-before
returns-in-Some-clause-before c = rw (split_at_position dot c.args.text.now c.in-Some.at (sym c.dot_in.ensures ∙ c.in-Some.is)) refl

pub returns-in-Some-clause-after : goal.returns-in-Some-clause-after
returns-in-Some-clause-after c =
    let text = c.args.text.now in
    rw (split_at_position dot text c.in-Some.at (sym c.dot_in.ensures ∙ c.in-Some.is), take_rest text (c.in-Some.at + 1), add-one) refl
