-- Proves the goals of `split_at_first` of src/readers.rt that the search leaves open.
use Rattle.std.proofs.Common.{◌+◌, refl, add-one}
use Rattle.std.proofs.lemmas.List.{take_rest}
use Rattle.histar_flat.proofs.SplitLemmas.{split_found, split_whole}
use Rattle.histar_flat.proofs.readers.split_at_first.Goals as goal

pub returns-in-None-clause-before : goal.returns-in-None-clause-before
returns-in-None-clause-before c = rw (split_whole c.args.separator c.args.text.now c.in-None.ensures) refl

pub returns-in-None-clause-after : goal.returns-in-None-clause-after
returns-in-None-clause-after c = rw (split_whole c.args.separator c.args.text.now c.in-None.ensures) refl

pub returns-in-Some-clause-before : goal.returns-in-Some-clause-before
returns-in-Some-clause-before c =
    let h = c.in-Some.ensures in rw (split_found c.args.separator c.args.text.now c.in-Some.at h.0.high h.0.before h.1)
    refl

pub returns-in-Some-clause-after : goal.returns-in-Some-clause-after
returns-in-Some-clause-after c =
    let h = c.in-Some.ensures in
    rw (split_found c.args.separator c.args.text.now c.in-Some.at h.0.high h.0.before h.1, take_rest c.args.text.now (c.in-Some.at + 1), add-one) refl
