-- Proves the goals of `recall` of src/intern_store.rt that the search leaves open.
use Rattle.std.proofs.Common.{◌∙◌}
use Rattle.lru.proofs.CallerLemmas.{Contains-promoted}
use Rattle.histar_label.proofs.Remembered.{is_same_comparison, found_if}
use Rattle.histar_label.proofs.intern_store.recall.Goals as goal

pub returns-clause-found : goal.returns-clause-found
returns-clause-found c = found_if c.args.answers.now.entries c.args.comparison c.copied.result (c.copied.ensures ∙ c.get.ensures.value)

pub returns-clause-kept : goal.returns-clause-kept
returns-clause-kept c e there =
    Contains-promoted (is_same_comparison c.args.comparison) c.args.answers.now.entries e
    (rw c.get.follows.holds-at-none at there)
