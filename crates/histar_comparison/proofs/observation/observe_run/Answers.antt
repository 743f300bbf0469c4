-- Proves the goals of `observe_run` of src/observation.rt that the search leaves open.
use Rattle.histar_comparison.specs.Observation.{KeepsReplies}
use Rattle.std.proofs.Common.{subst}
use Rattle.histar_comparison.proofs.observation.observe_run.Goals as goal

pub show_tree-requires : goal.show_tree-requires
show_tree-requires g c = c.requires _ _ _ c.in_ok-observe_calls.ensures.ok

pub returns-clause-ok : goal.returns-clause-ok
returns-clause-ok g c = record {
  replies = subst
      (λ old. KeepsReplies c.args.job.now c.args.machine.now c.observe_calls.new.machine old c.observe_calls.new.replies c.args.calls.items)
      c.new-replies.ensures c.in_ok-observe_calls.ensures.ok;
  tree = c.in_ok-tree.ensures.ok;
}
