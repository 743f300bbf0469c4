-- Proves the goals of `run_calls` of src/whole.rt that the search leaves open.
use Rattle.std.proofs.Common.{List, subst}
use Rattle.histar_flat.specs.declared.replies.Reply.{Reply}
use Rattle.histar_comparison.specs.Whole.{KeepsAnswers}
use Rattle.histar_comparison.proofs.whole.run_calls.Goals as goal

pub show_tree-requires : goal.show_tree-requires
show_tree-requires g c = c.requires _ _ _ c.in_ok-answer_calls.ensures.ok

pub returns-clause-ok : goal.returns-clause-ok
returns-clause-ok g c = record {
  replies = subst
      (λ (old : List Reply). KeepsAnswers c.args.machine.now c.answer_calls.new.machine old c.answer_calls.new.replies.items c.args.calls.items)
      c.new-replies.ensures.items c.in_ok-answer_calls.ensures.ok;
  tree = c.in_ok-tree.ensures.ok;
}
