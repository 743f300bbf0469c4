-- Proves the goals of `explain` of src/explain_denial.rt that the search leaves open.
use Rattle.histar_explain.proofs.Shown.{all_shown}
use Rattle.histar_explain.proofs.Keys.{keys_are_lacking}
use Rattle.histar_explain.proofs.Grounds.{denials_have_grounds}
use Rattle.histar_syscall.specs.KernelModel.{state}
use Rattle.histar_explain.specs.Named.{label_in}
use Rattle.histar_explain.specs.Tests.{tests}
use Rattle.histar_explain.proofs.explain_denial.explain.Goals as goal

pub returns : goal.returns
returns g c = record {
  is =
      record {
        act = c.act_of.ensures;
        unmade = rw c.next_category.ensures at c.in_ok-unmade.ensures;
        reasons = c.in_ok-reasons.ensures;
        obstacle = c.obstacle_of.ensures;
      };
  exact =
      all_shown (tests (state c.args.kernel.now) c.args.thread c.args.call.now c.args.denied)
      c.in_ok-reasons.field-0.items c.in_ok-reasons.ensures;
  keys = keys_are_lacking (state c.args.kernel.now) c.args.thread (label_in (state c.args.kernel.now) c.args.thread) c.args.call.now c.args.denied;
  grounds = denials_have_grounds (state c.args.kernel.now) c.args.thread c.args.call.now c.args.denied;
}
