-- Proves the goals of `node_at` of src/tree.rt that the search leaves open.
use Rattle.std.proofs.Common.{ℕ, refl, sym, ap, ◌∙◌}
use Rattle.std.proofs.lemmas.Option.{MatchOption-at_some}
use Rattle.histar_object.specs.Objects.{label_there}
use Rattle.histar_syscall.specs.KernelModel.{state}
use Rattle.histar_layout.specs.declared.class.Class.{Class}
use Rattle.histar_layout.specs.ClassLabels.{IsClassLabel}
use Rattle.histar_readout.proofs.tree.node_at.Goals as goal

pub returns-clause-finds : goal.returns-clause-finds
returns-clause-finds g c =
    let label = c.in-Some.label.now in
    record {
      path_is = refl;
      target_is = refl;
      label = label;
      label_is = sym (c.in-Some.ensures ∙ ap (λ (o : ℕ). label_there ((state c.args.source.now.kernel.now).objects o)) c.object.ensures);
      of_class =
          MatchOption-at_some _ (λ (class : Class). IsClassLabel c.args.source.now.users.now class label) c.in-Some-2.class
          c.in-Some-2.is c.in_ok-class.ensures.ok;
    }
