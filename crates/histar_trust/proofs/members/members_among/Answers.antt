-- Proves the goals of `members_among` of src/members.rt that the search leaves open.
use Rattle.std.proofs.Common.{rules, sym, ap, ◌∙◌, ◌++◌, [], append-nil}
use Rattle.std.specs.Prelude.{Option}
use Rattle.std.specs.Global.{Vec}
use Rattle.std.specs.List.{cons_option}
use Rattle.histar_secrecy.specs.declared.role.Member.{Member}
use Rattle.histar_trust.specs.Findings.{running_node}
use Rattle.histar_trust.proofs.Pieces.{kept_more, members_more}
use Rattle.histar_trust.proofs.members.members_among.Goals as goal
use Rattle.histar_trust.proofs.members.members_among.Goals.{in-Some+in_ok-push, in_default}

pub loop-process-preserved : goal.loop-process-preserved
loop-process-preserved c =
    members_more c.loop-process.members.items c.in_ok-member.field-0 c.loop-process.invariant c.in_ok-member.ensures
    (kept_more running_node c.args.processes.now c.loop-process.process-index c.process-item.result (search rules) c.process-item.is)
    (elim c.match-branch-2.branch [
      | in-Some+in_ok-push w ↦
          ap (λ (v : Vec Member). v.items) w.members-is ∙ w.in_ok-push.ensures.items
          ∙ ap (λ (o : Option Member). c.loop-process.members.items ++ cons_option o []) (sym w.in-Some.is)
      | in_default w ↦
          ap (λ (v : Vec Member). v.items) w.members-is ∙ sym (append-nil c.loop-process.members.items)
          ∙ ap (λ (o : Option Member). c.loop-process.members.items ++ cons_option o []) (sym w.in_default.is)
    ])
