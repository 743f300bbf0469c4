-- Proves the goals of `runners_among` of src/rights_table.rt that the search leaves open.
use Rattle.std.proofs.Common.{rules, sym, ap, ◌∙◌, ◌++◌, [], append-nil}
use Rattle.std.specs.List.{cons_option}
use Rattle.std.specs.Global.{Vec}
use Rattle.histar_diff.specs.declared.table.Runner.{Runner}
use Rattle.histar_access.specs.RightsTable.{runner_of}
use Rattle.histar_access.proofs.RowLemmas.{kept_more}
use Rattle.histar_access.proofs.rights_table.runners_among.Goals as goal
use Rattle.histar_access.proofs.rights_table.runners_among.Goals.{in-Some+in_ok-push, in_default}

pub loop-process-preserved : goal.loop-process-preserved
loop-process-preserved c =
    let more = kept_more runner_of c.args.processes.now c.loop-process.process-index c.process-item.result (search rules) (search rules) in
    elim c.match-runner_of.branch [
      | in-Some+in_ok-push w ↦ let is = sym c.runner_of.ensures ∙ w.in-Some.is in ap (λ (v : Vec Runner). v.items) w.runners-is
          ∙ w.in_ok-push.ensures.items ∙ (λ i. c.loop-process.invariant i ++ cons_option (sym is i) []) ∙ sym more
      | in_default w ↦ let is = sym c.runner_of.ensures ∙ w.in_default.is in ap (λ (v : Vec Runner). v.items) w.runners-is
          ∙ sym (append-nil c.loop-process.runners.items) ∙ (λ i. c.loop-process.invariant i ++ cons_option (sym is i) []) ∙ sym more
    ]
