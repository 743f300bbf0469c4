-- Proves the goals of `visitors_among` of src/table.rt that the search leaves open.
use Rattle.std.proofs.Common.{rules, sym, ap, ◌∙◌, ◌++◌, [], append-nil}
use Rattle.std.specs.List.{cons_option}
use Rattle.std.specs.Global.{Vec}
use Rattle.histar_cells.specs.declared.cells.Cell.{Cell}
use Rattle.histar_syscall.specs.KernelModel.{state}
use Rattle.histar_access.specs.Cells.{visitor_of}
use Rattle.histar_access.proofs.RowLemmas.{kept_more}
use Rattle.histar_access.proofs.table.visitors_among.Goals as goal
use Rattle.histar_access.proofs.table.visitors_among.Goals.{in-Some+in_ok-push, in_default}

pub loop-process-preserved : goal.loop-process-preserved
loop-process-preserved g c =
    let s = state c.args.machine.now.kernel in
    let roots = c.args.machine.now.roots in
    let more = kept_more (visitor_of s roots) c.args.processes.now c.loop-process.process-index c.process-item.result (search rules)
    (search rules) in
    elim c.match-visitor_at.branch [
      | in-Some+in_ok-push w ↦ let is = sym c.visitor_at.ensures ∙ w.in-Some.is in ap (λ (v : Vec Cell). v.items) w.visitors-is
          ∙ w.in_ok-push.ensures.items ∙ (λ i. c.loop-process.invariant i ++ cons_option (sym is i) []) ∙ sym more
      | in_default w ↦ let is = sym c.visitor_at.ensures ∙ w.in_default.is in ap (λ (v : Vec Cell). v.items) w.visitors-is
          ∙ sym (append-nil c.loop-process.visitors.items) ∙ (λ i. c.loop-process.invariant i ++ cons_option (sym is i) []) ∙ sym more
    ]
