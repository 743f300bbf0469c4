-- Proves the goals of `check_enter_in` of src/entering.rt that the search leaves open.
use Rattle.std.proofs.Common.{Option, IsSome, sym, ap, ◌∙◌, subst}
use Rattle.histar_level.specs.Levels.{Levels}
use Rattle.histar_object.specs.Objects.{is_thread, entry_there}
use Rattle.histar_rules.specs.declared.entering.Opening.{Opening}
use Rattle.histar_rules.specs.Finds.{no_opening}
use Rattle.histar_rules.proofs.EnteringGates.{enter_checked}
use Rattle.histar_rules.proofs.Observed.{fails_at_denial, object_shown, label_stands, clearance_stands, limit_stands}
use Rattle.histar_rules.proofs.LinkedObjects.{gate_missing}
use Rattle.histar_rules.proofs.entering.check_enter_in.Goals as goal

pub returns-in_err-gate_label-clause-answer : goal.returns-in_err-gate_label-clause-answer
returns-in_err-gate_label-clause-answer g c =
    fails_at_denial _ _ _ c.from_residual-in_err-gate_label.ensures.1
    (gate_missing (g.S.LabelStore.labels c.args.store.now) c.args.table.now c.args.access.now.thread c.args.access.now.container
    c.args.access.now.object c.in_ok-found.ensures.answer _ _ c.in_err-gate_label.ensures.answer)

pub check_opening-requires-clause-own : goal.check_opening-requires-clause-own
check_opening-requires-clause-own g c =
    subst (λ (labels : g.row.S-Id.Denot → Option Levels). IsSome (labels c.in_ok-found.found.own)) (sym c.in_ok-found.ensures.unchanged)
    (label_stands _ c.args.table.now c.requires.stand _ _ c.in_ok-found.ensures.thread)

pub check_opening-requires-clause-own_clearance : goal.check_opening-requires-clause-own_clearance
check_opening-requires-clause-own_clearance g c =
    subst (λ (labels : g.row.S-Id.Denot → Option Levels). IsSome (labels c.in_ok-found.found.own_clearance)) (sym c.in_ok-found.ensures.unchanged)
    (clearance_stands _ c.args.table.now c.requires.stand _ _ _ c.in_ok-found.ensures.thread)

pub check_opening-requires-clause-gate : goal.check_opening-requires-clause-gate
check_opening-requires-clause-gate g c =
    subst (λ (labels : g.row.S-Id.Denot → Option Levels). IsSome (labels c.in_ok-gate_label.gate_label)) (sym c.in_ok-found.ensures.unchanged)
    (label_stands _ c.args.table.now c.requires.stand _ _ c.in_ok-gate_label.ensures.found)

pub check_opening-requires-clause-gate_clearance : goal.check_opening-requires-clause-gate_clearance
check_opening-requires-clause-gate_clearance g c =
    subst (λ (labels : g.row.S-Id.Denot → Option Levels). IsSome (labels c.in_ok-gate_label.gate_clearance)) (sym c.in_ok-found.ensures.unchanged)
    (limit_stands _ c.args.table.now c.requires.stand _ _ _ _ c.in_ok-gate_label.ensures.found)

pub check_opening-requires-clause-wanted : goal.check_opening-requires-clause-wanted
check_opening-requires-clause-wanted g c =
    subst (λ (labels : g.row.S-Id.Denot → Option Levels). IsSome (labels c.args.wanted.label)) (sym c.in_ok-found.ensures.unchanged) c.requires.wanted

pub check_opening-requires-clause-clearance : goal.check_opening-requires-clause-clearance
check_opening-requires-clause-clearance g c =
    subst (λ (labels : g.row.S-Id.Denot → Option Levels). IsSome (labels c.args.wanted.clearance)) (sym c.in_ok-found.ensures.unchanged)
    c.requires.clearance

pub returns-in_err-check_opening-clause-answer : goal.returns-in_err-check_opening-clause-answer
returns-in_err-check_opening-clause-answer g c =
    let opening : Opening g.row.S-Id.Denot =
    record {
      own = (c.in_ok-found.found.own, c.in_ok-found.found.own_clearance);
      gate = (c.in_ok-gate_label.gate_label, c.in_ok-gate_label.gate_clearance);
      wanted = (c.args.wanted.label, c.args.wanted.clearance);
    } in
    fails_at_denial _ _ _ c.from_residual-in_err-check_opening.ensures.1
    (enter_checked (g.S.LabelStore.labels c.args.store.now) c.args.table.now c.args.access.now.thread c.args.access.now.container
    c.args.access.now.object c.args.next c.args.wanted.verify.now opening _ c.in_ok-found.ensures.answer c.in_ok-found.ensures.thread
    c.in_ok-gate_label.ensures.found
    ∙ ap (λ (labels : g.row.S-Id.Denot → Option Levels). no_opening labels opening c.args.wanted.verify.now c.args.next)
    (sym c.in_ok-found.ensures.unchanged)
    ∙ c.in_err-check_opening.ensures.answer)

pub returns-clause-answer : goal.returns-clause-answer
returns-clause-answer g c =
    let opening : Opening g.row.S-Id.Denot =
    record {
      own = (c.in_ok-found.found.own, c.in_ok-found.found.own_clearance);
      gate = (c.in_ok-gate_label.gate_label, c.in_ok-gate_label.gate_clearance);
      wanted = (c.args.wanted.label, c.args.wanted.clearance);
    } in
    enter_checked (g.S.LabelStore.labels c.args.store.now) c.args.table.now c.args.access.now.thread c.args.access.now.container
    c.args.access.now.object c.args.next c.args.wanted.verify.now opening _ c.in_ok-found.ensures.answer c.in_ok-found.ensures.thread
    c.in_ok-gate_label.ensures.found
    ∙ ap (λ (labels : g.row.S-Id.Denot → Option Levels). no_opening labels opening c.args.wanted.verify.now c.args.next)
    (sym c.in_ok-found.ensures.unchanged)
    ∙ c.in_ok-check_opening.ensures.answer

pub returns-clause-thread : goal.returns-clause-thread
returns-clause-thread g c = ap is_thread c.in_ok-found.ensures.thread

pub returns-clause-entry : goal.returns-clause-entry
returns-clause-entry g c =
    sym (ap entry_there (object_shown (g.S.LabelStore.labels c.args.store.now) c.args.table.now c.args.access.now.object _
    c.in_ok-gate_label.ensures.found))
