-- Proves the goals of `rights_of` of src/one_path.rt that the search leaves open.
use Rattle.std.proofs.Common.{None, Some, sym, ◌∙◌}
use Rattle.histar_cells.proofs.SpotRights.{found_there, not_running, nowhere, spot_rights}
use Rattle.histar_cells.proofs.one_path.rights_of.Goals as goal

pub returns-in_default : goal.returns-in_default
returns-in_default g c =
    not_running c.args.machine.now c.args.path.now c.args.process.now (sym c.visitor_at.ensures ∙ c.in_default.is)

pub returns-in-Some-spot_at : goal.returns-in-Some-spot_at
returns-in-Some-spot_at g c =
    spot_rights c.args.machine.now c.args.path.now c.args.process.now c.in-Some.visitor
    (sym c.visitor_at.ensures ∙ c.in-Some.is) c.in-Some-spot_at.spot
    (found_there c.args.machine.now c.args.path.now c.kernel.result.now c.roots.result.now c.names.result.now c.in-Some.visitor
    (Some c.in-Some-spot_at.spot) c.kernel.ensures c.roots.ensures c.names.ensures.names c.in-Some-spot_at.ensures)

pub returns-in-None : goal.returns-in-None
returns-in-None g c =
    nowhere c.args.machine.now c.args.path.now c.args.process.now c.in-Some.visitor (sym c.visitor_at.ensures ∙ c.in-Some.is)
    (found_there c.args.machine.now c.args.path.now c.kernel.result.now c.roots.result.now c.names.result.now c.in-Some.visitor
    None c.kernel.ensures c.roots.ensures c.names.ensures.names c.in-None.ensures)
