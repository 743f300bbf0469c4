-- Proves the goals of `take_away` of src/entry.rt that the search leaves open.
use Rattle.histar_rules.specs.declared.raw.RawCall.TheVariants.{Unlink}
use Rattle.histar_programs.proofs.Running.{grants, refuses, fails_so}
use Rattle.histar_moves.proofs.TakingAway.{writes_due, unlinks, unlink_fails, takes_away}
use Rattle.histar_moves.proofs.entry.take_away.Goals as goal

pub returns-in_err-unlink : goal.returns-in_err-unlink
returns-in_err-unlink g c =
    let end = c.unlink.new.self in
    fails_so _ _ _ end _ _ c.from_residual.ensures.1 (unlink_fails _ _ end _ _ (unlinks _ _ end c.args.entry _ c.object.ensures _ (refuses _
    _ _ end _ _ c.in_err-unlink.ensures.ok c.in_err-unlink.ensures.memory)))

pub returns : goal.returns
returns g c =
    let mid = c.unlink.new.self in
    let end = c.write_entries.new.kernel in
    takes_away _ _ end _ mid (unlinks _ _ mid c.args.entry _ c.object.ensures _ (grants _
    (Unlink c.args.entry.place.container c.object.result) _ mid tt c.in_ok-unlink.ensures.ok.0 c.in_ok-unlink.ensures.ok.1)) _
    (writes_due _ mid end _ _ _ c.remove.ensures.without _ c.write_entries.ensures)
