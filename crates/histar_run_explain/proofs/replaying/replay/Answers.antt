-- Proves the goals of `replay` of src/replaying.rt that the search leaves open.
use Rattle.std.proofs.Common.{sym, ◌∙◌}
use Rattle.histar_run_explain.proofs.Replays.{made_or_failed, skipped}
use Rattle.histar_run_explain.proofs.replaying.replay.Goals as goal

pub returns-then-changes_nothing : goal.returns-then-changes_nothing
returns-then-changes_nothing g c = skipped _ c.args.entry.now (sym c.changes_nothing.ensures ∙ c.if-changes_nothing.true)

pub returns : goal.returns
returns g c =
    made_or_failed c.make_again.result c.args.kernel.now c.make_again.new.kernel c.args.entry.now
    c.make_again.ensures.made c.make_again.ensures.sound
