-- Proves the goals of `keep_reply` of src/whole.rt that the search leaves open.
use Rattle.std.proofs.Common.{◌∙◌, ap}
use Rattle.std.proofs.lemmas.Result.{on_ok_weaker}
use Rattle.histar_comparison.specs.Replies.{once_done}
use Rattle.histar_comparison.proofs.Kept.{reply_kept}
use Rattle.histar_comparison.proofs.whole.keep_reply.Goals as goal

pub returns-clause-ok : goal.returns-clause-ok
returns-clause-ok g c =
    let directory = c.once_done-done.ensures ∙ ap (λ d. once_done d c.args.call.now.call) c.directory.ensures in
    on_ok_weaker c.show.result
    (reply_kept c.args.job.now c.args.kept.now c.follow.new.self c.show.new.self
    (record { call = c.args.call.now; reply = c.args.reply.now }) _ _ _ c.wrap_path-wraps.ensures directory
    c.reveals-reveals.ensures c.follow.ensures)
    c.show.ensures.ok
