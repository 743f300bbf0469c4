-- Proves the goals of `observe_call` of src/observation.rt that the search leaves open.
use Rattle.std.proofs.Common.{◌∙◌, ap}
use Rattle.std.proofs.lemmas.Result.{on_ok_weaker}
use Rattle.histar_shell.proofs.WantingMemory.{line_shows, line_wants}
use Rattle.histar_comparison.specs.Replies.{once_done}
use Rattle.histar_comparison.proofs.Kept.{reply_kept}
use Rattle.histar_comparison.proofs.observation.observe_call.Goals as goal

pub returns-clause-ok : goal.returns-clause-ok
returns-clause-ok g c =
    let directory = c.once_done-done.ensures ∙ ap (λ d. once_done d c.args.call.call) c.directory.ensures in
    on_ok_weaker c.show.result
    (λ shown. record {
      reply = c.in-Ok.reply;
      answered = c.in-Ok.ensures.answers;
      kept =
          reply_kept c.args.job.now c.args.replies.now c.follow.new.self c.show.new.self
          (record { call = c.args.call; reply = c.in-Ok.reply }) _ _ _ c.wrap_path-wraps.ensures directory
          c.reveals-reveals.ensures c.follow.ensures shown;
    })
    c.show.ensures.ok

pub returns-clause-shows : goal.returns-clause-shows
returns-clause-shows g c =
    let shows =
    line_shows g.H.Heap.Refused _ _ c.args.call.line c.args.call.process c.args.call.call _ c.in-Ok.reply c.in-Ok.is
    c.step.ensures.answers c.step.ensures.means in
    on_ok_weaker c.show.result (λ _. shows) c.show.ensures.ok

pub returns-in_default-clause-memory : goal.returns-in_default-clause-memory
returns-in_default-clause-memory g c =
    line_wants _ _ c.args.call.line c.args.call.process c.args.call.call _ c.in_default.field-0 c.in_default.is c.step.ensures.means
