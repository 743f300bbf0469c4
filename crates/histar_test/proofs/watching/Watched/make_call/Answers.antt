-- Proves the goals of `Watched::make_call` of src/watching.rt that the search leaves open.
use Rattle.std.proofs.Common.{Bool, Result, ap, not, subst, ◌&&◌, ◌∙◌}
use Rattle.histar_rights.specs.Laws.{is_answer}
use Rattle.histar_programs.specs.declared.call_error.Stopped.{Stopped}
use Rattle.histar_flat.specs.declared.replies.Reply.{Reply}
use Rattle.histar_shell.specs.Meaning.{FollowsMeaning}
use Rattle.histar_test.proofs.WatchLemmas.{call_watched, still_has_processes}
use Rattle.histar_test.proofs.watching.Watched.make_call.Goals as goal

pub look-requires : goal.look-requires
look-requires c =
    let call = c.args.call in
    let means = subst (λ (r : Result Reply Stopped). FollowsMeaning _ c.args.self.now.machine c.step.new.self call.line call.process call.call r)
    c.in-Ok.is c.step.ensures.means in
    still_has_processes c.args.self.now c.step.new.self call c.in-Ok.reply means c.requires

pub returns-clause-ok : goal.returns-clause-ok
returns-clause-ok c =
    let call = c.args.call in
    let means = subst (λ (r : Result Reply Stopped). FollowsMeaning _ c.args.self.now.machine c.step.new.self call.line call.process call.call r)
    c.in-Ok.is c.step.ensures.means in
    call_watched c.args.self.now c.step.new.self call c.in-Ok.reply means c.may_change.result c.look.new.self
    (c.may_change.ensures ∙ ap (λ (asks : Bool). not asks && is_answer c.in-Ok.reply) c.is_question-asks.ensures) c.in_ok-look.ensures
    c.args.said c.in_ok-made.made c.in_ok-made.ensures
