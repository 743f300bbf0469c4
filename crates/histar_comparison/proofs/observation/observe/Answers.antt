-- Proves the goals of `observe` of src/observation.rt that the search leaves open.
use Rattle.std.proofs.Common.{List, refl, subst}
use Rattle.std.proofs.lemmas.Result.{IfOk-weaker}
use Rattle.histar_flat.specs.declared.calls.CallLine.{CallLine}
use Rattle.histar_flat.specs.Accounts.{Accounts}
use Rattle.histar_shell.specs.Machine.{IsStart}
use Rattle.histar_comparison.specs.Observation.{KeepsReplies}
use Rattle.histar_comparison.specs.Replies.{no_replies}
use Rattle.histar_comparison.proofs.Observed.{has_tree, replies_are, tree_is}
use Rattle.histar_comparison.proofs.observation.observe.Goals as goal

pub observe_run-seen-requires : goal.observe_run-seen-requires
observe_run-seen-requires g c end old new kept =
    let starts = subst (λ (declared : Accounts). IsStart declared c.in-Ok.machine) c.into_parts-accounts.ensures.accounts c.in-Ok.ensures.starts in
    has_tree c.args.job.now c.args.script c.requires c.in-Ok.machine end starts old new
    (subst (λ (calls : List CallLine). KeepsReplies c.args.job.now c.in-Ok.machine end old new calls) c.into_parts-accounts.ensures.calls kept)

pub returns-clause-ok : goal.returns-clause-ok
returns-clause-ok g c =
    let job = c.args.job.now in
    let start = c.in-Ok.machine in
    let end = c.observe_run-seen.new.machine in
    let starts = subst (λ (declared : Accounts). IsStart declared start) c.into_parts-accounts.ensures.accounts c.in-Ok.ensures.starts in
    IfOk-weaker c.observe_run-seen.result _ _
    (λ seen is.
    let kept = subst (λ (calls : List CallLine). KeepsReplies job start end no_replies seen.replies calls)
    c.into_parts-accounts.ensures.calls is.replies in
    let replies = replies_are job c.args.script c.requires start end starts _ _ kept refl in
    let tree = tree_is job c.args.script c.requires start end starts _ _ kept _ is.tree in
    λ i. record { replies = replies i; tree = tree i })
    c.observe_run-seen.ensures.ok

pub returns-clause-memory : goal.returns-clause-memory
returns-clause-memory g c =
    c.observe_run-seen.ensures.memory c.into_parts-accounts.result.0 _ c.in-Ok.ensures.shows c.in-Ok.ensures.starts.runs
