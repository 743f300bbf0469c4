-- Proves the goals of `run_whole` of src/whole.rt that the search leaves open.
use Rattle.std.proofs.Common.{List, subst}
use Rattle.std.proofs.lemmas.Result.{IfOk-weaker}
use Rattle.histar_flat.specs.declared.calls.CallLine.{CallLine}
use Rattle.histar_flat.specs.Accounts.{Accounts}
use Rattle.histar_shell.specs.Machine.{IsStart}
use Rattle.histar_comparison.specs.Whole.{KeepsAnswers, RunsWhole}
use Rattle.histar_comparison.proofs.Wholes.{whole_has_tree, whole_is}
use Rattle.histar_comparison.proofs.whole.run_whole.Goals as goal

pub run_calls-whole-requires : goal.run_calls-whole-requires
run_calls-whole-requires g c end old new kept =
    let starts = subst (λ (declared : Accounts). IsStart declared c.in-Ok.machine) c.into_parts-accounts.ensures.accounts c.in-Ok.ensures.starts in
    whole_has_tree c.args.script c.requires c.in-Ok.machine end starts old new
    (subst (λ (calls : List CallLine). KeepsAnswers c.in-Ok.machine end old new calls) c.into_parts-accounts.ensures.calls kept)

pub returns-clause-ok : goal.returns-clause-ok
returns-clause-ok g c =
    let start = c.in-Ok.machine in
    let end = c.run_calls-whole.new.machine in
    let starts = subst (λ (declared : Accounts). IsStart declared start) c.into_parts-accounts.ensures.accounts c.in-Ok.ensures.starts in
    IfOk-weaker c.run_calls-whole.result _ _
    (λ whole is. whole_is c.args.script c.requires start end starts whole
    (subst (λ (calls : List CallLine). RunsWhole start end calls whole) c.into_parts-accounts.ensures.calls is))
    c.run_calls-whole.ensures.ok

pub returns-clause-memory : goal.returns-clause-memory
returns-clause-memory g c =
    c.run_calls-whole.ensures.memory c.into_parts-accounts.result.0 _ c.in-Ok.ensures.shows c.in-Ok.ensures.starts.runs
