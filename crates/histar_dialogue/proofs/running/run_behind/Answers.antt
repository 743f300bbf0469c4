-- Proves the goals of `run_behind` of src/running.rt that the search leaves open.
use Rattle.std.proofs.Common.{List, ℕ, [], subst}
use Rattle.histar_flat.specs.declared.calls.CallLine.{CallLine}
use Rattle.histar_flat.specs.Accounts.{Accounts}
use Rattle.histar_io.proofs.Residuals.{passed_on}
use Rattle.histar_dialogue.specs.Running.{AddsAnswers, IsBooted}
use Rattle.histar_dialogue.proofs.Runs.{ran_so}
use Rattle.histar_dialogue.proofs.running.run_behind.Goals as goal

pub returns-in_err-make_calls : goal.returns-in_err-make_calls
returns-in_err-make_calls c = rw (passed_on _ _ c.from_residual-in_err-make_calls.ensures.1, c.in_err-make_calls.ensures.err) tt

pub returns : goal.returns
returns c =
    let script = c.in_ok-read_script.field-0 in
    let same = c.in_ok-read_script-2.field-0 in
    let start = c.in_ok-running.running in
    let end = c.make_calls.new.self in
    ran_so c.args.first c.args.text.now start end c.make_calls.new.answers.items script same
    c.in_ok-read_script.ensures.exact c.in_ok-read_script-2.ensures.exact
    (subst (λ (a : Accounts). IsBooted script.accounts a start) c.into_parts-same.ensures.accounts
    (subst (λ (a : Accounts). IsBooted a c.into_parts-same.result.0 start) c.into_parts-accounts.ensures.accounts c.in_ok-running.ensures.ok))
    (subst (λ (calls : List CallLine). AddsAnswers c.args.first start end [] c.make_calls.new.answers.items calls)
    c.into_parts-accounts.ensures.calls
    (subst (λ (l : List ℕ). AddsAnswers c.args.first start end l c.make_calls.new.answers.items c.into_parts-accounts.result.1.items)
    c.new-answers.ensures.items c.in_ok-make_calls.ensures.ok))
