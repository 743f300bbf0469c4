-- Proves the goals of `run_calls` of src/session.rt that the search leaves open.
use Rattle.std.proofs.Common.{inl}
use Rattle.histar_raw_explain.proofs.Errors.{on_err}
use Rattle.histar_shell.proofs.RunLemmas.{counts_on}
use Rattle.histar_why.proofs.WholeRuns.{run_begun, run_written}
use Rattle.histar_why.proofs.session.run_calls.Goals as goal

pub returns-in_err-text-clause-err : goal.returns-in_err-text-clause-err
returns-in_err-text-clause-err g c = on_err _ _ (inl c.in_err-text.ensures.err)

pub write_rest-requires : goal.write_rest-requires
write_rest-requires g c = c.requires _ _ _ c.in_ok-text.ensures.ok.1.answered

pub returns-clause-ok : goal.returns-clause-ok
returns-clause-ok g c =
    run_written c.args.options c.args.machine.now c.log_calls.new.machine _ _ c.args.calls.items _
    c.in_ok-text.ensures.ok _ _ c.as_slice.ensures.value c.write_rest.result c.write_rest.ensures.ok

pub returns-clause-err : goal.returns-clause-err
returns-clause-err g c =
    run_begun c.args.options c.args.machine.now c.log_calls.new.machine _ _ c.args.calls.items _
    c.in_ok-text.ensures.ok _ _ c.as_slice.ensures.value c.write_rest.result c.write_rest.ensures.err

pub returns-clause-count : goal.returns-clause-count
returns-clause-count g c = counts_on _ _ _ _ c.in_ok-text.ensures.count c.write_rest.ensures.count
