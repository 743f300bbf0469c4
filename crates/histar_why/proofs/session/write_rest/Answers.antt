-- Proves the goals of `write_rest` of src/session.rt that the search leaves open.
use Rattle.histar_raw_explain.proofs.Errors.{on_err}
use Rattle.std.proofs.Common.{inl}
use Rattle.histar_shell.proofs.RunLemmas.{counts_on}
use Rattle.histar_why.proofs.WholeRuns.{rest_begun, rest_written}
use Rattle.histar_why.proofs.session.write_rest.Goals as goal

pub returns-in_err-write_ending-clause-err : goal.returns-in_err-write_ending-clause-err
returns-in_err-write_ending-clause-err g c = on_err _ _ (inl c.in_err-write_ending.ensures.err)

pub returns-clause-ok : goal.returns-clause-ok
returns-clause-ok g c =
    rest_written c.args.options c.args.machine.now _ _ _ c.args.text.now c.in_ok-write_ending.ensures.ok
    c.write_lines.result c.write_lines.ensures.ok

pub returns-clause-err : goal.returns-clause-err
returns-clause-err g c =
    rest_begun c.args.options c.args.machine.now _ _ _ c.args.text.now c.in_ok-write_ending.ensures.ok
    c.write_lines.result c.write_lines.ensures.err

pub returns-clause-count : goal.returns-clause-count
returns-clause-count g c = counts_on _ _ _ _ c.in_ok-write_ending.ensures.count c.write_lines.ensures.count
