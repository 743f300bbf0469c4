-- Proves the goals of `explain_line` of src/session.rt that the search leaves open.
use Rattle.std.proofs.Common.{sym, ap, drop, subst}
use Rattle.histar_syscall.specs.KernelModel.{state}
use Rattle.histar_run_explain.specs.Entries.{IsRunFrom}
use Rattle.histar_run_explain.proofs.Turns.{ends_are, entries_are, words_lent}
use Rattle.histar_run_explain.proofs.session.explain_line.Goals as goal

pub explain_entries-requires : goal.explain_entries-requires
explain_entries-requires g c =
    subst (IsRunFrom (state c.args.explainer.now.second))
    (sym (ap (drop c.args.before) c.trace.ensures)) c.requires.run

pub returns-clause-explained : goal.returns-clause-explained
returns-clause-explained g c =
    let named = words_lent c.args.machine.now c.args.clue.now c.as_slice.result.now c.users.ensures c.roots.ensures c.kernel.ensures in
    rw (sym c.as_slice.ensures.value)
    (entries_are named _ _ (ap (drop c.args.before) c.trace.ensures) c.explain_entries.result
    _ _ c.explain_entries.ensures.explained)

pub returns-clause-ends : goal.returns-clause-ends
returns-clause-ends g c =
    ends_are c.explain_entries.result _ _ _ _ (ap (drop c.args.before) c.trace.ensures)
    c.explain_entries.ensures.ends
