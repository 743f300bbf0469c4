-- Proves the goals of `explain_entries` of src/replaying.rt that the search leaves open.
use Rattle.std.proofs.Common.{◌≡◌, ◌<◌, ◌≤◌, arith, drop, length, get_or}
use Rattle.std.proofs.lemmas.Grind.{common_steps}
use Rattle.std.proofs.lemmas.Option.{gets}
use Rattle.histar_syscall.specs.KernelModel.{state}
use Rattle.histar_run_explain.proofs.Replays.{replayed_none, replayed_more, replayed_all, replayed_end}
use Rattle.histar_run_explain.proofs.replaying.explain_entries.Goals as goal

pub loop-behind-init : goal.loop-behind-init
loop-behind-init g c =
    let es = drop c.args.entries.from c.args.entries.trace.now.entries in
    replayed_none (g.V.Wording.words c.args.words.now) (state c.args.kernel.now) es c.args.text.now.items

pub loop-behind-preserved : goal.loop-behind-preserved
loop-behind-preserved g c =
    let all = c.args.entries.trace.now.entries in
    let es = drop c.args.entries.from all in
    let e = c.in_ok-entry.entry in
    let within : c.loop-behind.behind < length es = grind (arith, common_steps) in
    let is : e ≡ get_or es c.loop-behind.behind e = grind (arith, common_steps, gets) in
    replayed_more (g.V.Wording.words c.args.words.now) (state c.args.kernel.now) c.requires.0 es
    c.requires.1 c.loop-behind.behind e within is
    (state c.loop-behind.kernel)
    (state c.explain_entry-outcome.new.kernel) c.args.text.now.items c.loop-behind.text.items
    c.explain_entry-outcome.new.text.items
    c.loop-behind.invariant (rw c.in_ok-outcome.was at c.explain_entry-outcome.ensures.ends)
    (rw c.in_ok-outcome.was at c.explain_entry-outcome.ensures.explained)

pub returns-clause-explained : goal.returns-clause-explained
returns-clause-explained g c =
    let es = drop c.args.entries.from c.args.entries.trace.now.entries in
    let end : length es ≤ c.loop-behind.behind = grind (arith, common_steps) in
    replayed_all (g.V.Wording.words c.args.words.now) _ es c.loop-behind.behind _ _ _ end c.loop-behind.invariant

pub returns-clause-ends : goal.returns-clause-ends
returns-clause-ends g c =
    let es = drop c.args.entries.from c.args.entries.trace.now.entries in
    let end : length es ≤ c.loop-behind.behind = grind (arith, common_steps) in
    replayed_end (g.V.Wording.words c.args.words.now) _ es c.loop-behind.behind _ _ _ end c.loop-behind.invariant
