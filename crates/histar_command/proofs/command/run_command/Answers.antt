-- Proves the goals of `run_command` of src/command.rt that the search leaves open.
use Rattle.std.proofs.Common.{rules}
use Rattle.histar_command.proofs.KnownInputs.{input_known}
use Rattle.histar_command.proofs.command.run_command.Goals as goal

pub returns-in_err-input-clause-runs : goal.returns-in_err-input-clause-runs
returns-in_err-input-clause-runs g c = search rules

pub returns-in_err-input-clause-known : goal.returns-in_err-input-clause-known
returns-in_err-input-clause-known g c =
    input_known (g.C.Command.Runs c.args.command) (g.met.C.Command.unread c.args.command) (g.met.C.Command.long c.args.command) _ _ _ _ _
    (returns-in_err-input-clause-runs g c)

pub returns-clause-runs : goal.returns-clause-runs
returns-clause-runs g c = search rules

pub returns-clause-known : goal.returns-clause-known
returns-clause-known g c =
    input_known (g.C.Command.Runs c.args.command) (g.met.C.Command.unread c.args.command) (g.met.C.Command.long c.args.command) _ _ _ _ _
    (returns-clause-runs g c)
