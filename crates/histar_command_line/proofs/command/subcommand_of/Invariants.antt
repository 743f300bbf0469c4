-- The invariants and measures of `subcommand_of` of src/command.rt.
use Rattle.std.proofs.Common.{take}
use Rattle.clap.specs.Words.{new_app}
use Rattle.histar_command_line.proofs.Arguments.{Has}
use Rattle.histar_command_line.proofs.command.subcommand_of.Given as goal

abbrev pub invariant-arguments : goal.invariant-arguments
invariant-arguments l = Has l.command (new_app l.form.name.now) (take l.argument-index l.form.arguments.now)
