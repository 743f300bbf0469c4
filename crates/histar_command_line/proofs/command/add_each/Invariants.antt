-- The invariants and measures of `add_each` of src/command.rt.
use Rattle.std.proofs.Common.{◌≡◌, take}
use Rattle.std.specs.Prelude.{fold, map}
use Rattle.clap.specs.Words.{app_of, with_subcommand}
use Rattle.histar_command_line.specs.Forms.{form_shape}
use Rattle.histar_command_line.proofs.command.add_each.Given as goal

abbrev pub invariant-forms : goal.invariant-forms
invariant-forms l = app_of l.histar ≡ fold with_subcommand (app_of l.fn.histar) (map form_shape (take l.form-index l.forms))
