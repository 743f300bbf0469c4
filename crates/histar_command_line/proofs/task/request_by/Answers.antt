-- Proves the goals of `request_by` of src/task.rt that the search leaves open.
use Rattle.std.proofs.Common.{refl, ap, ap₂, subst, ◌∙◌, rules}
use Rattle.clap.specs.Words.{is_simple, subcommand_of}
use Rattle.histar_command_line.specs.Tasks.{IsRequestOf}
use Rattle.histar_command_line.proofs.Matches.{histar_is_simple}
use Rattle.histar_command_line.proofs.task.request_by.Goals as goal

pub returns : goal.returns
returns c =
    let simple = ap is_simple c.requires ∙ histar_is_simple in
    let whole = (c.in_ok-matches.ensures.ok.2 simple).1 in
    subst (IsRequestOf (record { task = c.in-Some.task; shape = c.shape_of.result })) (whole ∙ ap₂ subcommand_of c.requires refl) (search rules)
