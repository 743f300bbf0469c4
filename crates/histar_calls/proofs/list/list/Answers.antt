-- Proves the goals of `list` of src/list.rt that the search leaves open.
use Rattle.std.proofs.Common.{ap, ◌∙◌, ◌++◌}
use Rattle.histar_flat.specs.declared.replies.Reply.TheVariants.{Entries}
use Rattle.histar_layout.specs.Listing.{names_in}
use Rattle.histar_programs.specs.declared.call_error.CallError.TheVariants.{Stopped}
use Rattle.histar_calls.specs.ListCall.{list_program}
use Rattle.histar_programs.proofs.Directories.{before_walk}
use Rattle.histar_programs.proofs.Running.{then_call, call_fails, call_fails_so, replies_so}
use Rattle.histar_calls.proofs.list.list.Goals as goal

pub returns-in_err-entries : goal.returns-in_err-entries
unfolding list_program
returns-in_err-entries g c =
    let k = c.args.kernel.now in
    call_fails_so _ _ k k Stopped _ c.from_residual.ensures.1 (call_fails _ _ k k _ Stopped (before_walk _ _ _ k c.in_err-entries.ensures.memory))

pub returns-in_err-directory : goal.returns-in_err-directory
unfolding list_program
returns-in_err-directory g c =
    call_fails_so _ _ _ _ _ _ c.from_residual-in_err-directory.ensures.1 (call_fails _ _ _ _ _ _ c.in_err-directory.ensures)

pub returns : goal.returns
unfolding list_program
returns g c =
    let listing_is =
    c.new.ensures ∙ c.list.ensures
    ∙ ap (λ es. es ++ names_in c.in_ok-directory.directory.entries) c.in_ok-entries.ensures.items in
    then_call _ _ _ _ _ _ _ c.in_ok-directory.ensures _ (replies_so _ _ _ _ (ap Entries listing_is))
