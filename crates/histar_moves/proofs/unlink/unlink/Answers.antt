-- Proves the goals of `unlink` of src/unlink.rt that the search leaves open.
use Rattle.histar_flat.specs.declared.replies.Reply.TheVariants.{Done}
use Rattle.histar_programs.specs.Programs.Program.{Answers}
use Rattle.histar_programs.proofs.Running.{then_call, call_fails, call_fails_so, says}
use Rattle.histar_moves.specs.Parts.{take_away}
use Rattle.histar_moves.specs.Unlink.{unlink_program}
use Rattle.histar_moves.proofs.Deciding.{goes_on, is_refused}
use Rattle.histar_moves.proofs.unlink.unlink.Goals as goal

pub returns-in_err-entry : goal.returns-in_err-entry
unfolding unlink_program
returns-in_err-entry g c =
    call_fails_so _ _ _ _ _ _ c.from_residual.ensures.1 (call_fails _ _ _ _ _ _ c.in_err-entry.ensures.runs)

pub returns-in_err-must_be_file : goal.returns-in_err-must_be_file
unfolding unlink_program
returns-in_err-must_be_file g c =
    call_fails_so _ _ _ _ _ _ c.from_residual-in_err-must_be_file.ensures.1 (then_call _ _ _ _ _ _ _ c.in_ok-entry.ensures.runs _
    (is_refused _ _ (λ _. take_away c.in_ok-entry.entry (λ _. Answers Done)) _ _ c.in_err-must_be_file.ensures))

pub returns-in_err-take_away : goal.returns-in_err-take_away
unfolding unlink_program
returns-in_err-take_away g c =
    call_fails_so _ _ _ _ _ _ c.from_residual-in_err-take_away.ensures.1 (then_call _ _ _ _ _ _ _ c.in_ok-entry.ensures.runs _
    (goes_on _ _ (λ _. take_away c.in_ok-entry.entry (λ _. Answers Done)) _ _ tt c.in_ok-must_be_file.ensures _
    (call_fails _ _ _ _ (λ _. Answers Done) _ c.in_err-take_away.ensures)))

pub returns : goal.returns
unfolding unlink_program
returns g c =
    then_call _ _ _ _ _ _ _ c.in_ok-entry.ensures.runs _ (goes_on _ _ (λ _. take_away c.in_ok-entry.entry (λ _. Answers Done))
    _ _ tt c.in_ok-must_be_file.ensures _ (then_call _ _ _ _ (λ _. Answers Done) _ tt c.in_ok-take_away.ensures _ (says _ _ Done)))
