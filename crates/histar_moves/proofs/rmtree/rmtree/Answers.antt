-- Proves the goals of `rmtree` of src/rmtree.rt that the search leaves open.
use Rattle.histar_flat.specs.declared.replies.Reply.TheVariants.{Done}
use Rattle.histar_programs.specs.Programs.Program.{Answers}
use Rattle.histar_programs.proofs.Running.{then_call, call_fails, call_fails_so, says}
use Rattle.histar_moves.specs.Rmtree.{rmtree_program}
use Rattle.histar_moves.proofs.rmtree.rmtree.Goals as goal

pub returns-in_err-entry : goal.returns-in_err-entry
unfolding rmtree_program
returns-in_err-entry g c =
    let end = c.find_entry.new.kernel in
    call_fails_so _ _ _ end _ _ c.from_residual.ensures.1 (call_fails _ _ _ end _ _ c.in_err-entry.ensures.runs)

pub returns-in_err-take_away : goal.returns-in_err-take_away
unfolding rmtree_program
returns-in_err-take_away g c =
    call_fails_so _ _ _ _ _ _ c.from_residual-in_err-take_away.ensures.1 (then_call _ _ _ _ _ _ _ c.in_ok-entry.ensures.runs _
    (call_fails _ _ _ _ (λ _. Answers Done) _ c.in_err-take_away.ensures))

pub returns : goal.returns
unfolding rmtree_program
returns g c =
    then_call _ _ _ _ _ _ _ c.in_ok-entry.ensures.runs _ (then_call _ _ _ _ (λ _. Answers Done) _ tt c.in_ok-take_away.ensures _ (says _ _ Done))
