-- Proves the goals of `rename` of src/rename.rt that the search leaves open.
use Rattle.std.proofs.Common.{Ok, Err}
use Rattle.std.specs.FinMap as map
use Rattle.histar_flat.specs.declared.replies.Reply.TheVariants.{Done}
use Rattle.histar_programs.specs.declared.call_error.CallError.TheVariants.{Stopped}
use Rattle.histar_programs.specs.Parts.{write_entries}
use Rattle.histar_programs.specs.Programs.Program.{Answers}
use Rattle.histar_programs.proofs.Running.{before_ask, then_call, call_fails, call_fails_so, says}
use Rattle.histar_moves.specs.Parts.{must_be_free}
use Rattle.histar_moves.specs.Rename.{rename_program}
use Rattle.histar_moves.proofs.Deciding.{goes_on, is_refused}
use Rattle.histar_moves.proofs.TakingAway.{writes_due}
use Rattle.histar_moves.proofs.rename.rename.Goals as goal

pub returns-in_err-entry : goal.returns-in_err-entry
unfolding rename_program
returns-in_err-entry g c =
    call_fails_so _ _ _ _ _ _ c.from_residual.ensures.1 (call_fails _ _ _ _ _ _ c.in_err-entry.ensures.runs)

pub returns-in_err-must_be_free : goal.returns-in_err-must_be_free
unfolding rename_program
returns-in_err-must_be_free g c =
    call_fails_so _ _ _ _ _ _ c.from_residual-in_err-must_be_free.ensures.1 (then_call _ _ _ _ _ _ _ c.in_ok-entry.ensures.runs _ (is_refused _ _
    (λ _. write_entries c.in_ok-entry.entry.place (map.insert (map.remove c.in_ok-entry.entry.entries c.in_ok-entry.entry.name) c.args.name.now
    c.in_ok-entry.entry.target) (λ _. Answers Done)) _ _ c.in_err-must_be_free.ensures))

pub returns-in_err-entries : goal.returns-in_err-entries
unfolding rename_program
returns-in_err-entries g c =
    let due = map.insert (map.remove c.in_ok-entry.entry.entries c.in_ok-entry.entry.name) c.args.name.now c.in_ok-entry.entry.target in
    call_fails_so _ _ _ _ Stopped _ c.from_residual-in_err-entries.ensures.1 (then_call _ _ _ _ _ _ _ c.in_ok-entry.ensures.runs _
    (goes_on _ (must_be_free (map.get c.in_ok-entry.entry.entries c.args.name.now))
    (λ _. write_entries c.in_ok-entry.entry.place due (λ _. Answers Done)) _ _ tt c.in_ok-must_be_free.ensures _ (call_fails _ _ _ _
    (λ _. Answers Done) Stopped (before_ask _ _ _ c.in_err-entries.ensures.memory))))

pub returns-in_err-write_entries : goal.returns-in_err-write_entries
unfolding rename_program
returns-in_err-write_entries g c =
    let due = map.insert (map.remove c.in_ok-entry.entry.entries c.in_ok-entry.entry.name) c.args.name.now c.in_ok-entry.entry.target in
    call_fails_so _ _ _ _ _ _ c.from_residual-in_err-write_entries.ensures.1 (then_call _ _ _ _ _ _ _ c.in_ok-entry.ensures.runs _
    (goes_on _ (must_be_free (map.get c.in_ok-entry.entry.entries c.args.name.now))
    (λ _. write_entries c.in_ok-entry.entry.place due (λ _. Answers Done)) _ _ tt c.in_ok-must_be_free.ensures _ (call_fails _ _ _ _
    (λ _. Answers Done) _ (writes_due _ _ _ _ _ due c.in_ok-entries.ensures.ok (Err _) c.in_err-write_entries.ensures))))

pub returns : goal.returns
unfolding rename_program
returns g c =
    let due = map.insert (map.remove c.in_ok-entry.entry.entries c.in_ok-entry.entry.name) c.args.name.now c.in_ok-entry.entry.target in
    then_call _ _ _ _ _ _ _ c.in_ok-entry.ensures.runs _ (goes_on _ _ (λ _. write_entries c.in_ok-entry.entry.place due (λ _. Answers Done)) _
    _ tt c.in_ok-must_be_free.ensures _ (then_call _ _ _ _ (λ _. Answers Done) _ tt (writes_due _ _ _ _ _
    due c.in_ok-entries.ensures.ok (Ok tt) c.in_ok-write_entries.ensures) _ (says _ _ Done)))
