-- Proves the goals of `status` of src/status.rt that the search leaves open.
use Rattle.std.proofs.Common.{ℕ, List, Ok, Err, subst}
use Rattle.histar_programs.specs.Programs.{RunsPart}
use Rattle.histar_programs.specs.Programs.Program.{Answers}
use Rattle.histar_programs.proofs.Running.{then_call, call_fails, call_fails_so, replies_so}
use Rattle.histar_layout.specs.declared.status.StatusHead.{StatusHead}
use Rattle.histar_process.specs.Parts.{find_home}
use Rattle.histar_process.specs.Reading.{read_head}
use Rattle.histar_process.specs.StatusCall.{status_reply, status_program}
use Rattle.histar_process.proofs.status.status.Goals as goal

pub returns-in_err-home : goal.returns-in_err-home
unfolding status_program
returns-in_err-home g c =
    call_fails_so _ _ _ _ _ _ c.from_residual.ensures.1 (call_fails _ _ _ _ _ _
    (subst (λ (n : List ℕ). RunsPart g.H.Heap.Refused (find_home c.args.unix.now.roots.now.home n) c.args.kernel.now c.find_home.new.kernel
    c.args.unix.now.caller.now.thread (Err c.in_err-home.field-0.0)) c.numbers.ensures.value c.in_err-home.ensures))

pub returns-in_err-head : goal.returns-in_err-head
unfolding status_program read_head
returns-in_err-head g c =
    call_fails_so _ _ _ _ _ _ c.from_residual-in_err-head.ensures.1 (then_call _ _ _ _ _ _ _ (subst
    (λ (n : List ℕ). RunsPart g.H.Heap.Refused (find_home c.args.unix.now.roots.now.home n) c.args.kernel.now c.find_home.new.kernel
    c.args.unix.now.caller.now.thread
    (Ok c.in_ok-home.home)) c.numbers.ensures.value c.in_ok-home.ensures) _ (call_fails _ _ _ _
    (λ (head : StatusHead). Answers (status_reply head.exited)) _ c.in_err-head.ensures))

pub returns : goal.returns
unfolding status_program read_head
returns g c =
    let head = c.in_ok-head.head in
    then_call _ _ _ c.read_head.new.kernel _ _ _ (subst
    (λ (n : List ℕ). RunsPart g.H.Heap.Refused (find_home c.args.unix.now.roots.now.home n) c.args.kernel.now c.find_home.new.kernel
    c.args.unix.now.caller.now.thread
    (Ok c.in_ok-home.home)) c.numbers.ensures.value c.in_ok-home.ensures) _ (then_call _ _ _ _
    (λ (head : StatusHead). Answers (status_reply head.exited)) _ head c.in_ok-head.ensures _ (replies_so _ _ _ _ c.status_reply.ensures))
