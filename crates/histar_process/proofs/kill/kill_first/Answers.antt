-- Proves the goals of `kill_first` of src/kill.rt that the search leaves open.
use Rattle.std.proofs.Common.{Ok, refl}
use Rattle.histar_flat.specs.declared.replies.Reply.TheVariants.{Done}
use Rattle.histar_rules.specs.Sound.{root_number}
use Rattle.histar_rules.specs.declared.raw.RawCall.TheVariants.{Unlink}
use Rattle.histar_layout.specs.declared.status.StatusHead.{StatusHead}
use Rattle.histar_programs.specs.Parts.{ask}
use Rattle.histar_programs.specs.Programs.Program.{Answers}
use Rattle.histar_programs.proofs.Running.{grants, refuses, then_call, call_fails, call_fails_so, says}
use Rattle.histar_process.specs.KillCall.{kill_program}
use Rattle.histar_process.specs.Reading.{read_head}
use Rattle.histar_process.proofs.Calling.{unlinked_so}
use Rattle.histar_process.proofs.kill.kill_first.Goals as goal

pub returns-in_err-read_head : goal.returns-in_err-read_head
unfolding kill_program read_head
returns-in_err-read_head g c =
    call_fails_so _ _ _ _ _ _ c.from_residual.ensures.1 (call_fails _ _ _ _
    (λ (head : StatusHead). ask (Unlink root_number c.args.unix.now.roots.now.home.container) (λ _. Answers Done)) _ c.in_err-read_head.ensures)

pub returns-in_err-unlink : goal.returns-in_err-unlink
unfolding kill_program read_head
returns-in_err-unlink g c =
    call_fails_so _ _ _ _ _ _ c.from_residual-in_err-unlink.ensures.1 (then_call _ _ _ _
    (λ (head : StatusHead). ask (Unlink root_number c.args.unix.now.roots.now.home.container) (λ _. Answers Done)) _ _ c.in_ok-read_head.ensures _
    (call_fails _ _ _ _ (λ _. Answers Done) _ (unlinked_so _ _ _ _ root_number _ _ c.new.ensures refl _ (refuses _ _ _ _
    _ _ c.in_err-unlink.ensures.ok c.in_err-unlink.ensures.memory))))

pub returns : goal.returns
unfolding kill_program read_head
returns g c =
    then_call _ _ _ _ (λ (head : StatusHead). ask (Unlink root_number c.args.unix.now.roots.now.home.container) (λ _. Answers Done)) _
    _ c.in_ok-read_head.ensures _ (then_call _ _ _ _ (λ _. Answers Done) _ tt (unlinked_so _ _ _ _ root_number _ _ c.new.ensures refl (Ok tt)
    (grants _ _ _ _ tt c.in_ok-unlink.ensures.ok.0 tt)) _ (says _ _ Done))
