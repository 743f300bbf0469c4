-- Proves the goals of `make_status` of src/boot_calls.rt that the search leaves open.
use Rattle.histar_rules.specs.declared.raw.RawCall.TheVariants.{MakeSegment}
use Rattle.histar_syscall.specs.KernelModel.{Answered}
use Rattle.histar_programs.specs.Start.{boot_thread_number}
use Rattle.histar_login.specs.Boot.{status_call}
use Rattle.histar_login.proofs.Parts.{undenied_as, grants}
use Rattle.histar_login.proofs.boot_calls.make_status.Goals as goal

pub granted-requires : goal.granted-requires
granted-requires g c =
    undenied_as _ _ _ _ _ _ _ c.make_segment.ensures.answered c.requires c.boot_thread.ensures
    (λ j. MakeSegment c.args.outer (c.in_ok-guarded.ensures.ok j) (c.in_ok-bytes.ensures.ok j))

pub returns-clause-grants : goal.returns-clause-grants
returns-clause-grants g c =
    let call = status_call c.args.outer c.args.write c.args.internal c.args.thread in
    let answered : Answered c.args.kernel.now c.make_segment.new.self boot_thread_number call c.make_segment.result =
    rw (c.boot_thread.ensures, c.in_ok-guarded.ensures.ok, c.in_ok-bytes.ensures.ok) at c.make_segment.ensures.answered in
    grants _ _ call c.make_segment.result c.granted.result answered c.granted.ensures
