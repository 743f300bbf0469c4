-- Proves the goals of `make_process` of src/boot_calls.rt that the search leaves open.
use Rattle.histar_container.proofs.Keeping.{on_err}
use Rattle.histar_login.specs.Booting.{BeginsProcess}
use Rattle.histar_login.proofs.ProcessStage.{read_allowed, write_allowed, outer_allowed, inner_allowed, birth_allowed, status_allowed}
use Rattle.histar_login.proofs.ProcessStage.{process_begun_none, process_begun_one, process_begun_two, process_begun_three, process_begun_four}
use Rattle.histar_login.proofs.ProcessStage.{process_begun_five, process_stage}
use Rattle.histar_login.proofs.boot_calls.make_process.Goals as goal

pub make_category-requires : goal.make_category-requires
make_category-requires g c =
    read_allowed c.requires.0 _ c.requires.1 c.requires.3 c.requires.2

pub returns-in_err-read-clause-err : goal.returns-in_err-read-clause-err
returns-in_err-read-clause-err g c =
    let begun : BeginsProcess c.args.kernel.now c.make_category.new.kernel = λ n owners first p at b.
    process_begun_none first _ p b n owners _ c.in_err-read.ensures.grants in
    on_err _ _ begun

pub make_category-requires-2 : goal.make_category-requires-2
make_category-requires-2 g c =
    write_allowed c.requires.0 _ c.requires.1 c.requires.3 _ _ c.in_ok-read.ensures.grants.0 c.in_ok-read.ensures.grants.1 c.requires.2

pub returns-in_err-write-clause-err : goal.returns-in_err-write-clause-err
returns-in_err-write-clause-err g c =
    let begun : BeginsProcess c.args.kernel.now c.make_category-2.new.kernel = λ n owners first p at b. process_begun_one first _ p b
    _ _ c.in_ok-read.ensures.grants.0 c.in_ok-read.ensures.grants.1 n owners _ c.in_err-write.ensures.grants in
    on_err _ _ begun

pub make_outer-requires : goal.make_outer-requires
make_outer-requires g c =
    outer_allowed c.requires.0 _ c.requires.1 c.requires.3 _ _ c.in_ok-read.ensures.grants.0 c.in_ok-read.ensures.grants.1
    _ _ c.in_ok-write.ensures.grants.0 c.in_ok-write.ensures.grants.1 c.requires.2

pub returns-in_err-outer-clause-err : goal.returns-in_err-outer-clause-err
returns-in_err-outer-clause-err g c =
    let begun : BeginsProcess c.args.kernel.now c.make_outer.new.kernel = λ n owners first p at b. process_begun_two first _ p b
    _ _ c.in_ok-read.ensures.grants.0 c.in_ok-read.ensures.grants.1 _ _ c.in_ok-write.ensures.grants.0 c.in_ok-write.ensures.grants.1
    n owners _ c.in_err-outer.ensures.grants in
    on_err _ _ begun

pub make_internal-requires : goal.make_internal-requires
make_internal-requires g c =
    inner_allowed c.requires.0 _ c.requires.1 c.requires.3 _ _ c.in_ok-read.ensures.grants.0 c.in_ok-read.ensures.grants.1
    _ _ c.in_ok-write.ensures.grants.0 c.in_ok-write.ensures.grants.1 _ _ c.in_ok-outer.ensures.grants.0 c.in_ok-outer.ensures.grants.1 c.requires.2

pub returns-in_err-internal-clause-err : goal.returns-in_err-internal-clause-err
returns-in_err-internal-clause-err g c =
    let begun : BeginsProcess c.args.kernel.now c.make_internal.new.kernel = λ n owners first p at b. process_begun_three first _ p b
    _ _ c.in_ok-read.ensures.grants.0 c.in_ok-read.ensures.grants.1 _ _ c.in_ok-write.ensures.grants.0 c.in_ok-write.ensures.grants.1
    _ _ c.in_ok-outer.ensures.grants.0 c.in_ok-outer.ensures.grants.1 n owners at c.make_internal.new.kernel c.in_err-internal.ensures.grants in
    on_err _ _ begun

pub make_first_thread-requires : goal.make_first_thread-requires
make_first_thread-requires g c =
    birth_allowed c.requires.0 _ c.requires.1 c.requires.3 _ _ c.in_ok-read.ensures.grants.0 c.in_ok-read.ensures.grants.1
    _ _ c.in_ok-write.ensures.grants.0 c.in_ok-write.ensures.grants.1 _ _ c.in_ok-outer.ensures.grants.0 c.in_ok-outer.ensures.grants.1
    _ _ c.in_ok-internal.ensures.grants.0 c.in_ok-internal.ensures.grants.1 c.requires.2

pub returns-in_err-thread-clause-err : goal.returns-in_err-thread-clause-err
returns-in_err-thread-clause-err g c =
    let begun : BeginsProcess c.args.kernel.now c.make_first_thread.new.kernel = λ n owners first p at b. process_begun_four first _ p b
    _ _ c.in_ok-read.ensures.grants.0 c.in_ok-read.ensures.grants.1 _ _ c.in_ok-write.ensures.grants.0 c.in_ok-write.ensures.grants.1
    _ _ c.in_ok-outer.ensures.grants.0 c.in_ok-outer.ensures.grants.1 _ _ c.in_ok-internal.ensures.grants.0 c.in_ok-internal.ensures.grants.1
    n owners at c.make_first_thread.new.kernel c.in_err-thread.ensures.grants in
    on_err _ _ begun

pub make_status-requires : goal.make_status-requires
make_status-requires g c =
    status_allowed c.requires.0 _ c.requires.1 c.requires.3 _ _ c.in_ok-read.ensures.grants.0 c.in_ok-read.ensures.grants.1
    _ _ c.in_ok-write.ensures.grants.0 c.in_ok-write.ensures.grants.1 _ _ c.in_ok-outer.ensures.grants.0 c.in_ok-outer.ensures.grants.1
    _ _ c.in_ok-internal.ensures.grants.0 c.in_ok-internal.ensures.grants.1
    _ _ c.in_ok-thread.ensures.grants.0 c.in_ok-thread.ensures.grants.1 c.requires.2

pub returns-in_err-segment-clause-err : goal.returns-in_err-segment-clause-err
returns-in_err-segment-clause-err g c =
    let begun : BeginsProcess c.args.kernel.now c.make_status.new.kernel = λ n owners first p at b. process_begun_five first _ p b
    _ _ c.in_ok-read.ensures.grants.0 c.in_ok-read.ensures.grants.1 _ _ c.in_ok-write.ensures.grants.0 c.in_ok-write.ensures.grants.1
    _ _ c.in_ok-outer.ensures.grants.0 c.in_ok-outer.ensures.grants.1 _ _ c.in_ok-internal.ensures.grants.0 c.in_ok-internal.ensures.grants.1
    _ _ c.in_ok-thread.ensures.grants.0 c.in_ok-thread.ensures.grants.1 n owners at c.make_status.new.kernel c.in_err-segment.ensures.grants in
    on_err _ _ begun

pub returns-clause-boots : goal.returns-clause-boots
returns-clause-boots g c = λ n owners first p at b.
    (process_stage first _ p b _ _ c.in_ok-read.ensures.grants.0 c.in_ok-read.ensures.grants.1
    _ _ c.in_ok-write.ensures.grants.0 c.in_ok-write.ensures.grants.1
    _ _ c.in_ok-outer.ensures.grants.0 c.in_ok-outer.ensures.grants.1 _ _ c.in_ok-internal.ensures.grants.0 c.in_ok-internal.ensures.grants.1
    _ _ c.in_ok-thread.ensures.grants.0 c.in_ok-thread.ensures.grants.1
    _ _ c.in_ok-segment.ensures.grants.0 c.in_ok-segment.ensures.grants.1 n owners at).0

pub returns-clause-home : goal.returns-clause-home
returns-clause-home g c = λ n owners first p at b.
    let s = process_stage first _ p b _ _ c.in_ok-read.ensures.grants.0 c.in_ok-read.ensures.grants.1
    _ _ c.in_ok-write.ensures.grants.0 c.in_ok-write.ensures.grants.1
    _ _ c.in_ok-outer.ensures.grants.0 c.in_ok-outer.ensures.grants.1 _ _ c.in_ok-internal.ensures.grants.0 c.in_ok-internal.ensures.grants.1
    _ _ c.in_ok-thread.ensures.grants.0 c.in_ok-thread.ensures.grants.1
    _ _ c.in_ok-segment.ensures.grants.0 c.in_ok-segment.ensures.grants.1 n owners at in
    λ j. record { container = s.1 j; segment = s.2 j }
