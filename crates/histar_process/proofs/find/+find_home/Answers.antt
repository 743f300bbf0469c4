-- Proves the goals of `+find_home` of src/find.rt that the search leaves open.
use Rattle.std.proofs.Common.{◌-◌, length, get_or, take, drop, Ok, Err, sym, subst, arith}
use Rattle.histar_programs.proofs.Running.{fails_so}
use Rattle.histar_programs.specs.declared.roots.Home.{Home}
use Rattle.histar_programs.specs.Programs.{RunsPart}
use Rattle.histar_process.proofs.Segments.{no_numbers, first_of_numbers, into_fails, into_child, into_none, finds_first, find_fails, finds_on, into}
use Rattle.histar_process.proofs.find.+find_home.Goals as goal

pub returns-in_default : goal.returns-in_default
returns-in_default g t c =
    finds_first _ _ _ c.args.kernel.now _ (no_numbers _ (omega arith))

pub returns-in_err-home : goal.returns-in_err-home
returns-in_err-home g s c =
    let end = c.find_home.new.kernel in
    fails_so _ _ _ end _ _ c.from_residual.ensures.1 (find_fails _ _ _ end _ (get_or c.args.numbers.now 0 0)
    (take (length _ - 1) (drop 1 c.args.numbers.now)) (first_of_numbers _ 0 (omega arith)) _ c.in_err-home.ensures)

pub returns-in_err-found : goal.returns-in_err-found
returns-in_err-found g s c =
    fails_so _ _ _ _ _ _ c.from_residual-in_err-found.ensures.1 (finds_on _ _ _ _ _ (get_or c.args.numbers.now 0 0)
    (take (length _ - 1) (drop 1 c.args.numbers.now)) (first_of_numbers _ 0 (omega arith)) c.find_home.new.kernel _ c.in_ok-home.ensures (Err _)
    (into_fails c.args.thread c.find_home.new.kernel c.look_up.new.kernel (get_or c.args.numbers.now 0 0) _ c.in_err-found.field-0.0
    c.in_err-found.ensures))

pub returns-in_err-child : goal.returns-in_err-child
returns-in_err-child g s c =
    fails_so _ _ _ _ _ _ c.from_residual-in_err-child.ensures.1 (finds_on _ _ _ _ _ (get_or c.args.numbers.now 0 0)
    (take (length _ - 1) (drop 1 c.args.numbers.now)) (first_of_numbers _ 0 (omega arith)) c.find_home.new.kernel _ c.in_ok-home.ensures (Err _)
    (into_none c.args.thread c.find_home.new.kernel c.look_up.new.kernel (get_or c.args.numbers.now 0 0) _ _ c.in_ok-found.ensures
    _ c.in_err-child.ensures))

pub returns : goal.returns
returns g s c =
    finds_on _ _ _ _ _ (get_or c.args.numbers.now 0 0) (take (length _ - 1) (drop 1 c.args.numbers.now))
    (first_of_numbers _ 0 (omega arith)) c.find_home.new.kernel _ c.in_ok-home.ensures (Ok _)
    (subst (λ (h : Home). RunsPart g.H.Heap.Refused (into (get_or c.args.numbers.now 0 0) c.in_ok-home.home) c.find_home.new.kernel
    c.look_up.new.kernel c.args.thread
    (Ok h)) (sym c.home_of.ensures) (into_child c.args.thread c.find_home.new.kernel c.look_up.new.kernel (get_or c.args.numbers.now 0 0) _ _
    c.in_ok-found.ensures _ c.in_ok-child.ensures))
