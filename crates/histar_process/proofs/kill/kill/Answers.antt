-- Proves the goals of `kill` of src/kill.rt that the search leaves open.
use Rattle.std.proofs.Common.{◌∷◌, ◌-◌, length, get_or, take, drop, ap, sym, ◌∙◌, arith}
use Rattle.histar_programs.proofs.Running.{runs_as}
use Rattle.histar_process.specs.KillCall.{kill_program}
use Rattle.histar_process.proofs.Segments.{no_numbers, first_of_numbers}
use Rattle.histar_process.proofs.kill.kill.Goals as goal

pub returns-in_default : goal.returns-in_default
returns-in_default g c =
    runs_as _ _ _ _ _ _ (ap (kill_program c.args.unix.now.roots.now) (sym c.numbers.ensures.value ∙ no_numbers _ (omega arith))) c.kill_first.ensures

pub returns : goal.returns
returns g c =
    let numbers = c.numbers.result.now in
    runs_as _ _ (kill_program c.args.unix.now.roots.now (get_or numbers 0 0 ∷ take (length numbers - 1) (drop 1 numbers))) _ _ _
    (ap (kill_program c.args.unix.now.roots.now) (sym c.numbers.ensures.value ∙ first_of_numbers numbers 0 (omega arith))) c.kill_child.ensures
