-- Proves the goals of `breach_on` of src/machines.rt that the search leaves open.
use Rattle.histar_never.proofs.OnMachines.{of_all, of_one_process, on_ok}
use Rattle.histar_never.proofs.machines.breach_on.Goals as goal

pub returns-in-OfProcess : goal.returns-in-OfProcess
returns-in-OfProcess g c =
    of_one_process c.args.machine.now c.args.never.now c.in-OfProcess.process c.breach_of_one.result c.in-OfProcess.is
    c.breach_of_one.ensures

pub returns-in-OfUser : goal.returns-in-OfUser
returns-in-OfUser g c =
    on_ok (of_all c.args.machine.now c.args.never.now) c.breach_of_many.result c.breach_of_many.ensures

pub returns-in-AllBut : goal.returns-in-AllBut
returns-in-AllBut g c =
    on_ok (of_all c.args.machine.now c.args.never.now) c.breach_of_many-in-AllBut.result c.breach_of_many-in-AllBut.ensures
