-- The objects and the categories of a machine keep their names, along the lines that it answers.
use Rattle.histar_syscall.specs.KernelModel.{state}
use Rattle.histar_sim.proofs.StayingNames.{names_stay}
use Rattle.histar_shell.specs.Answers.{calls_of}
use Rattle.histar_shell.specs.MachineNames.{MachinesKeepNames}
use Rattle.histar_shell.proofs.CallRefinements.{calls_refine}
use Rattle.histar_shell.proofs.SessionMeanings.{accounts_means}

-- each line refines its rule, and names keep their numbers along such lines
pub machines_keep_names : MachinesKeepNames
machines_keep_names accounts old new f answers shows can in_turn from =
    let session = accounts_means accounts calls_refine old f answers new in_turn shows can in
    names_stay accounts (state old.kernel) (state new.kernel) f (calls_of answers) session.entries session.refinements from
