-- The calls that a line can make refine their rules.
use Rattle.std.specs.Prelude.{length}
use Rattle.histar_flat.specs.declared.calls.UnixCall.{UnixCall}
use Rattle.histar_flat.specs.declared.calls.UnixCall.TheVariants.{Create, Mkdir, Write, Append, Read, List as ListCall, Stat, Unlink, Rmdir, Rmtree}
use Rattle.histar_flat.specs.declared.calls.UnixCall.TheVariants.{Rename, Spawn, Exit, Status, Kill, Whoami, Login, Wrap}
use Rattle.histar_flat.specs.Calls.{IsCall}
use Rattle.histar_flat.specs.Accounts.{Accounts}
use Rattle.histar_programs.specs.Start.{roots_of}
use Rattle.histar_refinement.specs.Accounts.{AreAccounts}
use Rattle.histar_sim.specs.Refines.{CallerRefines}
use Rattle.histar_sim.proofs.Read.{read_refines}
use Rattle.histar_sim.proofs.Write.{write_refines}
use Rattle.histar_sim.proofs.Create.{create_refines}
use Rattle.histar_sim.proofs.Mkdir.{mkdir_refines}
use Rattle.histar_sim.proofs.Append.{append_refines}
use Rattle.histar_sim.proofs.ListCall.{list_refines}
use Rattle.histar_sim.proofs.StatCall.{stat_refines}
use Rattle.histar_sim.proofs.Login.{login_refines}
use Rattle.histar_sim.proofs.UnlinkCall.{unlink_refines}
use Rattle.histar_sim.proofs.RmdirCall.{rmdir_refines}
use Rattle.histar_sim.proofs.RmtreeCall.{rmtree_refines}
use Rattle.histar_sim.proofs.RenameCall.{rename_refines}
use Rattle.histar_sim.proofs.SpawnCall.{spawn_refines}
use Rattle.histar_sim.proofs.ExitCall.{exit_refines}
use Rattle.histar_sim.proofs.StatusCall.{status_refines}
use Rattle.histar_sim.proofs.KillCall.{kill_refines}
use Rattle.histar_sim.proofs.Whoami.{whoami_refines}
use Rattle.histar_sim.proofs.WrapCall.{wrap_refines}
use Rattle.histar_shell.specs.Machine.{program_of}

-- the program of each call that a line can make refines the rule of the call; M says that memory ran out
abbrev pub CallsRefine : Type 0 → Type 0
CallsRefine M = (accounts : Accounts) → AreAccounts accounts → (call : UnixCall) → IsCall call
    → CallerRefines M accounts call (λ me caller. program_of accounts (roots_of (length accounts.users)) me caller call)

pub calls_refine : {M : Type 0} → CallsRefine M
calls_refine accounts ok (Create path mode) can me caller old new f result ready at =
    create_refines accounts ok path mode can me old new f caller.thread result ready
calls_refine accounts ok (Mkdir path mode) can me caller old new f result ready at =
    mkdir_refines accounts ok path mode can me old new f caller.thread result ready
calls_refine accounts ok (Read path) can me caller old new f result ready at = read_refines accounts ok path me old new f caller.thread result ready
calls_refine accounts ok (Write path bytes) can me caller old new f result ready at =
    write_refines accounts ok path bytes me old new f caller.thread result ready
calls_refine accounts ok (Append path bytes) can me caller old new f result ready at =
    append_refines accounts ok path bytes me old new f caller.thread result ready
calls_refine accounts ok (ListCall path) can me caller old new f result ready at =
    list_refines accounts ok path me old new f caller.thread result ready
calls_refine accounts ok (Stat path) can me caller old new f result ready at = stat_refines accounts ok path me old new f caller.thread result ready
calls_refine accounts ok (Unlink path) can me caller old new f result ready at =
    unlink_refines accounts ok path me old new f caller.thread result ready
calls_refine accounts ok (Rmdir path) can me caller old new f result ready at = rmdir_refines accounts ok path me old new f caller.thread result ready
calls_refine accounts ok (Rmtree path) can me caller old new f result ready at =
    rmtree_refines accounts ok path me old new f caller.thread result ready
calls_refine accounts ok (Rename path name) can me caller old new f result ready at =
    rename_refines accounts ok path name can.1 me old new f caller.thread result ready
calls_refine accounts ok Spawn can me caller old new f result ready at = spawn_refines accounts ok me caller old new f result ready at
calls_refine accounts ok (Exit number) can me caller old new f result ready at =
    exit_refines accounts ok number can me caller old new f result ready at
calls_refine accounts ok (Status name) can me caller old new f result ready at =
    status_refines accounts ok name me old new f caller.thread result ready
calls_refine accounts ok (Kill name) can me caller old new f result ready at = kill_refines accounts ok name me old new f caller.thread result ready
calls_refine accounts ok Whoami can me caller old new f result ready at = whoami_refines accounts ok me old new f caller.thread result ready
calls_refine accounts ok (Login name password) can me caller old new f result ready at =
    login_refines accounts ok name password me caller old new f result ready at
calls_refine accounts ok (Wrap path) can me caller old new f result ready at = wrap_refines accounts ok path can me caller old new f result ready at
