-- Proves the goals of `create` of src/create.rt that the search leaves open.
use Rattle.std.proofs.Common.{Ok}
use Rattle.histar_flat.specs.declared.replies.Reply.TheVariants.{Done}
use Rattle.histar_programs.specs.Programs.Program.{Answers}
use Rattle.histar_calls.specs.Create.{create_program}
use Rattle.histar_programs.proofs.Exits.{Leaves, ends_so, further}
use Rattle.histar_calls.proofs.MakingFiles.{after_room, begun}
use Rattle.histar_programs.proofs.Running.{says}
use Rattle.histar_calls.proofs.create.create.Given as given
use Rattle.histar_calls.proofs.create.create.Goals as goal
use Rattle.histar_calls.proofs.create.create.Goals.{In_ok-room}

pub returns-in_err-room : goal.returns-in_err-room
returns-in_err-room g c =
    ends_so _ (after_room _ _) (begun _ _ _ _ _ _) _ _ _ c.from_residual.ensures.1 c.in_err-room.ensures.runs

-- once there is room, it is left to make the file
making : (g : given.Over) (c : In_ok-room g)
    → Leaves g.H.Heap.Refused c.args.unix.now.caller.now.thread
    (create_program c.args.unix.now.users.now c.args.unix.now.roots.now c.args.path.now c.args.mode) c.args.kernel.now
    (after_room c.args.unix.now.users.now c.args.mode c.in_ok-room.room) c.find_room.new.kernel
making g c =
    further _ (after_room _ _) (begun _ _ _ _ _ _) _ _ c.in_ok-room.ensures.runs

pub returns-in_err-make_file : goal.returns-in_err-make_file
returns-in_err-make_file g c =
    ends_so _ (λ (done : Unit {0}). Answers Done) (making g (goal.at.returns-in_err-make_file g c).In_ok-room) _
    _ _ c.from_residual-in_err-make_file.ensures.1 c.in_err-make_file.ensures

pub returns : goal.returns
returns g c =
    let end = c.make_file.new.kernel in
    let made = further _ (λ (done : Unit {0}). Answers Done) (making g (goal.at.returns g c).In_ok-room) end tt c.in_ok-make_file.ensures in
    made.leads end (Ok Done) (says _ end Done)
