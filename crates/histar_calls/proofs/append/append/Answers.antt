-- Proves the goals of `append` of src/append.rt that the search leaves open.
use Rattle.std.proofs.Common.{Ok}
use Rattle.histar_flat.specs.FlatCalls.{most_bytes}
use Rattle.histar_flat.specs.declared.replies.Reply.TheVariants.{Done}
use Rattle.histar_programs.specs.Programs.Program.{Answers}
use Rattle.histar_programs.specs.Parts.{ask}
use Rattle.histar_programs.proofs.Exits.{Leaves, ends_so, further}
use Rattle.histar_programs.proofs.Running.{asks, says}
use Rattle.histar_calls.specs.Append.{append_program}
use Rattle.histar_calls.proofs.FileCalls.{append_begun, to_write, write_of}
use Rattle.histar_calls.proofs.append.append.Given as given
use Rattle.histar_calls.proofs.append.append.Goals as goal
use Rattle.histar_calls.proofs.append.append.Goals.{In_ok-file}

pub returns-in_err-file : goal.returns-in_err-file
returns-in_err-file g c =
    ends_so _ (to_write most_bytes _) (append_begun _ _ _ _ _) _ _ _ c.from_residual.ensures.1 c.in_err-file.ensures

-- once the file was found, it is left to write it
writing : (g : given.Over) (c : In_ok-file g)
    → Leaves g.H.Heap.Refused c.args.unix.now.caller.now.thread (append_program c.args.unix.now.roots.now c.args.path.now c.args.bytes)
    c.args.kernel.now
    (to_write most_bytes c.args.bytes c.in_ok-file.file) c.find_file.new.kernel
writing g c =
    further _ (to_write most_bytes _) (append_begun _ _ _ _ _) _ _ c.in_ok-file.ensures

pub returns-in_err-written : goal.returns-in_err-written
returns-in_err-written g c =
    ends_so (ask (write_of most_bytes _ _)) (λ (done : Unit {0}). Answers Done)
    (writing g (goal.at.returns-in_err-written g c).In_ok-file) _ _ _ c.from_residual-in_err-written.ensures.1 (asks _ (write_of most_bytes _ _) _ _ _
    c.write.ensures.ok c.write.ensures.memory _ c.in_err-written.ensures)

pub returns : goal.returns
returns g c =
    let end = c.write.new.self in
    let written = further (ask (write_of most_bytes c.args.bytes c.in_ok-file.file)) (λ (done : Unit {0}). Answers Done)
    (writing g (goal.at.returns g c).In_ok-file) end tt
    (asks _ (write_of most_bytes c.args.bytes c.in_ok-file.file) _ end _ c.write.ensures.ok c.write.ensures.memory _
    c.in_ok-written.ensures) in
    written.leads end (Ok Done) (says c.args.unix.now.caller.now.thread end Done)
