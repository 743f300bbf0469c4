-- Proves the goals of `read` of src/read.rt that the search leaves open.
use Rattle.std.proofs.Common.{Ok}
use Rattle.histar_flat.specs.declared.replies.Reply.TheVariants.{Data}
use Rattle.histar_programs.specs.Programs.Program.{Answers}
use Rattle.histar_programs.specs.Parts.{ask}
use Rattle.histar_programs.proofs.Exits.{Leaves, ends_so, further}
use Rattle.histar_programs.proofs.Running.{grants, refuses, says}
use Rattle.histar_calls.specs.Read.{read_program}
use Rattle.histar_calls.proofs.FileCalls.{read_begun, read_of, to_read}
use Rattle.histar_calls.proofs.read.read.Given as given
use Rattle.histar_calls.proofs.read.read.Goals as goal
use Rattle.histar_calls.proofs.read.read.Goals.{In_ok-file}

pub returns-in_err-file : goal.returns-in_err-file
returns-in_err-file g c =
    ends_so _ to_read (read_begun _ _ _ _) _ _ _ c.from_residual.ensures.1 c.in_err-file.ensures

-- once the file was found, it is left to read it
reading : (g : given.Over) (c : In_ok-file g)
    → Leaves g.H.Heap.Refused c.args.unix.now.caller.now.thread (read_program c.args.unix.now.roots.now c.args.path.now) c.args.kernel.now
    (to_read c.in_ok-file.file) c.find_file.new.kernel
reading g c =
    further _ to_read (read_begun _ _ _ _) _ _ c.in_ok-file.ensures

pub returns-in_err-bytes : goal.returns-in_err-bytes
returns-in_err-bytes g c =
    ends_so (ask (read_of _)) (λ bytes. Answers (Data bytes)) (reading g (goal.at.returns-in_err-bytes g c).In_ok-file)
    _ _ _ c.from_residual-in_err-bytes.ensures.1 (refuses _ (read_of _) _ _ _ _ c.in_err-bytes.ensures.ok c.in_err-bytes.ensures.memory)

pub returns : goal.returns
returns g c =
    let end = c.read_copy.new.self in
    let bytes = c.in_ok-bytes.bytes in
    let done = further (ask (read_of _)) (λ found. Answers (Data found)) (reading g (goal.at.returns g c).In_ok-file) end bytes
    (grants _ (read_of _) _ end bytes c.in_ok-bytes.ensures.ok.0 c.in_ok-bytes.ensures.ok.1) in
    done.leads end (Ok _) (says _ end _)
