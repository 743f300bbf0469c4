-- Proves the goals of `push_asking` of src/lines.rt that the search leaves open.
use Rattle.std.proofs.Common.{◌++◌, ◌∙◌, ap}
use Rattle.histar_flat.specs.declared.calls.UnixCall.TheVariants.{Exit, Read, Status}
use Rattle.histar_flat.specs.declared.replies.Reply.TheVariants.{Data, Done, Exited, Running}
use Rattle.histar_leak.specs.Findings.{replied}
use Rattle.histar_leak.proofs.Pieces.{four_parts, ok_so}
use Rattle.histar_leak.proofs.lines.push_asking.Goals as goal

pub returns : goal.returns
returns c =
    let me = c.args.me.now in
    let other = c.args.other.now in
    let read = replied (me, Read c.args.path.now) (Data c.args.bytes.now) in
    let runs = replied (other, Status me) Running in
    let exit = replied (me, Exit 1) Done in
    let exited = replied (other, Status me) (Exited 1) in
    ok_so c.push_exited.result
    (λ last. last ∙ ap (λ t. t ++ exited) (c.in_ok-push_exit.ensures ∙ ap (λ t. t ++ exit) (c.in_ok-push_running.ensures
    ∙ ap (λ t. t ++ runs) c.in_ok-push_read.ensures)) ∙ four_parts c.args.text.now.items read runs exit exited)
    c.push_exited.ensures
