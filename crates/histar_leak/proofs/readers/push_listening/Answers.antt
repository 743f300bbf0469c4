-- Proves the goals of `push_listening` of src/readers.rt that the search leaves open.
use Rattle.std.proofs.Common.{◌++◌, ◌∙◌, ap, sym}
use Rattle.histar_leak.specs.Findings.{trusted_paragraph}
use Rattle.histar_leak.proofs.Pieces.{free_listeners, ok_so}
use Rattle.histar_leak.proofs.readers.push_listening.Goals as goal

pub returns-then-is_jobless : goal.returns-then-is_jobless
returns-then-is_jobless c =
    let secret = c.args.secret.now in
    let whom = c.requires
    ∙ free_listeners secret.groups.now secret.classes.now secret.members.now c.args.member.now (sym c.is_jobless.ensures ∙ c.if-is_jobless.true) in
    ok_so c.push_trusted_paragraph.result
    (λ e. e
    ∙ ap (λ w. c.args.text.now.items ++ trusted_paragraph secret.path.now secret.bytes.now c.args.member.now w) whom) c.push_trusted_paragraph.ensures
