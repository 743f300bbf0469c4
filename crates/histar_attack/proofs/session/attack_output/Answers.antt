-- Proves the goals of `attack_output` of src/session.rt that the search leaves open.
use Rattle.histar_attack.proofs.Attacked.{output_given}
use Rattle.histar_attack.proofs.session.attack_output.Goals as goal

pub returns : goal.returns
returns c =
    output_given c.args.options c.args.job.now c.args.text.now c.in_ok-accounts.field-0.accounts c.in_ok-accounts.field-0.items.items c.in-Ok.machine
    c.in_ok-parts.parts c.run_attack-output.result c.in_ok-accounts.ensures.ok
    c.in-Ok.ensures.starts (c.in-Ok.ensures.shows, c.in_ok-parts.ensures.before, c.in_ok-parts.ensures.later)
    (c.run_attack-output.ensures.ok, c.run_attack-output.ensures.faults)
