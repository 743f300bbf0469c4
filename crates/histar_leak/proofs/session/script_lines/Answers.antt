-- Proves the goals of `script_lines` of src/session.rt that the search leaves open.
use Rattle.histar_leak.specs.LeakText.{leak_text}
use Rattle.histar_leak.proofs.Runs.{state_of_script, text_of_script}
use Rattle.histar_leak.proofs.session.script_lines.Goals as goal

pub leak_lines-requires : goal.leak_lines-requires
leak_lines-requires g c = state_of_script c.args.at c.args.text.now c.args.machine.now c.requires _ c.accounts.ensures c.in_ok-script.ensures.exact

pub returns : goal.returns
returns g c = text_of_script c.args.at c.args.text.now c.args.machine.now c.requires _ c.accounts.ensures c.in_ok-script.ensures.exact
    (λ a f. leak_text a f c.args.path.now) _ c.in_ok-leak_lines.ensures
