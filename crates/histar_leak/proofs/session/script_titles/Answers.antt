-- Proves the goals of `script_titles` of src/session.rt that the search leaves open.
use Rattle.std.proofs.Common.{None}
use Rattle.histar_leak.specs.Titles.{titles_text}
use Rattle.histar_leak.proofs.Runs.{state_of_script, text_of_script}
use Rattle.histar_leak.proofs.session.script_titles.Goals as goal

pub all_titles-requires : goal.all_titles-requires
all_titles-requires g c = state_of_script None c.args.text.now c.args.machine.now c.requires _ c.accounts.ensures c.in_ok-script.ensures.exact

pub returns : goal.returns
returns g c = text_of_script None c.args.text.now c.args.machine.now c.requires _ c.accounts.ensures c.in_ok-script.ensures.exact
    titles_text _ c.in_ok-all_titles.ensures
