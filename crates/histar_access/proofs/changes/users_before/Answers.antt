-- Proves the goals of `users_before` of src/changes.rt that the search leaves open.
use Rattle.histar_prefix.specs.Prefix.{state_before}
use Rattle.histar_access.proofs.Runs.{is_shown}
use Rattle.histar_access.proofs.changes.users_before.Goals as goal

pub users_table_of-table-requires : goal.users_table_of-table-requires
users_table_of-table-requires c = is_shown c.args.at c.args.text.now c.in_ok-machine.machine c.in_ok-machine.ensures

pub returns : goal.returns
returns c =
    let is = c.in_ok-machine.ensures in
    record {
      script = is.script;
      is_read = is.is_read;
      shows = (rw c.in_ok-table.was at c.users_table_of-table.ensures) is.script.accounts (state_before c.args.at is.script) is.shows is.named;
    }
