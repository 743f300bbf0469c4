-- Proves the goals of `changes_text` of src/changes.rt that the search leaves open.
use Rattle.histar_access.proofs.Comparing.{of_processes, of_users}
use Rattle.histar_access.proofs.changes.changes_text.Goals as goal

pub returns-then-options : goal.returns-then-options
returns-then-options c =
    of_users c.args.options c.args.old.now c.args.new.now c.if-options.true c.user_changes_text.result c.user_changes_text.ensures

pub returns-else-options : goal.returns-else-options
returns-else-options c =
    of_processes c.args.options c.args.old.now c.args.new.now c.if-options.false c.process_changes_text.result c.process_changes_text.ensures
