-- Proves the goals of `empty_objects` of src/empty_objects.rt that the search leaves open.
use Rattle.histar_syscall.proofs.Beginnings.{empty_made}
use Rattle.histar_syscall.proofs.empty_objects.empty_objects.Goals as goal

pub returns-clause-ok : goal.returns-clause-ok
returns-clause-ok g c =
    empty_made _ _ _ c.new-objects.ensures c.in_ok-push_root.ensures.state c.in_ok-add_boot_thread.ensures.ok
