-- Proves the goals of `warnings_on` of src/warnings.rt that the search leaves open.
use Rattle.std.proofs.Common.{refl}
use Rattle.histar_policy.proofs.Said.{at_start, went_on}
use Rattle.histar_policy.proofs.warnings.warnings_on.Goals as goal

pub notes-init : goal.notes-init
notes-init c =
    at_start c.args.file.now c.args.script.now c.new-started.result c.add.new.self c.in_ok-used.used c.in_ok-written.written
    c.new-text.result.items c.new-text.ensures.items c.new-started.ensures c.zero.ensures c.in_ok-add.ensures c.in_ok-used.ensures
    c.in_ok-written.ensures

pub notes-preserved : goal.notes-preserved
notes-preserved c =
    went_on c.args.file.now c.args.script.now c.notes.note-index c.notes.known
    (record { started = c.add_child.new.started; used = c.notes.known.used; written = c.notes.known.written })
    c.notes.text.items c.push_warnings.new.text.items c.note-item.result c.notes.invariant c.notes-test.true c.note-item.is
    c.in_ok-push_warnings.ensures refl refl c.in_ok-add_child.ensures
