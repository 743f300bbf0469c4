-- Proves the goals of `decide` of src/decide.rt that the search leaves open: a call whose answer is a number, labels, an entry or bytes.
use Rattle.std.proofs.Common.{refl}
use Rattle.histar_rules.specs.declared.raw.RawCall.TheVariants.{MakeCategory, OwnLabel, MakeSegment, MakeContainer, MakeThread, MakeGate}
use Rattle.histar_rules.specs.declared.raw.RawCall.TheVariants.{Enter, Read, Write, Unlink, LabelOf}
use Rattle.histar_syscall.specs.declared.answers.Answer.TheVariants as answers
use Rattle.histar_syscall.proofs.Deciding.{turn, as_value}
use Rattle.histar_syscall.proofs.decide.decide.Goals as goal

pub returns-in-MakeCategory-clause-ok : goal.returns-in-MakeCategory-clause-ok
returns-in-MakeCategory-clause-ok g c =
    rw c.in-MakeCategory.is (as_value (turn c.args.objects.now c.make_category.new.objects c.args.thread MakeCategory) _ answers.Category
    (λ n is. record { answer = n; determined = is; is_value = refl })
    _ _ c.make_category.ensures.ok c.category.ensures)

pub returns-in-OwnLabel-clause-ok : goal.returns-in-OwnLabel-clause-ok
returns-in-OwnLabel-clause-ok g c =
    rw c.in-OwnLabel.is (as_value (turn c.args.objects.now c.args.objects.now c.args.thread OwnLabel) _
    (λ own. answers.OwnLabel own.0 own.1)
    (λ own is. record { answer = own; determined = is; is_value = refl })
    _ _ c.own_label.ensures.ok c.own.ensures)

pub returns-in-MakeSegment-clause-ok : goal.returns-in-MakeSegment-clause-ok
returns-in-MakeSegment-clause-ok g c =
    rw c.in-MakeSegment.is (as_value (turn c.args.objects.now c.copied_segment.new.objects c.args.thread
    (MakeSegment c.in-MakeSegment.container c.in-MakeSegment.label c.in-MakeSegment.bytes))
    _ answers.Object
    (λ n is. record { answer = n; determined = is; is_value = refl })
    _ _ (rw c.new-maker.ensures at c.copied_segment.ensures.ok) c.made.ensures)

pub returns-in-MakeContainer-clause-ok : goal.returns-in-MakeContainer-clause-ok
returns-in-MakeContainer-clause-ok g c =
    rw c.in-MakeContainer.is (as_value (turn c.args.objects.now c.copied_container.new.objects c.args.thread
    (MakeContainer c.in-MakeContainer.container c.in-MakeContainer.label))
    _ answers.Object
    (λ n is. record { answer = n; determined = is; is_value = refl })
    c.copied_container.result c.made-in-MakeContainer.result
    (rw c.new-maker-in-MakeContainer.ensures at c.copied_container.ensures.ok) c.made-in-MakeContainer.ensures)

pub returns-in-MakeThread-clause-ok : goal.returns-in-MakeThread-clause-ok
returns-in-MakeThread-clause-ok g c =
    rw c.in-MakeThread.is (as_value (turn c.args.objects.now c.copied_thread.new.objects c.args.thread
    (MakeThread c.in-MakeThread.container c.in-MakeThread.label c.in-MakeThread.clearance))
    _ answers.Object
    (λ n is. record { answer = n; determined = is; is_value = refl })
    c.copied_thread.result c.made-in-MakeThread.result
    (rw c.new-maker-in-MakeThread.ensures at c.copied_thread.ensures.ok) c.made-in-MakeThread.ensures)

pub returns-in-MakeGate-clause-ok : goal.returns-in-MakeGate-clause-ok
returns-in-MakeGate-clause-ok g c =
    rw c.in-MakeGate.is (as_value (turn c.args.objects.now c.copied_gate.new.objects c.args.thread
    (MakeGate c.in-MakeGate.container c.in-MakeGate.label c.in-MakeGate.clearance c.in-MakeGate.entry))
    _ answers.Object
    (λ n is. record { answer = n; determined = is; is_value = refl })
    _ _ (rw c.new-maker-in-MakeGate.ensures at c.copied_gate.ensures.ok) c.made-in-MakeGate.ensures)

pub returns-in-Enter-clause-ok : goal.returns-in-Enter-clause-ok
returns-in-Enter-clause-ok g c =
    rw c.in-Enter.is (as_value (turn c.args.objects.now c.enter.new.objects c.args.thread
    (Enter c.in-Enter.container c.in-Enter.gate c.in-Enter.wanted c.in-Enter.clearance c.in-Enter.verify))
    _ answers.Entry
    (λ entry is. record { answer = entry; determined = is; is_value = refl })
    c.enter.result c.entry.result
    (rw (c.new-access.ensures, c.label-in-Enter.ensures, c.label-in-Enter-2.ensures, c.label-in-Enter-3.ensures) at c.enter.ensures.ok)
    c.entry.ensures)

pub returns-in-Read-clause-ok : goal.returns-in-Read-clause-ok
returns-in-Read-clause-ok g c =
    rw c.in-Read.is (as_value (turn c.args.objects.now c.read.new.objects c.args.thread (Read c.in-Read.container c.in-Read.segment))
    _ answers.Bytes
    (λ bytes is. record { answer = bytes; determined = is; is_value = refl })
    _ _ (rw c.new-access-in-Read.ensures at c.read.ensures.ok) c.bytes.ensures)

pub returns-in-LabelOf-clause-ok : goal.returns-in-LabelOf-clause-ok
returns-in-LabelOf-clause-ok g c =
    rw c.in-LabelOf.is (as_value (turn c.args.objects.now c.label_of.new.self c.args.thread (LabelOf c.in-LabelOf.container c.in-LabelOf.object))
    _ answers.Label
    (λ label is. record { answer = label; determined = is; is_value = refl })
    _ _ (rw c.new-access-in-LabelOf.ensures at c.label_of.ensures.ok) c.label-in-LabelOf.ensures)

pub returns-in-Write-clause-ok : goal.returns-in-Write-clause-ok
returns-in-Write-clause-ok g c =
    rw c.in-Write.is (as_value (turn c.args.objects.now c.write.new.objects c.args.thread
    (Write c.in-Write.container c.in-Write.segment c.in-Write.keep c.in-Write.bytes))
    _ (λ _. answers.Done)
    (λ done is. record { answer = done; determined = tt; is_value = refl })
    _ _ (rw c.new-access-in-Write.ensures at c.write.ensures.ok) c.done-in-Write.ensures)

pub returns-in-Unlink-clause-ok : goal.returns-in-Unlink-clause-ok
returns-in-Unlink-clause-ok g c =
    rw c.in-Unlink.is (as_value (turn c.args.objects.now c.unlink.new.objects c.args.thread (Unlink c.in-Unlink.container c.in-Unlink.object))
    _ (λ _. answers.Done)
    (λ done is. record { answer = done; determined = tt; is_value = refl })
    _ _ (rw c.new-access-in-Unlink.ensures at c.unlink.ensures.ok) c.done-in-Unlink.ensures)
