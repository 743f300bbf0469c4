-- Proves the goal of `written_in` of src/written.rt that the search leaves open.
use Rattle.std.proofs.Common.{◌≡◌, ◌+◌, ◌++◌, [], ◌∷◌, take, length, ◌<◌, sym, ap, ◌∙◌, subst}
use Rattle.std.proofs.lemmas.List.{take_more}
use Rattle.histar_policy.specs.declared.notes.Note.{Note}
use Rattle.histar_policy.specs.Writes.{AreWrites}
use Rattle.histar_policy.proofs.Writing.{writes_more}
use Rattle.histar_policy.proofs.written.written_in.Goals as goal

pub notes-preserved : goal.notes-preserved
notes-preserved c =
    let script = c.args.script.now in
    let i = c.notes.note-index in
    let note = c.note-item.result in
    let more : i < length script = c.notes-test.true in
    let taken : take (i + 1) script ≡ take i script ++ note ∷ [] =
    take_more script i note more ∙ ap (λ (n : Note). take i script ++ n ∷ []) (sym c.note-item.is) in
    subst (AreWrites c.add_write.new.written) (sym taken)
    (writes_more c.notes.written c.add_write.new.written (take i script) note c.notes.invariant c.in_ok-add_write.ensures)
