-- Proves the goal of `used_names` of src/warnings.rt that the search leaves open.
use Rattle.std.proofs.Common.{◌≡◌, ◌+◌, ◌++◌, [], ◌∷◌, take, length, ◌<◌, sym, ap, ◌∙◌, subst}
use Rattle.std.proofs.lemmas.List.{take_more}
use Rattle.histar_flat.specs.Words.{ProcName}
use Rattle.histar_policy.specs.declared.notes.Note.{Note}
use Rattle.histar_policy.specs.Names.{Adds, at_or_above}
use Rattle.histar_policy.specs.Sets.{AreUsed}
use Rattle.histar_policy.proofs.Used.{used_more}
use Rattle.histar_policy.proofs.warnings.used_names.Goals as goal

pub notes-preserved : goal.notes-preserved
notes-preserved c =
    let script = c.args.script.now in
    let i = c.notes.note-index in
    let note = c.note-item.result in
    let more : i < length script = c.notes-test.true in
    let taken : take (i + 1) script ≡ take i script ++ note ∷ [] =
    take_more script i note more ∙ ap (λ (n : Note). take i script ++ n ∷ []) (sym c.note-item.is) in
    let adds =
    subst (λ (p : ProcName). Adds c.notes.used c.add_way.new.self (at_or_above p)) c.numbers.ensures.value
    c.in_ok-add_way.ensures.added in
    subst (AreUsed c.add_way.new.self) (sym taken) (used_more c.notes.used c.add_way.new.self (take i script) note c.notes.invariant adds)
