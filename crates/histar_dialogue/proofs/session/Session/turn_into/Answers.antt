-- Proves the goals of `turn_into` of src/session.rt that the search leaves open.
use Rattle.std.proofs.Common.{◌≡◌, List, ℕ, Err, subst}
use Rattle.histar_script.specs.declared.fault.Fault.{Fault}
use Rattle.histar_script.specs.declared.fault.Fault.TheVariants.{BadScript}
use Rattle.histar_script.specs.Reading.{script_of}
use Rattle.histar_dialogue.specs.Running.{Ran, RunsText}
use Rattle.histar_dialogue.proofs.Becoming.{lacks_now, ran_text}
use Rattle.histar_dialogue.proofs.session.Session.turn_into.Goals as goal

pub returns-in-Ok-clause-ok : goal.returns-in-Ok-clause-ok
returns-in-Ok-clause-ok c =
    ran_text c.args.first c.args.self.now c.restart.new.self c.args.text c.args.undone c.in-Ok.running c.in-Ok.said.items
    (subst (λ (l : List ℕ). Ran c.args.first l c.in-Ok.running c.in-Ok.said.items) c.as_slice.ensures.value c.in-Ok.ensures)
    c.restart.ensures

pub returns-in-Err-BadScript-clause-ok : goal.returns-in-Err-BadScript-clause-ok
returns-in-Err-BadScript-clause-ok c =
    let bad =
    subst (λ (f : Fault). RunsText c.args.first c.as_slice.result.now (Err f)) c.in-Err-BadScript.field-0-is c.in-Err-BadScript.ensures in
    lacks_now c.args.first c.args.self.now c.restart-in-Err-BadScript.new.self c.args.text c.args.undone _ c.new.result.items
    (subst (λ (l : List ℕ). script_of l ≡ Err (BadScript c.in-Err-BadScript.field-0-0)) c.as_slice.ensures.value bad)
    c.restart-in-Err-BadScript.ensures c.new.ensures.items
