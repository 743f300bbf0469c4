-- Proves the goals of `read_unix_line` of src/reader.rt that the search leaves open.
use Rattle.std.proofs.Common.{◌≡◌, Option, None, refl, sym, ◌∙◌, subst}
use Rattle.histar_io.proofs.Residuals.{passed_on}
use Rattle.histar_script.specs.Script.{ScriptModel}
use Rattle.histar_mixed.specs.Mixed.{IsLineFault}
use Rattle.histar_mixed.proofs.ItemsTaken.{adds_call, fault_of, line_lost, line_taken}
use Rattle.histar_mixed.proofs.reader.read_unix_line.Goals as goal

pub returns-in_default : goal.returns-in_default
returns-in_default c = (refl, line_lost c.args.script.now c.args.number c.args.line.now (sym c.in_ok-item.ensures.ok ∙ c.in_default.is))

pub returns-in_err-add : goal.returns-in_err-add
returns-in_err-add c =
    let taken = line_taken c.args.script.now c.args.number c.args.line.now c.in-Some.item _ (sym c.in_ok-item.ensures.ok ∙ c.in-Some.is) refl in
    rw (passed_on _ _ c.from_residual-in_err-add.ensures.1) (subst (λ (o : Option ScriptModel). IsLineFault c.args.number (o ≡ None)
    c.in_err-add.field-0.0) (sym taken)
    (fault_of c.args.number c.add.new.self _ c.in_err-add.field-0.0 c.in_err-add.ensures.ok))

pub returns : goal.returns
returns c = (
  line_taken c.args.script.now c.args.number c.args.line.now c.in-Some.item _ (sym c.in_ok-item.ensures.ok ∙ c.in-Some.is) c.in_ok-add.ensures.ok,
  rw c.is_call-calls.ensures (adds_call c.args.script.now c.args.number c.in-Some.item c.add.new.self c.in_ok-add.ensures.ok),
)
