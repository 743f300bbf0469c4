-- Proves the goals of `json_lines` of src/facts.rt that the search leaves open.
use Rattle.std.proofs.Common.{ℕ, List, sym, subst}
use Rattle.std.proofs.lemmas.Result.{IfOk-weaker}
use Rattle.histar_script.specs.Lines.{lines_of}
use Rattle.histar_script.specs.Laws.{EndsItsLines}
use Rattle.histar_output.specs.Facts.{AreFacts}
use Rattle.histar_output.proofs.FactLemmas.{facts_end, lines_are_facts}
use Rattle.histar_output.proofs.facts.json_lines.Goals as goal

pub returns-clause-facts : goal.returns-clause-facts
returns-clause-facts c =
    let lines = lines_of c.args.text.now in
    IfOk-weaker c.fact_lines.result _ _
    (λ out is. subst (λ (t : List ℕ). AreFacts c.args.form lines (lines_of t)) (sym is) (lines_are_facts c.args.form lines)) c.fact_lines.ensures

pub returns-clause-ends : goal.returns-clause-ends
returns-clause-ends c =
    IfOk-weaker c.fact_lines.result _ _
    (λ out is. subst EndsItsLines (sym is) (facts_end c.args.form (lines_of c.args.text.now))) c.fact_lines.ensures
