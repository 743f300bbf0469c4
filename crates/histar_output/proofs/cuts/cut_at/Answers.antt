-- Proves the goals of `cut_at` of src/cuts.rt that the search leaves open.
use Rattle.std.proofs.Common.{◌≡◌, ◌+◌, length, drop, ◌++◌, sym, ap, ap₂, ◌∙◌, arith}
use Rattle.std.specs.Prelude.{Some}
use Rattle.histar_output.proofs.CutLemmas.{cut, uncut}
use Rattle.histar_output.specs.Cuts.{cut_at}
use Rattle.histar_output.proofs.cuts.cut_at.Goals as goal
use Rattle.histar_output.proofs.cuts.cut_at.Goals.{After-before-in-Some-1}

pub returns-in-None-clause-before : goal.returns-in-None-clause-before
returns-in-None-clause-before c = sym (ap (λ p. p.0) (uncut c.args.mark.now c.args.text.now c.in-None.ensures.cases))

pub returns-in-None-clause-behind : goal.returns-in-None-clause-behind
returns-in-None-clause-behind c = sym (ap (λ p. p.1) (uncut c.args.mark.now c.args.text.now c.in-None.ensures.cases))

-- both parts of the text
parts : (c : After-before-in-Some-1) → (c.in-Some.before.now, Some c.in-Some.behind.now) ≡ cut_at c.args.mark.now c.args.text.now
parts c =
    let e = c.in-Some.ensures.cases in
    let text = c.args.text.now in
    let ends : e.1 ≡ e.0 + length c.args.mark.now = e.2.1.ends in
    let found : drop e.0 text ≡ c.args.mark.now ++ drop (e.0 + length c.args.mark.now) text =
    e.2.1.split ∙ ap (λ k. c.args.mark.now ++ drop k text) ends in
    ap₂ (λ a b. (a, Some b)) e.3 (e.4 ∙ ap (λ k. drop k text) ends) ∙ sym (cut c.args.mark.now text e.0 (omega arith) e.2.0 found)

pub returns-in-Some-clause-before : goal.returns-in-Some-clause-before
returns-in-Some-clause-before c = ap (λ p. p.0) (parts c)

pub returns-in-Some-clause-behind : goal.returns-in-Some-clause-behind
returns-in-Some-clause-behind c = ap (λ p. p.1) (parts c)
