-- Proves the goals of `declared_on` of src/declaration_rules.rt that the search leaves open.
use Rattle.std.proofs.Common.{◌≡◌, length, sym, ap, ◌∙◌, rules}
use Rattle.histar_script.proofs.LineLemmas.{no_lines}
use Rattle.histar_lint.specs.Rules.{declared_from}
use Rattle.histar_lint.proofs.declaration_rules.declared_on.Goals as goal

pub returns : goal.returns
returns c =
    let none : length c.lines.rest.now ≡ 0 = search rules in
    sym (c.lines.invariant.so_far ∙ ap (λ lines. declared_from c.lines.number lines c.args.name.now) (no_lines c.lines.rest.now none))
