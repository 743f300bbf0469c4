-- Proves the goals of `arg_of` of src/command.rt, which the search is slow to find.
use Rattle.std.proofs.Common.{◌≡◌, true, Some, sym, ap, ◌∙◌, rules}
use Rattle.std.proofs.lemmas.Result.{IfOk-weaker}
use Rattle.clap.specs.declared.builder.action.ArgAction.TheVariants.{Set, SetTrue}
use Rattle.clap.specs.declared.builder.arg.Arg.{Arg}
use Rattle.clap.specs.Words.{Rule, rule_of}
use Rattle.histar_command_line.specs.Forms.{argument_rule, words_rule}
use Rattle.histar_command_line.proofs.Unless.{rule_is_unless}
use Rattle.histar_command_line.proofs.command.arg_of.Goals as goal

pub returns-in-Flag-clause-rule : goal.returns-in-Flag-clause-rule
returns-in-Flag-clause-rule c =
    ap rule_of c.help.ensures ∙ ap rule_of c.action.ensures
    ∙ ap (λ (rule : Rule). record rule { action = Some SetTrue })
    (ap rule_of c.long.ensures ∙ ap (λ (rule : Rule). record rule { long = Some c.in-Flag.name.now }) c.new.ensures.rule)
    ∙ ap argument_rule (sym c.in-Flag.is)

pub returns-in-Flag-clause-local : goal.returns-in-Flag-clause-local
returns-in-Flag-clause-local c =
    let global = λ (arg : Arg). arg.global in
    ap global c.help.ensures ∙ ap global c.action.ensures ∙ ap global c.long.ensures ∙ c.new.ensures.optional.1

pub returns-in-Word-clause-rule : goal.returns-in-Word-clause-rule
returns-in-Word-clause-rule c =
    ap rule_of c.help-in-Word.ensures ∙ ap rule_of c.required.ensures
    ∙ ap (λ (rule : Rule). record rule { required = true }) c.new-in-Word.ensures.rule ∙ ap argument_rule (sym c.in-Word.is)

pub returns-in-Word-clause-local : goal.returns-in-Word-clause-local
returns-in-Word-clause-local c =
    let global = λ (arg : Arg). arg.global in
    ap global c.help-in-Word.ensures ∙ ap global c.required.ensures ∙ c.new-in-Word.ensures.optional.1

pub returns-in-Unless-clause-rule : goal.returns-in-Unless-clause-rule
returns-in-Unless-clause-rule c =
    IfOk-weaker c.required_unless_present.result _ _
    (λ r adds. rule_is_unless c.help-in-Unless.result r _ _ adds (ap rule_of c.help-in-Unless.ensures ∙ c.new-in-Unless.ensures.rule)
    ∙ ap argument_rule (sym c.in-Unless.is))
    c.required_unless_present.ensures

pub returns-in-Unless-clause-local : goal.returns-in-Unless-clause-local
returns-in-Unless-clause-local c =
    let global = λ (arg : Arg). arg.global in
    IfOk-weaker c.required_unless_present.result _ _
    (λ r adds. ap global adds.0 ∙ ap global c.help-in-Unless.ensures ∙ c.new-in-Unless.ensures.optional.1)
    c.required_unless_present.ensures

pub returns-in-Optional-clause-rule : goal.returns-in-Optional-clause-rule
returns-in-Optional-clause-rule c =
    ap rule_of c.help-in-Optional.ensures ∙ c.new-in-Optional.ensures.rule ∙ ap argument_rule (sym c.in-Optional.is)

pub returns-in-Optional-clause-local : goal.returns-in-Optional-clause-local
returns-in-Optional-clause-local c =
    ap (λ (arg : Arg). arg.global) c.help-in-Optional.ensures ∙ c.new-in-Optional.ensures.optional.1

pub returns-in-Words-clause-rule : goal.returns-in-Words-clause-rule
returns-in-Words-clause-rule c =
    let words : rule_of c.help-in-Words.result ≡ words_rule c.in-Words.name.now = search rules in
    words ∙ ap argument_rule (sym c.in-Words.is)

pub returns-in-Words-clause-local : goal.returns-in-Words-clause-local
returns-in-Words-clause-local c =
    let global = λ (arg : Arg). arg.global in
    ap global c.help-in-Words.ensures ∙ ap global c.num_args.ensures.0 ∙ ap global c.required-in-Words.ensures
    ∙ c.new-in-Words.ensures.optional.1

pub returns-in-Valued-clause-rule : goal.returns-in-Valued-clause-rule
returns-in-Valued-clause-rule c =
    ap rule_of c.help-in-Valued.ensures ∙ ap rule_of c.action-in-Valued.ensures
    ∙ ap (λ (rule : Rule). record rule { action = Some Set })
    (ap rule_of c.long-in-Valued.ensures
    ∙ ap (λ (rule : Rule). record rule { long = Some c.in-Valued.flag.now }) c.new-in-Valued.ensures.rule)
    ∙ ap argument_rule (sym c.in-Valued.is)

pub returns-in-Valued-clause-local : goal.returns-in-Valued-clause-local
returns-in-Valued-clause-local c =
    let global = λ (arg : Arg). arg.global in
    ap global c.help-in-Valued.ensures ∙ ap global c.action-in-Valued.ensures ∙ ap global c.long-in-Valued.ensures
    ∙ c.new-in-Valued.ensures.optional.1

pub returns-in-Lettered-clause-rule : goal.returns-in-Lettered-clause-rule
returns-in-Lettered-clause-rule c =
    ap rule_of c.help-in-Lettered.ensures ∙ ap rule_of c.action-in-Lettered.ensures
    ∙ ap (λ (rule : Rule). record rule { action = Some Set })
    (ap rule_of c.short.ensures
    ∙ ap (λ (rule : Rule). record rule { short = Some c.in-Lettered.letter })
    (ap rule_of c.long-in-Lettered.ensures
    ∙ ap (λ (rule : Rule). record rule { long = Some c.in-Lettered.flag.now }) c.new-in-Lettered.ensures.rule))
    ∙ ap argument_rule (sym c.in-Lettered.is)

pub returns-in-Lettered-clause-local : goal.returns-in-Lettered-clause-local
returns-in-Lettered-clause-local c =
    let global = λ (arg : Arg). arg.global in
    ap global c.help-in-Lettered.ensures ∙ ap global c.action-in-Lettered.ensures ∙ ap global c.short.ensures
    ∙ ap global c.long-in-Lettered.ensures ∙ c.new-in-Lettered.ensures.optional.1
