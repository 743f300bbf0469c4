-- Proves the goals of `explain_entry` of src/session.rt that the search leaves open.
use Rattle.std.proofs.Common.{◌++◌, ap, ◌∙◌}
use Rattle.histar_syscall.specs.KernelModel.{state}
use Rattle.histar_raw_explain.specs.Texts.{raw_words, explanation_text}
use Rattle.histar_raw_explain.proofs.CallsExplained.{call_denied, call_granted}
use Rattle.histar_raw_explain.proofs.session.explain_entry.Goals as goal

pub returns-in_default : goal.returns-in_default
returns-in_default g c = call_granted (state c.args.kernel.now) c.args.entry.now _ c.in_default.is c.new.ensures.items

pub returns : goal.returns
returns g c =
    let e = c.args.entry.now in
    let x = c.in_ok-explanation.explanation in
    call_denied (state c.args.kernel.now) e c.in-Some.denied x _ c.in-Some.is c.in_ok-explanation.ensures
    (c.in_ok-push_explanation.ensures ∙ ap (λ l. l ++ explanation_text raw_words e.line e.thread x) c.new-text.ensures.items)
