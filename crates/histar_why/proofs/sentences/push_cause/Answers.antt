-- Proves the goals of `push_cause` of src/sentences.rt that the search leaves open.
use Rattle.std.proofs.Common.{◌++◌, sym, ap, ◌∙◌, append_assoc}
use Rattle.std.specs.Prelude.{codes}
use Rattle.histar_reasons.specs.Sentences.{cause_text}
use Rattle.histar_why.specs.Causes.{cause_of}
use Rattle.histar_why.specs.Names.{process_of}
use Rattle.histar_why.specs.declared.causes.Cause.{Cause}
use Rattle.histar_why.proofs.Lists.{joined}
use Rattle.histar_why.proofs.sentences.push_cause.Goals as goal

pub returns-in_ok-push_about_name-in-IsGrouped : goal.returns-in_ok-push_about_name-in-IsGrouped
returns-in_ok-push_about_name-in-IsGrouped c =
    let group = codes "it is of group " ++ c.in-IsGrouped.group ++ codes ", which user " in
    joined c.push_about_name-in-IsGrouped-2.result c.args.text.now.items c.push_about_name-in-IsGrouped.new.text.items
    c.push_about_name-in-IsGrouped-2.new.text.items group (c.args.caller.now.user ++ codes " is not in") _
    c.in_ok-push_about_name-in-IsGrouped.ensures c.push_about_name-in-IsGrouped-2.ensures
    (sym (append_assoc group c.args.caller.now.user (codes " is not in"))
    ∙ sym (ap (λ (x : Cause). cause_text c.args.me.now (process_of c.args.caller.now) (cause_of x)) c.in-IsGrouped.is))
