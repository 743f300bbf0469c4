-- Proves the goals of `read_behind` of src/session.rt that the search leaves open.
use Rattle.std.proofs.Common.{List, ℕ, ◌++◌, ap, ◌∙◌, subst, rules}
use Rattle.std.proofs.lemmas.Result.{IfOk-weaker}
use Rattle.histar_dialogue.specs.Running.{Ran}
use Rattle.histar_dialogue.proofs.Following.{ran_again, refused}
use Rattle.histar_dialogue.proofs.session.Session.read_behind.Goals as goal

pub returns-in-Ok-clause-ok : goal.returns-in-Ok-clause-ok
returns-in-Ok-clause-ok c =
    let is = c.in_ok-longer.ensures ∙ ap (λ (l : List ℕ). l ++ c.args.more.now) c.as_slice.ensures.value in
    ran_again c.args.self.now c.restart.new.self c.args.more.now c.in_ok-longer.longer.items is c.in-Ok.running c.in-Ok.said.items c.requires
    (subst (λ (l : List ℕ). Ran c.args.self.now.count l c.in-Ok.running c.in-Ok.said.items) c.as_slice-2.ensures.value c.in-Ok.ensures)
    c.restart.ensures

pub returns-in-Err-BadScript-clause-ok : goal.returns-in-Err-BadScript-clause-ok
returns-in-Err-BadScript-clause-ok c =
    let is = c.in_ok-longer.ensures ∙ ap (λ (l : List ℕ). l ++ c.args.more.now) c.as_slice.ensures.value in
    IfOk-weaker c.refuse.result _ _
    (λ said h. refused c.args.self.now c.refuse.new.self c.args.more.now c.in_ok-longer.longer.items is c.in-Err-BadScript.bad said.items
    c.requires (search rules) h)
    c.refuse.ensures.ok
