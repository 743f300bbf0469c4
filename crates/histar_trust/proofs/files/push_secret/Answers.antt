-- Proves the goals of `push_secret` of src/files.rt that the search leaves open.
use Rattle.std.proofs.Common.{◌≡◌, ◌∙◌, ◌++◌, true, false, arith, rules, sym}
use Rattle.std.specs.Prelude.{codes, map}
use Rattle.std.proofs.lemmas.Result.{on_ok_weaker}
use Rattle.histar_secrecy.specs.ShownRoles.{flat_class}
use Rattle.histar_trust.proofs.Pieces.{done_so, from_not, from_not_false}
use Rattle.histar_trust.proofs.ShownSecrets.{none_added, one_added}
use Rattle.histar_trust.proofs.files.push_secret.Goals as goal

pub returns-then-not-secret : goal.returns-then-not-secret
returns-then-not-secret c =
    let no : c.is_secret-secret.result ≡ false = first_of (assumption c, cc, search (rules, from_not), grind (arith, from_not)) in
    none_added c.args.users.now c.args.members.now c.args.node.now (map flat_class c.args.classes.now) c.args.text.now.items
    (sym c.is_secret-secret.ensures ∙ no)

pub returns : goal.returns
returns c =
    let yes : c.is_secret-secret.result ≡ true = first_of (assumption c, cc, search (rules, from_not_false), grind (arith, from_not_false)) in
    on_ok_weaker c.extend_from_slice.result
    (λ e. one_added c.args.users.now c.args.members.now c.args.node.now (map flat_class c.args.classes.now) c.args.text.now.items
    (sym c.is_secret-secret.ensures ∙ yes) c.in_ok-push_path.ensures.ok c.in_ok-push_members.ensures e)
    (done_so _ (c.push_members.new.text.items ++ codes "\n") c.push_members.new.text.items c.extend_from_slice.result
    c.extend_from_slice.ensures.items)
