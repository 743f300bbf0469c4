-- Proves the goals of `is_somebody` of src/claims.rt that the search leaves open.
use Rattle.std.proofs.Common.{◌||◌, ap, map, sym, ◌∙◌}
use Rattle.std.specs.List.{list_any}
use Rattle.histar_base.specs.Paths.{same}
use Rattle.histar_flat.specs.declared.calls.User.{User}
use Rattle.histar_never.proofs.Parts.{any_test}
use Rattle.histar_never.proofs.claims.is_somebody.Goals as goal

pub returns-else-eq : goal.returns-else-eq
returns-else-eq c =
    let names = map (λ (u : User). u.name) c.args.accounts.now.users in
    c.is_declared.ensures ∙ ap (list_any (λ (u : User). same c.args.name u.name)) c.users.ensures.users
    ∙ sym (any_test (same c.args.name) (λ (u : User). u.name) c.args.accounts.now.users)
    ∙ ap (λ b. b || list_any (same c.args.name) names) (c.if-eq.ensures ∙ ap (same c.args.name) c.nobody.ensures)
