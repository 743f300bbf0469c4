-- Proves the goals of `+outermost_job` of src/reasons.rt that the search leaves open.
use Rattle.std.proofs.Common.{◌≡◌, List, ◌∷◌, ◌∙◌, ap, drop, sym}
use Rattle.std.specs.Prelude.{map}
use Rattle.std.proofs.lemmas.List.{drop_more, take_rest}
use Rattle.histar_secrecy.specs.ShownRoles.{flat_class}
use Rattle.histar_trust.specs.declared.ancestors.Ancestor.{Ancestor}
use Rattle.histar_trust.specs.Findings.{named_jobs, shown_job}
use Rattle.histar_trust.proofs.Lineages.{first_binds, first_binds_not}
use Rattle.histar_trust.proofs.reasons.+outermost_job.Goals as goal

pub returns-then-is_bound_as : goal.returns-then-is_bound_as
returns-then-is_bound_as t c =
    let ancestors = c.args.ancestors.now in
    let parts : ancestors ≡ c.first-item.result ∷ drop 1 ancestors =
    drop_more ancestors 0 c.first-item.result c.in-len1-up.len_at_least ∙ ap (λ (a : Ancestor). a ∷ drop 1 ancestors) (sym c.first-item.is) in
    first_binds c.args.groups.now (map flat_class c.args.classes.now) c.args.user parts (sym c.is_bound_as.ensures ∙ c.if-is_bound_as.true)

pub returns : goal.returns
returns t c =
    let ancestors = c.args.ancestors.now in
    let parts : ancestors ≡ c.first-item.result ∷ drop 1 ancestors =
    drop_more ancestors 0 c.first-item.result c.in-len1-up.len_at_least ∙ ap (λ (a : Ancestor). a ∷ drop 1 ancestors) (sym c.first-item.is) in
    c.outermost_job.ensures
    ∙ ap (λ (l : List Ancestor). shown_job c.args.groups.now (map flat_class c.args.classes.now) c.args.user (map named_jobs l))
    (take_rest ancestors 1)
    ∙ first_binds_not c.args.groups.now (map flat_class c.args.classes.now) c.args.user parts (sym c.is_bound_as.ensures ∙ c.if-is_bound_as.false)
