-- Proves the goals of `may_write` of src/rights.rt that the search leaves open.
use Rattle.std.specs.Prelude.{Bool, ◌&&◌, List, ℕ, nat_eq}
use Rattle.std.specs.List.{list_all, list_any}
use Rattle.std.proofs.Common.{ap, sym, ◌∙◌}
use Rattle.histar_flat.specs.Accounts.{Accounts}
use Rattle.histar_flat.specs.Classes.{Process, may_read, may_write}
use Rattle.histar_secrecy.specs.ShownRoles.{flat_class, of_groups, with_rights}
use Rattle.histar_secrecy.proofs.NumberedJobs.{writes_scratch}
use Rattle.histar_secrecy.proofs.rights.may_write.Goals as goal

pub returns-then-may_read : goal.returns-then-may_read
returns-then-may_read c =
    let accounts : Accounts = of_groups c.args.groups.now in
    let p : Process = with_rights c.args.user c.args.jobs.now c.args.held.now in
    let among : List ℕ → Bool = λ of. list_all (λ other. list_any (nat_eq other) of) c.args.jobs.now in
    let reads = sym c.if-may_read.true ∙ c.may_read.ensures ∙ ap (λ class. may_read accounts p (flat_class class)) c.in-Scratch.is in
    c.has_all.ensures ∙ ap among c.as_slice.ensures.value ∙ (λ i. reads i && among c.in-Scratch.of.items)
    ∙ writes_scratch accounts c.args.user c.in-Scratch.field-0 c.args.jobs.now c.args.held.now c.in-Scratch.of.items
    ∙ ap (λ class. may_write accounts p (flat_class class)) (sym c.in-Scratch.is)
