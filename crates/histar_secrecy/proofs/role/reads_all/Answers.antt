-- Proves the goals of `reads_all` of src/role.rt that the search leaves open.
use Rattle.std.proofs.Common.{◌∙◌}
use Rattle.histar_secrecy.specs.ShownRoles.{with_rights}
use Rattle.histar_secrecy.proofs.NumberedJobs.{each_mapped}
use Rattle.histar_secrecy.proofs.role.reads_all.Goals as goal

pub returns : goal.returns
returns c =
    c.reads_each.ensures ∙ each_mapped c.args.groups.now (with_rights c.args.user c.args.jobs.now c.args.held.now) c.args.classes.now
