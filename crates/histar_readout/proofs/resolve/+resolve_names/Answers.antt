-- Proves the goals of `+resolve_names` of src/resolve.rt that the search leaves open.
use Rattle.histar_syscall.specs.KernelModel.{state}
use Rattle.histar_readout.proofs.Resolving.{slash_resolved, nowhere_above, nowhere_below_file, nowhere_unlisted, leads_on}
use Rattle.histar_readout.proofs.resolve.+resolve_names.Goals as goal

pub returns-in_default : goal.returns-in_default
returns-in_default g t c = slash_resolved (state c.args.kernel.now) c.args.roots.now c.args.names.now c.in_default.len_below

pub returns-in_err-listing : goal.returns-in_err-listing
returns-in_err-listing g t c =
    nowhere_above (state c.args.kernel.now) c.args.roots.now c.args.names.now c.name-item.result
    c.in-len1-up.len_at_least c.name-item.is c.in_err-listing.ensures c.from_residual.result c.from_residual.ensures

pub returns-in_default-2 : goal.returns-in_default-2
returns-in_default-2 g t c =
    nowhere_below_file (state c.args.kernel.now) c.args.roots.now c.args.names.now c.name-item.result
    c.in-len1-up.len_at_least c.name-item.is c.in_ok-listing.field-0 c.in_ok-listing.ensures c.in_default-2.field-0
    c.in_default-2.is

pub returns-in_default-look_up_checked : goal.returns-in_default-look_up_checked
returns-in_default-look_up_checked g t c =
    nowhere_unlisted (state c.args.kernel.now) c.args.roots.now c.args.names.now c.name-item.result
    c.in-len1-up.len_at_least c.name-item.is c.in_ok-listing.field-0 c.in_ok-listing.ensures
    c.in-Directory.field-0 c.in-Directory.listing c.in-Directory.is c.bytes.result.now c.bytes.ensures
    c.in_default-look_up_checked.field-0 c.in_default-look_up_checked.ensures

pub returns : goal.returns
returns g t c =
    leads_on (state c.args.kernel.now) c.args.roots.now c.args.names.now c.name-item.result c.in-len1-up.len_at_least
    c.name-item.is c.in_ok-listing.field-0 c.in_ok-listing.ensures
    c.in-Directory.field-0 c.in-Directory.listing c.in-Directory.is c.bytes.result.now c.bytes.ensures c.in-Ok.found c.in-Ok.ensures
