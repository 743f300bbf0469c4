-- Proves the goals of `innermost` of src/causes.rt that the search leaves open.
use Rattle.std.proofs.Common.{ap, ◌∙◌}
use Rattle.histar_reasons.specs.Causes.{last_of}
use Rattle.histar_why.proofs.Lists.{last_is}
use Rattle.histar_why.proofs.causes.innermost.Goals as goal

pub returns-in-len1-up : goal.returns-in-len1-up
returns-in-len1-up c =
    last_is c.as_slice.result.now c.job-item.result c.in-len1-up.len_at_least c.job-item.is ∙ ap last_of c.as_slice.ensures.value
