-- Proves the goals of `count_in` of src/views.rt that the search leaves open.
use Rattle.std.proofs.Common.{[]}
use Rattle.std.proofs.lemmas.Option.{MatchOption-at_some}
use Rattle.histar_syscall.specs.KernelModel.{state}
use Rattle.histar_layout.specs.Directory.{IsDirectory}
use Rattle.histar_why.proofs.Spots.{entries_counted}
use Rattle.histar_why.proofs.views.count_in.Goals as goal

pub returns-in-Some : goal.returns-in-Some
returns-in-Some g c =
    entries_counted (state c.args.kernel.now) c.args.target.now [] c.in-Directory.field-0 c.in-Directory.listing c.in-Directory.is
    c.bytes.result.now c.bytes.ensures c.len.result _
    (MatchOption-at_some _ (IsDirectory c.bytes.result.now) _ c.in-Some.is c.in_ok-directory.ensures.ok) c.len.ensures.value
