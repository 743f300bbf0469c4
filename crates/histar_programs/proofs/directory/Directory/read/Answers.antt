-- Proves the goals of `Directory::read` of src/directory.rt that the search leaves open.
use Rattle.std.proofs.Common.{Option, subst}
use Rattle.std.specs.Prelude.{MatchOption}
use Rattle.std.proofs.lemmas.Option.{MatchOption-at_some}
use Rattle.histar_flat.specs.declared.replies.Errno.TheVariants.{ENOTDIR}
use Rattle.histar_rules.specs.declared.raw.RawCall.TheVariants.{Read}
use Rattle.histar_layout.specs.Directory.{Entries, IsDirectory}
use Rattle.histar_programs.specs.declared.call_error.CallError.TheVariants.{Refused}
use Rattle.histar_programs.specs.Parts.{read_directory}
use Rattle.histar_programs.proofs.Running.{grants, refuses, lists, lists_none, fails_so}
use Rattle.histar_programs.proofs.Directories.{read_fails, list_fails, reads}
use Rattle.histar_programs.proofs.directory.Directory.read.Goals as goal

pub returns-in_err-bytes : goal.returns-in_err-bytes
returns-in_err-bytes g c =
    let call = Read c.args.place.container c.args.place.listing in
    fails_so c.args.thread (read_directory c.args.place) c.args.kernel.now c.read_copy.new.self _ _ c.from_residual.ensures.1
    (read_fails c.args.thread c.args.kernel.now c.read_copy.new.self c.args.place _
    (refuses c.args.thread call c.args.kernel.now c.read_copy.new.self _ c.in_err-bytes.field-0.0
    c.in_err-bytes.ensures.ok c.in_err-bytes.ensures.memory))

pub returns-in_default : goal.returns-in_default
returns-in_default g c =
    let call = Read c.args.place.container c.args.place.listing in
    let none =
    subst (λ (o : Option Entries). MatchOption o ((dir : Entries) → IsDirectory c.in_ok-bytes.bytes dir → ⊥)
    (IsDirectory c.in_ok-bytes.bytes)) c.in_default.is c.from_bytes.ensures in
    list_fails c.args.thread c.args.kernel.now c.read_copy.new.self c.args.place c.in_ok-bytes.bytes
    (grants c.args.thread call c.args.kernel.now c.read_copy.new.self c.in_ok-bytes.bytes c.in_ok-bytes.ensures.ok.0
    c.in_ok-bytes.ensures.ok.1)
    (Refused ENOTDIR) (lists_none c.args.thread c.in_ok-bytes.bytes c.read_copy.new.self none)

pub returns : goal.returns
returns g c =
    let call = Read c.args.place.container c.args.place.listing in
    reads c.args.thread c.args.kernel.now c.read_copy.new.self c.args.place c.in_ok-bytes.bytes
    (grants c.args.thread call c.args.kernel.now c.read_copy.new.self c.in_ok-bytes.bytes c.in_ok-bytes.ensures.ok.0
    c.in_ok-bytes.ensures.ok.1)
    c.in-Some.entries (lists c.args.thread c.in_ok-bytes.bytes c.read_copy.new.self c.in-Some.entries
    (MatchOption-at_some _ (IsDirectory c.in_ok-bytes.bytes) c.in-Some.entries c.in-Some.is c.from_bytes.ensures))
