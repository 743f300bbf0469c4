-- Proves the goals of `Dir::entries` of src/directory.rt that the search leaves open.
use Rattle.std.proofs.Common.{ℕ, List, sym, subst}
use Rattle.histar_layout.specs.Directory.{IsDirectory}
use Rattle.histar_layout.specs.Spelled.{entries_of}
use Rattle.histar_layout.proofs.DirectoryLemmas.{Entry}
use Rattle.histar_layout.proofs.EntriesRead.{IsReadTo, none_read, all_read, one_read, bytes_taken}
use Rattle.histar_layout.proofs.directory.Dir.entries.Goals as goal

pub entries-init : goal.entries-init
entries-init g c =
    subst (λ (es : List Entry). IsReadTo c.as_slice-rest.result.now es c.args.self.now) (sym c.in_ok-entries.ensures.items)
    (none_read c.as_slice-rest.result.now c.args.self.now (subst (IsDirectory c.as_slice-rest.result.now) c.self.view_is (subst
    (λ (b : List ℕ). IsDirectory b (entries_of c.self.inside.bytes.items))
    (sym c.as_slice-rest.ensures.value) c.self.invariant)))

pub entries-smaller : goal.entries-smaller
entries-smaller g c = bytes_taken c.entries.rest.now c.entries.entries.items c.args.self.now c.entries.invariant _ c.in-Some.ensures

pub entries-preserved : goal.entries-preserved
entries-preserved g c =
    subst (λ (es : List Entry). IsReadTo c.in-Some.found.2.now es c.args.self.now) (sym c.in_ok-push.ensures.items)
    (one_read c.entries.rest.now c.entries.entries.items c.args.self.now c.entries.invariant _ c.in-Some.ensures)

pub returns-clause-ok : goal.returns-clause-ok
returns-clause-ok g c = sym (all_read c.entries.rest.now c.entries.entries.items c.args.self.now c.entries.invariant c.in_default.ensures)
