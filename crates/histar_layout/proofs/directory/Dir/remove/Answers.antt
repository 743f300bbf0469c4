-- Proves the goals of `Dir::remove` of src/directory.rt that the search leaves open.
use Rattle.std.proofs.Common.{List, ℕ, sym, ap, subst, ◌∙◌}
use Rattle.std.specs.FinMap as map
use Rattle.std.specs.List.{remove_range}
use Rattle.histar_layout.specs.Directory.{Entries, IsListable, IsDirectory}
use Rattle.histar_layout.specs.Spelled.{entries_of}
use Rattle.histar_layout.proofs.Spans.{entry_taken}
use Rattle.histar_layout.proofs.Spellings.{directory_spelled, is_spelled}
use Rattle.histar_layout.proofs.directory.Dir.remove.Goals as goal

-- the bytes are the directory without the entry
without_entry : (c : goal.After-drop-drain)
    → IsDirectory c.drop-drain.new.self.0.items (map.remove (entries_of c.self.inside.bytes.items) c.args.name.now)
without_entry c =
    let old = c.self.inside.bytes.items in
    let dir = entries_of old in
    let seen : IsDirectory c.as_slice.result.now dir = subst (λ (b : List ℕ). IsDirectory b dir) (sym c.as_slice.ensures.value) c.self.invariant in
    entry_taken c.as_slice.result.now c.drop-drain.new.self.0.items dir c.args.name.now c.span_of-span.result.start
    c.span_of-span.result.end seen (c.span_of-span.ensures dir seen)
    (c.drop-drain.ensures.items ∙ c.drain.ensures.kept
    ∙ ap (λ (b : List ℕ). remove_range b c.span_of-span.result.start c.span_of-span.result.end)
    (sym c.as_slice.ensures.value))

pub invariant_of-self : goal.invariant_of-self
invariant_of-self c = is_spelled _ _ (without_entry c)

pub returns-clause-without : goal.returns-clause-without
returns-clause-without c = directory_spelled _ _ (without_entry c) ∙ ap (λ (dir : Entries). map.remove dir c.args.name.now) c.self.view_is

pub returns-clause-listable : goal.returns-clause-listable
returns-clause-listable c = subst IsListable c.self.view_is c.self.invariant.listable
