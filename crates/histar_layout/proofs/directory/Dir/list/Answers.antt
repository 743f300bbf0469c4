-- Proves the goals of `Dir::list` of src/directory.rt that the search leaves open.
use Rattle.std.proofs.Common.{ℕ, ◌++◌, ◌∷◌, List, [], Bool, map, refl, sym, ap, subst, ◌∙◌, append_assoc, append-nil, length-append, arith}
use Rattle.std.proofs.lemmas.List.{map-append}
use Rattle.histar_flat.specs.Words.{Name}
use Rattle.histar_layout.specs.Directory.{IsDirectory, IsListable}
use Rattle.histar_layout.specs.Spelled.{entries_of}
use Rattle.histar_layout.specs.Listing.{shown_entry}
use Rattle.histar_layout.proofs.EntriesRead.{none_read, all_read, one_read, more_left, bytes_taken}
use Rattle.histar_layout.proofs.DirectoryLemmas.{Entry}
use Rattle.histar_layout.proofs.directory.Dir.list.Goals as goal

pub entries-init : goal.entries-init
entries-init c = (
  [],
  none_read c.as_slice-rest.result.now c.args.self.now (subst (IsDirectory c.as_slice-rest.result.now) c.self.view_is (subst
      (λ (b : List ℕ). IsDirectory b (entries_of c.self.inside.bytes.items)) (sym c.as_slice-rest.ensures.value)
      c.self.invariant)),
  sym (append-nil c.args.names.now.items),
  omega arith,
  refl,
)

pub entries-smaller : goal.entries-smaller
entries-smaller c = bytes_taken c.entries.rest.now c.entries.invariant.0 c.args.self.now c.entries.invariant.1 _ c.in-Some.ensures

pub push_reserved-requires : goal.push_reserved-requires
push_reserved-requires c =
    let more = more_left c.entries.rest.now c.entries.invariant.0 c.args.self.now c.entries.invariant.1 _ c.in-Some.ensures in
    let few = (subst IsListable c.self.view_is c.self.invariant.listable).few in
    let room = c.requires in
    omega (arith, more, few, room, c.entries.invariant.3, c.entries.invariant.4)

pub entries-preserved : goal.entries-preserved
entries-preserved c =
    let e : Entry = (c.in-Some.found.0, c.in-Some.found.1) in (
      c.entries.invariant.0 ++ e ∷ [],
      one_read c.entries.rest.now c.entries.invariant.0 c.args.self.now c.entries.invariant.1 _ c.in-Some.ensures,
      c.push_reserved.ensures.items ∙ (λ i. c.entries.invariant.2 i ++ (c.in-Some.found.0, c.is_directory.ensures i) ∷ [])
          ∙ append_assoc c.args.names.now.items (map shown_entry c.entries.invariant.0) (shown_entry e ∷ [])
          ∙ ap (λ (shown : List (Name × Bool)). c.args.names.now.items ++ shown) (sym (map-append shown_entry c.entries.invariant.0 (e ∷ []))),
      omega (arith, c.entries.invariant.3, c.push_reserved.ensures.len, length-append c.entries.invariant.0 (e ∷ [])),
      c.push_reserved.ensures.capacity ∙ c.entries.invariant.4,
    )

pub returns : goal.returns
returns c =
    c.entries.invariant.2
    ∙ ap (λ (es : List Entry). c.args.names.now.items ++ map shown_entry es)
    (sym (all_read c.entries.rest.now c.entries.invariant.0 c.args.self.now c.entries.invariant.1 c.in_default.ensures))
