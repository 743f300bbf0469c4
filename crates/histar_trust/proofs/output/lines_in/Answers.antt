-- Proves the goals of `lines_in` of src/output.rt that the search leaves open.
use Rattle.std.proofs.Common.{◌≡◌, ◌++◌, ap, ◌∙◌}
use Rattle.std.specs.List.{filter_map}
use Rattle.std.specs.Prelude.{map, option_copied}
use Rattle.histar_secrecy.specs.ShownRoles.{flat_class}
use Rattle.histar_trust.specs.Findings.{AreMembers, classes_to, node_at, places_to, running_node, shown_node}
use Rattle.histar_trust.proofs.Pieces.{made_so}
use Rattle.histar_trust.proofs.ShownTrust.{has_processes, text_there}
use Rattle.histar_trust.proofs.output.lines_in.Goals as goal

pub processes-requires : goal.processes-requires
processes-requires g c = has_processes c.requires.shows.2

pub returns : goal.returns
returns g c =
    let m = c.args.machine.now in
    let path = c.args.path.now in
    let tree = c.args.tree.now in
    let members = c.in_ok-members.members.items in
    let found : AreMembers m members = record {
      processes = c.in_ok-processes.processes.items;
      are = c.in_ok-processes.ensures;
      runners = c.in_ok-members.ensures ∙ ap (filter_map running_node) c.as_slice.ensures.value;
    } in
    let classes = c.push_classes.new.classes.items in
    let are : map flat_class classes ≡ classes_to tree path =
    c.in_ok-push_classes.ensures ∙ (λ i. map flat_class (c.new-classes.ensures.items i) ++ classes_to tree (c.names.ensures.names i)) in
    let places = c.push_places.new.places.items in
    let at : places ≡ places_to tree path =
    c.in_ok-push_places.ensures ∙ (λ i. c.new-places.ensures.items i ++ places_to tree (c.names-2.ensures.names i)) in
    let there : option_copied c.node_at.result ≡ node_at path tree =
    c.node_at.ensures ∙ ap (λ names. node_at names tree) c.names-3.ensures.names in
    made_so c.scene_lines.result
    (λ text is accounts f r. is
    ∙ (λ i. shown_node (c.users.ensures i) c.args.why (c.as_slice-2.ensures.value i) (c.as_slice-3.ensures.value i) (c.as_slice-4.ensures.value i)
    (c.as_slice-5.ensures.value i) (there i))
    ∙ text_there r members found tree c.requires.tree path classes are c.args.why places at)
    c.scene_lines.ensures
