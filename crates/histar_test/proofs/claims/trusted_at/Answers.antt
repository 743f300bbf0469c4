-- Proves the goals of `trusted_at` of src/claims.rt that the search leaves open.
use Rattle.std.proofs.Common.{ap, ◌∙◌}
use Rattle.std.specs.List.{filter_map}
use Rattle.std.specs.Prelude.{map, option_copied}
use Rattle.histar_secrecy.specs.ShownRoles.{flat_class}
use Rattle.histar_trust.specs.Findings.{running_node}
use Rattle.histar_trust.proofs.Pieces.{made_so}
use Rattle.histar_trust.proofs.ShownTrust.{has_processes}
use Rattle.histar_test.specs.Running.{shown_trusted}
use Rattle.histar_test.proofs.claims.trusted_at.Goals as goal

pub processes-requires : goal.processes-requires
processes-requires c = has_processes c.requires.2

pub returns : goal.returns
returns c =
    let way = map flat_class c.args.classes.now in
    let runners = c.in_ok-members.ensures ∙ ap (filter_map running_node) c.as_slice.ensures.value in
    made_so c.shown_text.result
    (λ text is. (
      c.in_ok-members.members.items,
      record { processes = c.in_ok-processes.processes.items; are = c.in_ok-processes.ensures; runners = runners },
      is
          ∙ (λ i. shown_trusted ((c.groups.ensures.groups ∙ ap (λ users. users.groups) c.users.ensures) i)
          (c.as_slice-2.ensures.value i) (option_copied c.args.found) way),
    ))
    c.shown_text.ensures
