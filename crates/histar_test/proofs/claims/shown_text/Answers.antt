-- Proves the goals of `shown_text` of src/claims.rt that the search leaves open.
use Rattle.std.proofs.Common.{◌≡◌, List, Some, false, ap, rules, ◌∙◌}
use Rattle.std.specs.Prelude.{map, option_copied}
use Rattle.histar_flat.specs.Words.{Name, ProcName}
use Rattle.histar_layout.specs.Listing.{is_directory}
use Rattle.histar_secrecy.specs.ShownRoles.{flat_class}
use Rattle.histar_trust.specs.TrustText.{is_open_way}
use Rattle.histar_trust.proofs.Pieces.{made_so}
use Rattle.histar_test.specs.Checks.{names_text}
use Rattle.histar_test.proofs.ShownTrusted.{shown_case}
use Rattle.histar_test.proofs.claims.shown_text.Goals as goal

pub returns : goal.returns
returns c =
    let way = map flat_class c.args.classes.now in
    let node = c.in-Some.node.now in
    let there : option_copied c.args.found ≡ Some node = search rules in
    let file : is_directory node.target ≡ false = search rules in
    let closed : is_open_way way ≡ false = search rules in
    made_so c.names_text.result
    (λ text is. is
    ∙ ap (λ (ps : List (ProcName × Name)). names_text (map (λ (p : ProcName × Name). p.0) ps)) (c.as_slice.ensures.value ∙ c.in_ok-trusted.ensures)
    ∙ shown_case c.args.groups.now c.args.members.now (option_copied c.args.found) node way there file closed)
    c.names_text.ensures
