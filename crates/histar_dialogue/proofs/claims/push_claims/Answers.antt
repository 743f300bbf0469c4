-- Proves the goals of `push_claims` of src/claims.rt that the search leaves open.
use Rattle.std.proofs.Common.{◌≡◌, ℕ, List, ◌++◌, length, sym, ap, ◌∙◌, append-nil, rules}
use Rattle.std.specs.List.{flat_map}
use Rattle.histar_script.proofs.LineLemmas.{no_lines}
use Rattle.histar_dialogue.specs.Claims.{claims_on}
use Rattle.histar_dialogue.proofs.claims.push_claims.Goals as goal

pub returns : goal.returns
returns c =
    let none : length c.lines.rest.now ≡ 0 = search rules in
    sym (ap (λ (ls : List (List ℕ)). c.lines.claims.items ++ flat_map (claims_on c.args.path.now) ls) (no_lines c.lines.rest.now none)
    ∙ append-nil c.lines.claims.items) ∙ c.lines.invariant
