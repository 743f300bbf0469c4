-- Proves the goals of `push_rights` of src/claims.rt that the search leaves open.
use Rattle.std.proofs.Common.{◌≡◌, ℕ, List, ◌++◌, length, sym, ap, ◌∙◌, append-nil, rules}
use Rattle.std.specs.List.{flat_map}
use Rattle.histar_page.proofs.WordLemmas.{no_words}
use Rattle.histar_dialogue.specs.Claims.{claim_of}
use Rattle.histar_dialogue.proofs.claims.push_rights.Goals as goal

pub returns : goal.returns
returns c =
    let none : length c.words.rest.now ≡ 0 = search rules in
    sym (ap (λ (ws : List (List ℕ)). c.words.claims.items ++ flat_map (claim_of c.args.path.now) ws) (no_words c.words.rest.now none)
    ∙ append-nil c.words.claims.items) ∙ c.words.invariant
