-- The tokens of the members that parts make, one part after another.
use Rattle.std.proofs.Common.{◌≡◌, ℕ, ◌+◌, ◌<◌, ◌≤◌, List, [], ◌∷◌, ◌++◌, length, drop, map, get_or, refl, sym, ap}
use Rattle.std.proofs.Common.{◌∙◌, add-one, Some, None, codes}
use Rattle.std.proofs.Math.Seq.{drop-cons}
use Rattle.std.proofs.lemmas.List.{drop_all}
use Rattle.std.specs.Prelude.{Option}
use Rattle.json.specs.Json.{no_members}
use Rattle.json.specs.Tree.{members_tokens}
use Rattle.histar_output.specs.declared.parts.Part as code
use Rattle.json.specs.Token as tokens
use Rattle.histar_output.specs.Cuts.{cut_at}
use Rattle.histar_output.specs.Forms.{check_parts, check_all_parts}
use Rattle.histar_output.specs.Parts.{Part, upto, upto_last, rest, past, is, member_of, members_of, left_by}
use Rattle.histar_output.specs.Written.{member_tokens, part_of}

-- the tokens of the members of parts are those of the first part's member, and then those of the others
members_on : (p : Part) (ps : List Part) (text : List ℕ)
    → members_tokens (members_of (p ∷ ps) (Some text)) ≡ member_tokens (member_of p text) ++ members_tokens (members_of ps (left_by p text))
unfolding members_of
members_on (upto name kind mark) ps text = refl
members_on (upto_last name kind mark) ps text = refl
members_on (rest name kind) ps text = refl
members_on (past mark) ps text = refl
members_on (is name b) ps text = refl

-- the same at a place in a list of parts
pub members_at : (parts : List code.Part) (i : ℕ) (d : code.Part) (text : List ℕ) → i < length parts
    → members_tokens (members_of (map part_of (drop i parts)) (Some text))
    ≡ member_tokens (member_of (part_of (get_or parts i d)) text)
    ++ members_tokens (members_of (map part_of (drop (i + 1) parts)) (left_by (part_of (get_or parts i d)) text))
members_at parts i d text within =
    let place : drop i parts ≡ get_or parts i d ∷ drop (i + 1) parts = rw add-one (drop-cons parts i d within) in
    ap (λ (ps : List code.Part). members_tokens (members_of (map part_of ps) (Some text))) place
    ∙ members_on (part_of (get_or parts i d)) (map part_of (drop (i + 1) parts)) text

-- behind the last part there is no member
pub members_end : (parts : List code.Part) (i : ℕ) (left : Option (List ℕ)) → length parts ≤ i
    → members_of (map part_of (drop i parts)) left ≡ no_members
unfolding members_of
members_end parts i left behind = ap (λ ps. members_of (map part_of ps) left) (drop_all i parts behind)

-- where nothing is left there is no member
pub members_none : (ps : List Part) → members_of ps None ≡ no_members
unfolding members_of
members_none [] = refl
members_none (p ∷ ps) = refl

-- the members of a line of `check --all` are the job, and then those of a line of `check`
pub with_job : (line verdict : List ℕ) → Some verdict ≡ (cut_at (codes " ") line).1
    → members_tokens (members_of (check_all_parts line) (Some line))
    ≡ tokens.key (codes "job") ∷ tokens.string (cut_at (codes " ") line).0 ∷ members_tokens (members_of (check_parts verdict) (Some verdict))
unfolding members_of
with_job line verdict found = rw (sym found) refl

-- where nothing follows the job there are no others
pub job_alone : (line : List ℕ) → None ≡ (cut_at (codes " ") line).1
    → members_tokens (members_of (check_all_parts line) (Some line))
    ≡ tokens.key (codes "job") ∷ tokens.string (cut_at (codes " ") line).0 ∷ tokens.end_object ∷ []
unfolding members_of
job_alone line found = rw (sym found) (more (check_parts []))
  where
    more : (ps : List Part) → tokens.key (codes "job") ∷ tokens.string (cut_at (codes " ") line).0 ∷ members_tokens (members_of ps None)
        ≡ tokens.key (codes "job") ∷ tokens.string (cut_at (codes " ") line).0 ∷ tokens.end_object ∷ []
    more ps = ap (λ ms. tokens.key (codes "job") ∷ tokens.string (cut_at (codes " ") line).0 ∷ members_tokens ms) (members_none ps)
