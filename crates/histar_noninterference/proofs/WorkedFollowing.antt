-- Worked scripts in which the directory of a job is followed, and whose trees are compared line by line.
use Rattle.std.specs.Prelude.{List, None, Option, Some, [], codes, refl, ◌++◌, ◌∷◌, ◌≡◌}
use Rattle.histar_flat.specs.declared.calls.CallLine.{CallLine}
use Rattle.histar_flat.specs.declared.calls.Mode.TheVariants as modes
use Rattle.histar_flat.specs.declared.calls.UnixCall.TheVariants.{Create, Rename, Rmtree, Wrap}
use Rattle.histar_flat.specs.Meaning.{boot, flat_end, meaning, without}
use Rattle.histar_flat.specs.Words.{Path}
use Rattle.histar_flat.proofs.WorkedRuns.{calls_that_end_in_a_rmdir}
use Rattle.histar_flat.proofs.WorkedScripts.{line_of, three_users, tmp_made}
use Rattle.histar_noninterference.specs.Following.{directory_of}
use Rattle.histar_noninterference.specs.Trees.{first_difference, is_below_either, tree_lines}

-- alice starts a job in /tmp/j, root renames /tmp, and alice renames the directory of the job
abbrev calls_with_renames : List CallLine
calls_with_renames = tmp_made ++
    line_of 10 (1 ∷ []) (Wrap (codes "j" ∷ codes "tmp" ∷ [])) ∷
    line_of 11 [] (Rename (codes "tmp" ∷ []) (codes "t")) ∷
    line_of 12 (1 ∷ []) (Rename (codes "j" ∷ codes "t" ∷ []) (codes "k")) ∷
    line_of 13 (1 ∷ 1 ∷ []) (Create (codes "out" ∷ codes "k" ∷ codes "t" ∷ []) modes.Open) ∷ []

-- both renames are followed
pub renames_are_followed : directory_of (1 ∷ 1 ∷ []) None (meaning three_users calls_with_renames) ≡ Some (codes "k" ∷ codes "t" ∷ [])
renames_are_followed = refl

-- a rename that is refused moves nothing: bob can't rename an entry of `/`
pub refused_renames_are_not : directory_of (1 ∷ 1 ∷ []) None (meaning three_users (tmp_made ++
    line_of 10 (1 ∷ []) (Wrap (codes "j" ∷ codes "tmp" ∷ [])) ∷
    line_of 11 (2 ∷ []) (Rename (codes "tmp" ∷ []) (codes "t")) ∷ [])) ≡ Some (codes "j" ∷ codes "tmp" ∷ [])
refused_renames_are_not = refl

-- the directory is nowhere after /t is removed with all below it
pub removals_are_followed : directory_of (1 ∷ 1 ∷ []) None
    (meaning three_users (calls_with_renames ++ line_of 14 [] (Rmtree (codes "t" ∷ [])) ∷ [])) ≡ None
removals_are_followed = refl

-- the first difference of the lines of a script's tree and of its tree without the job's calls
abbrev difference : List CallLine → Option Path
difference calls =
    let others = without (1 ∷ 1 ∷ []) calls in
    first_difference
    (is_below_either (directory_of (1 ∷ 1 ∷ []) None (meaning three_users calls))
    (directory_of (1 ∷ 1 ∷ []) None (meaning three_users others)))
    (tree_lines (flat_end three_users (boot three_users) calls)) (tree_lines (flat_end three_users (boot three_users) others))

-- what the job made lies below its directory, and is left out
pub output_is_left_out : difference calls_with_renames ≡ None
output_is_left_out = refl

-- the directory itself is compared: a `rmdir` removes it if the job made nothing
pub directory_is_compared : difference calls_that_end_in_a_rmdir ≡ Some (codes "j" ∷ codes "tmp" ∷ [])
directory_is_compared = refl
