-- Comparison of two trees line by line: each is a list of lines by rising paths, and the two lists are read side by side.
use Rattle.std.specs.Prelude.{◌≡◌, ℕ, Bool, ◌||◌, cond, List, [], ◌∷◌, Option, None, Some, map}
use Rattle.std.specs.FinMap.Entries.{by_order}
use Rattle.histar_flat.specs.declared.calls.CallLine.{CallLine}
use Rattle.histar_flat.specs.Words.{Path, ProcName}
use Rattle.histar_base.specs.Paths.{same, path_cmp}
use Rattle.histar_flat.specs.Accounts.{Accounts}
use Rattle.histar_flat.specs.FlatState.{Flat}
use Rattle.histar_flat.specs.Meaning.{boot, flat_end, meaning}
use Rattle.histar_noninterference.specs.Comparison.{node_text, first_path}
use Rattle.histar_noninterference.specs.Following.{directory_of, lies_below}

-- a path, and what is printed of it
abbrev pub PathText : Type 0
PathText = Path × List ℕ

-- the lines of a tree, by rising paths
abbrev pub tree_lines : Flat → List PathText
tree_lines f = map (λ e. (e.0, node_text e.0 e.1)) f.files.entries

-- the first path of the lines that is not left out
abbrev pub first_kept : (Path → Bool) → List PathText → Option Path
first_kept left_out [] = None
first_kept left_out (b ∷ bs) = cond (left_out b.0) (first_kept left_out bs) (Some b.0)

-- The first path at which a list of lines that begins with a differs from another list: the lesser of the two first paths is in one list
-- only; equal ones differ by their texts. What is left out is passed over, and `rest` compares the lines after a.
abbrev pub difference_from : (Path → Bool) → PathText → (List PathText → Option Path) → List PathText → Option Path
difference_from left_out a rest [] = cond (left_out a.0) (rest []) (Some a.0)
difference_from left_out a rest (b ∷ bs) = by_order (path_cmp a.0 b.0)
    (cond (left_out a.0) (rest (b ∷ bs)) (Some a.0))
    (cond (left_out a.0 || same a.1 b.1) (rest bs) (Some a.0))
    (cond (left_out b.0) (difference_from left_out a rest bs) (Some b.0))

-- the first path that is not left out at which two lists of lines differ
abbrev pub first_difference : (Path → Bool) → List PathText → List PathText → Option Path
first_difference left_out [] bs = first_kept left_out bs
first_difference left_out (a ∷ as') bs = difference_from left_out a (first_difference left_out as') bs

-- what is left out if the directories of a job are followed in two runs of a script
abbrev pub is_below_either : Option Path → Option Path → Path → Bool
is_below_either directory other q = lies_below directory q || lies_below other q

-- the first path at which the trees of two runs differ is the first difference of their lines, when what lies below the followed
-- directories is left out
abbrev pub FindsFirstPath : Type 0
FindsFirstPath = (accounts : Accounts) (calls others : List CallLine) (job : ProcName)
    → first_path job (flat_end accounts (boot accounts) calls) (flat_end accounts (boot accounts) others)
    ≡ first_difference (is_below_either (directory_of job None (meaning accounts calls)) (directory_of job None (meaning accounts others)))
    (tree_lines (flat_end accounts (boot accounts) calls)) (tree_lines (flat_end accounts (boot accounts) others))
